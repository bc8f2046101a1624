use Rattle.std.proofs.Common.{◌≡◌, ℕ, ◌+◌, ◌≤◌, ◌++◌, All, None, map, vec_len}
use Rattle.std.specs.Prelude.{vec_capacity}
use Rattle.std.specs.List.{AllByRecursion}
use Rattle.std.specs.Vec.Iter.{into_iter_items, into_iter_len}
use Rattle.idx_header.specs.Names.{file_name}
use Rattle.idx_dock.specs.Dock.{missing}
use Rattle.idx_seal.specs.Bay.{Keeps}
use Rattle.idx_seal.specs.Files.{dock_file}
use Rattle.idx_seal.specs.Jobs.{IsOpened, planned}
use Rattle.idx_seal.proofs.opening.open_row.Given as goal

-- the files of the jobs so far, and those of the docks that are left behind them, are all
abbrev pub invariant-loop-opened : goal.invariant-loop-opened
invariant-loop-opened g l =
    let bay = g.B.Bay in
    record {
      opened : All (IsOpened g.B.Draft.Draft.contents g.B.Draft.Draft.path g.B.Draft.Draft.faults (bay.files l.fn.bay)) l.jobs.items;
      all : map planned l.jobs.items ++ map (dock_file l.layout l.header l.step) (into_iter_items l.docks) ≡ map (dock_file l.layout l.header l.step) (into_iter_items l.fn.docks);
      complete : AllByRecursion (λ d. missing d ≡ None) (into_iter_items l.docks);
      number : vec_len l.jobs ≡ l.opened;
      left : into_iter_len l.docks + l.opened ≡ into_iter_len l.fn.docks;
      room : l.count ≤ vec_capacity l.jobs;
      admits : (file : ℕ) → bay.admits l.bay (file_name l.header l.step file);
      kept : Keeps bay.header bay.files bay.begun bay.admits bay.faults l.fn.bay l.bay;
      quiet : bay.faults l.bay ≡ bay.faults l.fn.bay;
      failed : bay.failed l.bay ≡ bay.failed l.fn.bay;
    }
