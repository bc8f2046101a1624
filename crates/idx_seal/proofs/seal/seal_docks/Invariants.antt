use Rattle.std.proofs.Common.{◌≡◌, ℕ, ◌+◌, ◌≤◌, ◌++◌, All, None, map, vec_len}
use Rattle.std.specs.Prelude.{vec_capacity}
use Rattle.std.specs.List.{AllByRecursion}
use Rattle.std.specs.Vec.Iter.{into_iter_items, into_iter_len}
use Rattle.idx_outside.specs.Files.{known_files, shown}
use Rattle.idx_header.specs.Names.{file_name}
use Rattle.idx_dock.specs.Dock.{missing}
use Rattle.idx_seal.specs.Bay.{Keeps}
use Rattle.idx_seal.specs.Files.{dock_file}
use Rattle.idx_seal.specs.Jobs.{IsFinished}
use Rattle.idx_seal.proofs.seal.seal_docks.Given as goal

-- the leaves so far, and the files of the docks that are left behind them, are all
abbrev pub invariant-rows : goal.invariant-rows
invariant-rows g l =
    let bay = g.B.Bay in
    let known = bay.files l.fn.bay in
    record {
      all : shown g.B.Leaf.Leaf.contents l.leaves.items ++ known_files known (map (dock_file l.layout l.header l.step) (into_iter_items l.docks)) ≡ known_files known (map (dock_file l.layout l.header l.step) l.fn.docks.items);
      finished : All (IsFinished g.B.Leaf.Leaf.path g.B.Leaf.Leaf.faults known) l.leaves.items;
      complete : AllByRecursion (λ d. missing d ≡ None) (into_iter_items l.docks);
      room : vec_len l.leaves + into_iter_len l.docks ≤ vec_capacity l.leaves;
      admits : (file : ℕ) → bay.admits l.bay (file_name l.header l.step file);
      kept : Keeps bay.header bay.files bay.begun bay.admits bay.faults l.fn.bay l.bay;
      quiet : bay.faults l.bay ≡ bay.faults l.fn.bay;
      failed : bay.failed l.bay ≡ bay.failed l.fn.bay;
    }

abbrev pub decreases-rows : goal.decreases-rows
decreases-rows g l = into_iter_len l.docks
