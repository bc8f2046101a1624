use Rattle.std.proofs.Common.{◌≡◌, ◌-◌, length, map, drop}
use Rattle.idx_outside.specs.Files.{StillAdmits, shown}
use Rattle.idx_outside.specs.Objects.{SameContents, contents_at}
use Rattle.idx_pieces.specs.Ranks.{rank_count}
use Rattle.idx_gather.specs.States.{AreFirstFiles}
use Rattle.idx_gather.proofs.sealing_all.seal_all.Given as goal

-- the step is the same, no count has changed, and the files so far are the first ones
abbrev pub invariant-windows : goal.invariant-windows
invariant-windows g l =
    let h = l.fn.opening.header in
    record {
      header : l.opening.header ≡ h;
      step : l.opening.step ≡ l.fn.opening.step;
      ranks : l.opening.ranks ≡ l.fn.opening.ranks;
      room : l.opening.room ≡ l.fn.opening.room;
      layout : l.opening.layout ≡ l.fn.opening.layout;
      pieces : l.opening.pieces ≡ l.fn.opening.pieces;
      files : l.opening.files ≡ l.fn.opening.files;
      number : length l.raws.items ≡ length l.fn.raws.items;
      same : SameContents g.V.Source.contents l.fn.raws.items l.raws.items;
      quiet : map g.V.Source.faults l.raws.items ≡ map g.V.Source.faults l.fn.raws.items;
      idle : drop (rank_count h.box (length l.fn.raws.items)) l.raws.items ≡ drop (rank_count h.box (length l.fn.raws.items)) l.fn.raws.items;
      bay_files : g.B.Bay.files l.bay ≡ g.B.Bay.files l.fn.bay;
      bay_header : g.B.Bay.header l.bay ≡ g.B.Bay.header l.fn.bay;
      begun : g.B.Bay.begun l.bay ≡ g.B.Bay.begun l.fn.bay;
      failed : g.B.Bay.failed l.bay ≡ g.B.Bay.failed l.fn.bay;
      faults : g.B.Bay.faults l.bay ≡ g.B.Bay.faults l.fn.bay;
      still : StillAdmits g.B.Bay.admits l.fn.bay l.bay;
      first : AreFirstFiles l.fn.opening.layout h l.fn.opening.step (g.B.Bay.files l.fn.bay) (contents_at g.V.Source.contents l.fn.raws.items 0) l.fn.opening.files.items
          (shown g.B.Leaf.Leaf.contents l.opening.leaves.items);
    }

-- fewer files are left
abbrev pub decreases-windows : goal.decreases-windows
decreases-windows g l = length l.opening.files.items - length l.opening.leaves.items
