use Rattle.std.proofs.Common.{◌≡◌}
use Rattle.std.specs.Prelude.{replicate}
use Rattle.idx_outside.specs.Contents.{appended}
use Rattle.idx_dock.proofs.gathered.put_copies.Given as goal

-- what is written, and the zeros that are left behind it, are all
abbrev pub invariant-loop-left : goal.invariant-loop-left
invariant-loop-left g l =
    let draft = g.D.Draft in
    record {
      written : appended (appended (draft.contents l.draft) l.buffer.items) (replicate l.left 0)
          ≡ appended (appended (draft.contents l.fn.draft) l.fn.buffer.items) (replicate l.count 0);
      quiet : draft.faults l.draft ≡ draft.faults l.fn.draft;
      path : draft.path l.draft ≡ draft.path l.fn.draft;
    }

abbrev pub decreases-loop-left : goal.decreases-loop-left
decreases-loop-left g l = l.left
