use Rattle.std.proofs.Common.{◌≡◌, IfSome}
use Rattle.idx_outside.specs.Files.{StillAdmits}
use Rattle.idx_header.proofs.RevisionLemmas.{StandBelow}
use Rattle.idx_header.proofs.header.Header.next_revision.Given as goal

-- the revisions so far stand, and the bay is as it was
abbrev pub invariant-loop-revision : goal.invariant-loop-revision
invariant-loop-revision g l =
    let bay = g.B.Bay in
    record {
      stand : IfSome (bay.files l.fn.bay) (λ files. StandBelow l.self l.step files l.revision);
      header : bay.header l.bay ≡ bay.header l.fn.bay;
      files : bay.files l.bay ≡ bay.files l.fn.bay;
      admits : StillAdmits bay.admits l.fn.bay l.bay;
      begun : bay.begun l.bay ≡ bay.begun l.fn.bay;
      changes : bay.changes l.bay ≡ bay.changes l.fn.bay;
      failed : bay.failed l.bay ≡ bay.failed l.fn.bay;
      quiet : bay.faults l.bay ≡ bay.faults l.fn.bay;
    }
