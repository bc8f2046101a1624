use Rattle.std.proofs.Common.{subst}
use Rattle.idx_turn.specs.LockId.{LockId}
use Rattle.idx_header.specs.Header.{HeaderValue}
use Rattle.idx_test_writing.specs.Ready.{IsWriter}
use Rattle.idx_test_writing.proofs.stage.stage_of.Goals as goal

pub invariant_of-result : goal.invariant_of-result
invariant_of-result g c =
    let made = c.in_ok-ready in
    let writer = c.ingest-writer.result.0 in
    record {
      seat =
          subst (λ (lock : LockId). IsWriter lock c.in_ok-site.field-0.site.header writer) made.ensures.lock
          (subst (λ (h : HeaderValue). IsWriter made.ready.lock.now h writer) (λ i. (made.ensures.site i).header) c.ingest-writer.ensures);
    }
