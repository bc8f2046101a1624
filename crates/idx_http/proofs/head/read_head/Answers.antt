use Rattle.std.proofs.Common.{◌≡◌, ◌<◌, ◌∙◌, List, ℕ, length, sym, subst, arith, Option}
use Rattle.idx_outside.specs.Input.{Reading, behind, read_once_more}
use Rattle.idx_http.specs.declared.head.HeadRead.TheVariants as R
use Rattle.idx_http.specs.Heads.{head_limit, window}
use Rattle.idx_http.specs.Read.{IsLook, IsWanting, ReadsFronts}
use Rattle.idx_http.specs.declared.look.Look.TheVariants as L
use Rattle.idx_http.proofs.NextLemmas.{Told, taken_told, bad_told, full_told, told_by}
use Rattle.idx_http.proofs.ReadingLemmas.{read_more}
use Rattle.idx_http.proofs.head.read_head.Goals as goal

pub returns-in-Whole-clause-read : goal.returns-in-Whole-clause-read
returns-in-Whole-clause-read g c =
    let come = g.L.Link.incoming c.heads.link in
    let left = c.take_head.new.pending in
    subst (λ o. Told o (behind left come) c.take_head.result) c.heads.invariant.input (taken_told c.heads.pending left come c.take_head.result c.take_head.ensures)

pub returns-in-Bad-clause-read : goal.returns-in-Bad-clause-read
returns-in-Bad-clause-read g c =
    let come = g.L.Link.incoming c.heads.link in
    told_by _ come c.heads.pending R.Bad c.heads.invariant.input (bad_told c.heads.pending come c.in-Bad.ensures.1)

pub returns-then-len-ge-HEAD_LIMIT-clause-read : goal.returns-then-len-ge-HEAD_LIMIT-clause-read
returns-then-len-ge-HEAD_LIMIT-clause-read g c =
    let come = g.L.Link.incoming c.heads.link in
    let kept = c.heads.pending in
    let front = c.in-Front.ensures in
    told_by _ come kept R.TooBig c.heads.invariant.input
    (full_told kept come (omega (arith, c.if-len-ge-HEAD_LIMIT.true, c.len.ensures)) front.0 front.1)

-- the link was read while only a front was kept
reads_on : (input written : Option (List ℕ)) (old mid new : Option (List Reading)) (kept : List ℕ) (come now : Option (List ℕ)) → ReadsFronts input written old mid
    → behind kept come ≡ input → now ≡ written → IsLook (window kept) L.Front → length kept < head_limit → new ≡ read_once_more mid come now
    → ReadsFronts input written old new
reads_on input written old mid new kept come now reads whole same front short more =
    let wanting : IsWanting kept = record { front = record { none = front.0; goes_on = front.1 }; short = short } in
    subst (ReadsFronts input written old) (sym more) (read_more input written old mid kept come now whole same wanting reads)

pub returns-in-Ok-eq0-clause-readings : goal.returns-in-Ok-eq0-clause-readings
returns-in-Ok-eq0-clause-readings g c =
    let l = c.heads in
    reads_on _ _ _ _ _ l.pending (g.L.Link.incoming l.link) (g.L.Link.written l.link) l.invariant.readings l.invariant.input l.invariant.written
    c.in-Front.ensures (omega (arith, c.if-len-ge-HEAD_LIMIT.false, c.len.ensures)) c.fill.ensures.readings

pub returns-in-Err-clause-readings : goal.returns-in-Err-clause-readings
returns-in-Err-clause-readings g c =
    let l = c.heads in
    reads_on _ _ _ _ _ l.pending (g.L.Link.incoming l.link) (g.L.Link.written l.link) l.invariant.readings l.invariant.input l.invariant.written
    c.in-Front.ensures (omega (arith, c.if-len-ge-HEAD_LIMIT.false, c.len.ensures)) c.fill.ensures.readings

pub heads-preserved : goal.heads-preserved
heads-preserved g c =
    let l = c.heads in
    record {
      input = c.fill.ensures.input ∙ l.invariant.input;
      readings = reads_on _ _ _ _ _ l.pending (g.L.Link.incoming l.link) (g.L.Link.written l.link) l.invariant.readings l.invariant.input l.invariant.written
          c.in-Front.ensures (omega (arith, c.if-len-ge-HEAD_LIMIT.false, c.len.ensures)) c.fill.ensures.readings;
      written = c.fill.ensures.written ∙ l.invariant.written;
      quiet = c.in-Ok.ensures.quiet ∙ l.invariant.quiet;
    }
