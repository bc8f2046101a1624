use Rattle.std.proofs.Common.{◌≡◌, ℕ, ◌+◌, ◌-◌, ◌≤◌, List, length, take, ap, ◌∙◌, arith}
use Rattle.std.specs.Prelude.{replicate}
use Rattle.std.proofs.lemmas.List.{take-replicate, replicate-append-replicate}
use Rattle.idx_outside.specs.Contents.{appended}
use Rattle.idx_outside.proofs.ContentsLemmas.{appended-appended}
use Rattle.idx_dock.proofs.gathered.put_copies.Goals as goal

front : (zeros : List ℕ) (n : ℕ) → zeros ≡ replicate (length zeros) 0 → n ≤ length zeros → take n zeros ≡ replicate n 0
front zeros n is le = ap (take n) is ∙ take-replicate n (length zeros) 0 le

pub loop-left-preserved : goal.loop-left-preserved
loop-left-preserved g c =
    let draft = g.D.Draft in
    let before = appended (draft.contents c.loop-left.draft) c.loop-left.buffer.items in
    let some : ℕ = c.min-some.result in
    let rest : ℕ = c.loop-left.left - some in
    let parts : some + rest ≡ c.loop-left.left = omega arith in
    record {
      written = ap (λ o. appended o (replicate rest 0)) (c.in_ok-put.ensures.written ∙ ap (appended before) (front c.args.zeros.now some c.requires.zeros (omega arith)))
          ∙ appended-appended before (replicate some 0) (replicate rest 0)
          ∙ ap (appended before) (replicate-append-replicate some rest 0 ∙ ap (λ n. replicate n 0) parts)
          ∙ c.loop-left.invariant.written;
      quiet = c.in_ok-put.ensures.quiet ∙ c.loop-left.invariant.quiet;
      path = c.put.ensures.path ∙ c.loop-left.invariant.path;
    }
