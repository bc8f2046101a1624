use Rattle.std.proofs.Common.{◌≡◌, true, false, ◌∙◌, sym, arith}
use Rattle.idx_fields.specs.Fields.{identity}
use Rattle.idx_fields.proofs.AgreeLemmas.{agree_at}
use Rattle.idx_fields.proofs.field_list.all_agree.Goals as goal

not_so : false ≡ true → ⊥
not_so e = cc

pub returns-then-not-agrees : goal.returns-then-not-agrees
returns-then-not-agrees c = (
  (λ t. absurd (not_so t)),
  (λ all.
      let this = c.index-these-i.result in
      let that = c.index-those-i.result in
      let at = agree_at c.args.these.now c.args.those.now c.loop-i.i this that (omega arith) (omega arith) all in
      let same : identity this ≡ identity that = cc in
      sym c.if-not-agrees.true ∙ c.agrees.ensures.1 same),
)
