use Rattle.std.proofs.Common.{◌≡◌, ℕ, List, sym, ap, ◌∙◌}
use Rattle.std.specs.List.{zip}
use Rattle.idx_geom.specs.Region.{lower_ends, upper_ends}
use Rattle.idx_geom.proofs.PaddedLemmas.{equal_iff}
use Rattle.idx_geom.proofs.RegionSteps.{zip-ends}
use Rattle.idx_header.proofs.header.same_region.Goals as goal

-- regions with equal ends are equal
by_ends : (r s : List (ℕ × ℕ)) → lower_ends r ≡ lower_ends s → upper_ends r ≡ upper_ends s → r ≡ s
by_ends r s lower upper =
    sym (zip-ends r) ∙ ap (λ t. zip t (upper_ends r)) lower ∙ ap (zip (lower_ends s)) upper ∙ zip-ends s

pub returns-then-eq : goal.returns-then-eq
returns-then-eq c = (
  λ same.
      let lower = (equal_iff 5 c.lo.result c.lo-2.result).0 (sym c.if-eq.ensures) in
      let upper = (equal_iff 5 c.hi.result c.hi-then-eq.result).0 (sym c.eq-then-eq.ensures ∙ same) in
      by_ends c.args.these.now c.args.those.now (sym c.lo.ensures ∙ lower ∙ c.lo-2.ensures) (sym c.hi.ensures ∙ upper ∙ c.hi-then-eq.ensures),
  λ same.
      let upper : c.hi.result ≡ c.hi-then-eq.result = c.hi.ensures ∙ ap upper_ends same ∙ sym c.hi-then-eq.ensures in
      c.eq-then-eq.ensures ∙ (equal_iff 5 c.hi.result c.hi-then-eq.result).1 upper,
)
