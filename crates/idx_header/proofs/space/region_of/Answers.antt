use Rattle.std.proofs.Common.{◌≡◌, ◌≤◌, ◌∙◌, ℕ, List, take, length, sym, ap, subst, arith}
use Rattle.std.proofs.lemmas.List.{take_all}
use Rattle.std.specs.List.{zip}
use Rattle.idx_geom.specs.Point.{IsCoordinates}
use Rattle.idx_geom.specs.Region.{AreEnds, lower_ends, upper_ends}
use Rattle.idx_header.proofs.BoxLemmas.{has_ends, zip_ends}
use Rattle.idx_header.proofs.space.region_of.Goals as goal

-- at the end of the loop each pair was read
lowers : (pairs : List (ℕ × ℕ)) (i : ℕ) (items los : List ℕ) → los ≡ items → items ≡ lower_ends (take i pairs) → length pairs ≤ i → los ≡ lower_ends pairs
lowers pairs i items los e f l = e ∙ f ∙ ap lower_ends (take_all i pairs l)

uppers : (pairs : List (ℕ × ℕ)) (i : ℕ) (items his : List ℕ) → his ≡ items → items ≡ upper_ends (take i pairs) → length pairs ≤ i → his ≡ upper_ends pairs
uppers pairs i items his e f l = e ∙ f ∙ ap upper_ends (take_all i pairs l)

pub region_between-requires-clause-lower : goal.region_between-requires-clause-lower
region_between-requires-clause-lower c =
    let low = lowers c.args.pairs.now c.loop-pair.pair-index c.loop-pair.lower.items c.deref.result.now c.deref.ensures.0 c.loop-pair.invariant.lower (omega arith) in
    subst IsCoordinates (sym low) (has_ends c.args.pairs.now c.requires.region c.requires.small).lower

pub region_between-requires-clause-upper : goal.region_between-requires-clause-upper
region_between-requires-clause-upper c =
    let high = uppers c.args.pairs.now c.loop-pair.pair-index c.loop-pair.upper.items c.deref-2.result.now c.deref-2.ensures.0 c.loop-pair.invariant.upper (omega arith) in
    subst IsCoordinates (sym high) (has_ends c.args.pairs.now c.requires.region c.requires.small).upper

pub region_between-requires-clause-ends : goal.region_between-requires-clause-ends
region_between-requires-clause-ends c =
    let low = lowers c.args.pairs.now c.loop-pair.pair-index c.loop-pair.lower.items c.deref.result.now c.deref.ensures.0 c.loop-pair.invariant.lower (omega arith) in
    let high = uppers c.args.pairs.now c.loop-pair.pair-index c.loop-pair.upper.items c.deref-2.result.now c.deref-2.ensures.0 c.loop-pair.invariant.upper (omega arith) in
    subst (λ (los : List ℕ). AreEnds los c.deref-2.result.now) (sym low)
    (subst (λ (his : List ℕ). AreEnds (lower_ends c.args.pairs.now) his) (sym high) (has_ends c.args.pairs.now c.requires.region c.requires.small).ends)

pub returns : goal.returns
returns c =
    let low = lowers c.args.pairs.now c.loop-pair.pair-index c.loop-pair.lower.items c.deref.result.now c.deref.ensures.0 c.loop-pair.invariant.lower (omega arith) in
    let high = uppers c.args.pairs.now c.loop-pair.pair-index c.loop-pair.upper.items c.deref-2.result.now c.deref-2.ensures.0 c.loop-pair.invariant.upper (omega arith) in
    c.region_between.ensures ∙ ap (λ los. zip los c.deref-2.result.now) low ∙ ap (zip (lower_ends c.args.pairs.now)) high ∙ zip_ends c.args.pairs.now
