use Rattle.std.proofs.Common.{◌≡◌, List, ℕ, set, sym, ap, ◌∙◌, rules, subst}
use Rattle.std.specs.List.{zip}
use Rattle.idx_geom.specs.Region.{AreEnds, lower_ends, upper_ends}
use Rattle.idx_geom.proofs.RegionSteps.{some_from_SomeIff}
use Rattle.std.proofs.lemmas.Option.{same_Some}
use Rattle.idx_pieces.proofs.RankLemmas.{AreWithin, ends_bounded, zip_bounded}
use Rattle.idx_pieces.proofs.regions.bounded_on.Goals as goal

pub unwrap-requires : goal.unwrap-requires
unwrap-requires c =
    let box = c.args.region.now in
    let within : AreWithin box c.args.axis c.args.from c.args.to =
    record { inside = c.requires.axis; low = c.requires.low; ordered = c.requires.ordered; high = c.requires.high } in
    let lows : c.with_coordinate-lo.result ≡ set (lower_ends box) c.args.axis c.args.from = c.with_coordinate-lo.ensures ∙ ap (λ (p : List ℕ). set p c.args.axis c.args.from) c.lo.ensures in
    let highs : c.with_coordinate-hi.result ≡ set (upper_ends box) c.args.axis c.args.to = c.with_coordinate-hi.ensures ∙ ap (λ (p : List ℕ). set p c.args.axis c.args.to) c.hi.ensures in
    let ends = ends_bounded c.args.axis c.args.from c.args.to box c.requires.valid within in
    let are : AreEnds c.with_coordinate-lo.result c.with_coordinate-hi.result =
    subst (λ (p : List ℕ). AreEnds p c.with_coordinate-hi.result) (sym lows) (subst (λ (p : List ℕ). AreEnds (set (lower_ends box) c.args.axis c.args.from) p) (sym highs) ends) in
    rw (some_from_SomeIff c.new.result _ c.new.ensures are) (search rules)

pub returns : goal.returns
returns c =
    let box = c.args.region.now in
    let within : AreWithin box c.args.axis c.args.from c.args.to =
    record { inside = c.requires.axis; low = c.requires.low; ordered = c.requires.ordered; high = c.requires.high } in
    let lows : c.with_coordinate-lo.result ≡ set (lower_ends box) c.args.axis c.args.from = c.with_coordinate-lo.ensures ∙ ap (λ (p : List ℕ). set p c.args.axis c.args.from) c.lo.ensures in
    let highs : c.with_coordinate-hi.result ≡ set (upper_ends box) c.args.axis c.args.to = c.with_coordinate-hi.ensures ∙ ap (λ (p : List ℕ). set p c.args.axis c.args.to) c.hi.ensures in
    let ends = ends_bounded c.args.axis c.args.from c.args.to box c.requires.valid within in
    let are : AreEnds c.with_coordinate-lo.result c.with_coordinate-hi.result =
    subst (λ (p : List ℕ). AreEnds p c.with_coordinate-hi.result) (sym lows) (subst (λ (p : List ℕ). AreEnds (set (lower_ends box) c.args.axis c.args.from) p) (sym highs) ends) in
    same_Some c.unwrap.result (zip c.with_coordinate-lo.result c.with_coordinate-hi.result) (sym c.unwrap.ensures ∙ some_from_SomeIff c.new.result _ c.new.ensures are)
    ∙ ap (λ (p : List ℕ). zip p c.with_coordinate-hi.result) lows
    ∙ ap (λ (p : List ℕ). zip (set (lower_ends box) c.args.axis c.args.from) p) highs
    ∙ zip_bounded c.args.axis c.args.from c.args.to box
