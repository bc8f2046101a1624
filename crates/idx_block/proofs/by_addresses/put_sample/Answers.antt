use Rattle.std.proofs.Common.{◌≡◌, ℕ, ◌+◌, ◌-◌, ◌*◌, ◌<◌, ◌≤◌, List, true, false, subst, length, take, drop, sym, ap, ◌∙◌, arith, rules}
use Rattle.std.proofs.Math.Nat.{mul_comm}
use Rattle.std.proofs.lemmas.Nat.{row_fits}
use Rattle.std.proofs.lemmas.Option.{slice_get_within}
use Rattle.idx_geom.specs.Region.{LiesIn, points}
use Rattle.idx_geom.proofs.LiesInLemmas.{length_from_LiesIn}
use Rattle.idx_hz.proofs.RegionLemmas.{HasAddress-from_end}
use Rattle.idx_block.specs.Stored.{stored}
use Rattle.idx_block.proofs.StoredLemmas.{stored-point, stored-none}
use Rattle.idx_block.proofs.by_addresses.put_sample.Goals as goal

fits : (size at count room : ℕ) → at < count → room ≡ size * count → size * at + size ≤ room
fits size at count room below whole =
    omega (arith, whole, row_fits at size count size below (omega arith), mul_comm size at, mul_comm size count)

pub slice_bounds-copy_from_slice-end : goal.slice_bounds-copy_from_slice-end
slice_bounds-copy_from_slice-end c =
    let below = slice_get_within (points c.args.region.now) c.rank_of.result c.point_of_hz-p.result c.rank_of.ensures.found in
    let room = fits (length c.args.into.now) c.rank_of.result (length (points c.args.region.now)) (length c.args.samples.now) below c.requires.samples in
    search rules

pub returns-then-contains : goal.returns-then-contains
returns-then-contains c =
    let mask = c.args.mask.now in
    let region = c.args.region.now in
    let size : ℕ = length c.args.into.now in
    let raw : List ℕ = c.args.samples.now in
    let p = c.point_of_hz-p.result in
    let at : ℕ = size * c.rank_of.result in
    let count : (at + size) - at ≡ size = omega arith in
    c.copy_from_slice.ensures.after
    ∙ ap (λ n. take n (drop at raw)) count
    ∙ ap (λ n. take size (drop (size * n) raw)) c.rank_of.ensures.place
    ∙ sym (stored-point mask region size raw p (λ q inside. HasAddress-from_end mask region q c.requires.address inside) (c.contains.ensures.0 c.if-contains.true))
    ∙ ap (stored mask region size raw) c.point_of_hz-p.ensures.address

pub returns-else-contains : goal.returns-else-contains
returns-else-contains c =
    let mask = c.args.mask.now in
    let region = c.args.region.now in
    let size : ℕ = length c.args.into.now in
    let p = c.point_of_hz-p.result in
    let outside : LiesIn region p → ⊥ = λ inside. wrong (sym c.if-contains.false ∙ c.contains.ensures.1 inside) in
    c.fill.ensures.after (λ y e. e)
    ∙ sym (stored-none mask region size c.args.samples.now c.args.address
    (λ q inside address.
    let same : q ≡ p = c.point_of_hz-p.ensures.only q (length_from_LiesIn region q inside ∙ sym c.axes.ensures.count) (HasAddress-from_end mask region q c.requires.address inside) address in
    outside (subst (λ (x : List ℕ). LiesIn region x) same inside)))
  where
    wrong : false ≡ true → ⊥
    wrong e = cc
