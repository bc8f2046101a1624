-- The bounds that two lists of ends make, and their number of points.
use Rattle.std.proofs.Common.{◌≡◌, ℕ, ◌+◌, ◌-◌, ◌*◌, ◌/◌, ◌^◌, ◌<◌, ◌≤◌, List, [], ◌∷◌, length, drop, get_or, sym, ap, ◌∙◌, arith, subst, All}
use Rattle.std.specs.List.{zip}
use Rattle.std.proofs.lemmas.List.{drop_more, get_or_default}
use Rattle.std.proofs.lemmas.Nat.{mul-le}
use Rattle.std.proofs.lemmas.List.Elements.{All-head, All-tail}
use Rattle.std.proofs.lemmas.Slice.Zip.{get_or-zip, length-zip}
use Rattle.std.proofs.Math.Nat.{div-lt_iff_lt-mul, div-mul-le_self, mul-le-mul_left, mul_comm, mul_assoc}
use Rattle.idx_geom.specs.Point.{IsPoint}
use Rattle.idx_geom.specs.Region.{extent, points, IsRegion}
use Rattle.idx_geom.proofs.PointsLemmas.{size, length-points}

-- no lower end passes its upper end
abbrev pub IsOrdered : List (ℕ × ℕ) → Type 0
IsOrdered bs = All (λ b. b.0 ≤ b.1) bs

pub length-zip_ends : (lo hi : List ℕ) → length lo ≡ length hi → length (zip lo hi) ≡ length lo
length-zip_ends lo hi same = omega (arith, length-zip lo hi)

pub IsOrdered-zip : (lo hi : List ℕ) → length lo ≡ length hi → ((k : ℕ) → k < length lo → get_or lo k 0 ≤ get_or hi k 0) → IsOrdered (zip lo hi)
IsOrdered-zip lo hi same each k d h =
    let inside : k < length lo = omega (arith, length-zip lo hi) in
    let inside_hi : k < length hi = omega arith in
    let here : get_or (zip lo hi) k d ≡ (get_or lo k d.0, get_or hi k d.1) = get_or-zip lo hi k d inside inside_hi in
    let low : get_or lo k d.0 ≡ get_or lo k 0 = get_or_default lo k d.0 0 inside in
    let high : get_or hi k d.1 ≡ get_or hi k 0 = get_or_default hi k d.1 0 inside_hi in
    let P : ℕ × ℕ → Type 0 = λ b. b.0 ≤ b.1 in
    subst P (sym here) (omega (arith, each k inside, low, high))

pub zip_ordered_at : (lo hi : List ℕ) → length lo ≡ length hi → IsOrdered (zip lo hi) → (k : ℕ) → k < length lo → get_or lo k 0 ≤ get_or hi k 0
zip_ordered_at lo hi same ordered k h =
    let inside : k < length (zip lo hi) = omega (arith, length-zip lo hi) in
    let inside_hi : k < length hi = omega arith in
    let here : get_or (zip lo hi) k (0, 0) ≡ (get_or lo k 0, get_or hi k 0) = get_or-zip lo hi k (0, 0) h inside_hi in
    let P : ℕ × ℕ → Type 0 = λ b. b.0 ≤ b.1 in
    subst P here (ordered k (0, 0) inside)

-- the number of points, one axis on
pub size-drop : (lo hi : List ℕ) → length lo ≡ length hi → (k : ℕ) → k < length lo → size (drop k (zip lo hi)) ≡ (get_or hi k 0 + 1 - get_or lo k 0) * size (drop (k + 1) (zip lo hi))
size-drop lo hi same k h =
    let inside : k < length (zip lo hi) = omega (arith, length-zip lo hi) in
    let inside_hi : k < length hi = omega arith in
    ap size (drop_more (zip lo hi) k (0, 0) inside)
    ∙ ap (λ b. extent b * size (drop (k + 1) (zip lo hi))) (get_or-zip lo hi k (0, 0) h inside_hi)

pub size-positive : (bs : List (ℕ × ℕ)) → IsOrdered bs → 1 ≤ size bs
size-positive [] h = omega arith
size-positive (b ∷ bs) h =
    let wide : 1 ≤ extent b = omega (arith, All-head (λ (b : ℕ × ℕ). b.0 ≤ b.1) b bs h) in
    let rest : 1 ≤ size bs = size-positive bs (All-tail (λ (b : ℕ × ℕ). b.0 ≤ b.1) b bs h) in
    mul-le 1 1 (extent b) (size bs) wide rest

-- where one more axis passes the limit, the whole does
pub passes_limit : (limit count width rest total : ℕ) → 0 < count → limit / count < width → 1 ≤ rest → count * (width * rest) ≡ total → limit < total
passes_limit limit count width rest total some wide more whole =
    let far : limit < width * count = (div-lt_iff_lt-mul some).0 wide in
    let grown : width * count * 1 ≤ width * count * rest = mul-le-mul_left (width * count) more in
    let turned : width * count * rest ≡ total = ap (λ n. n * rest) (mul_comm width count) ∙ mul_assoc count width rest ∙ whole in
    omega arith

-- where it stays within the limit, so does the product so far
pub keeps_limit : (limit count width : ℕ) → 0 < count → width ≤ limit / count → count * width ≤ limit
keeps_limit limit count width some small =
    let grown : count * width ≤ count * (limit / count) = mul-le-mul_left count small in
    omega (arith, div-mul-le_self limit count, mul_comm count (limit / count))

-- two points whose coordinates are in order, with few points between them, make a region
pub IsRegion-zip : (lo hi : List ℕ) → length lo ≡ length hi → IsPoint lo → IsPoint hi → IsOrdered (zip lo hi) → length (points (zip lo hi)) ≤ 2 ^ 40 → IsRegion (zip lo hi)
IsRegion-zip lo hi same low high ordered few = record {
  axes = (omega (arith, length-zip_ends lo hi same, low.axes.0), omega (arith, length-zip_ends lo hi same, low.axes.1));
  ordered = ordered;
  small = λ k d h.
      let inside : k < length lo = omega (arith, length-zip lo hi) in
      let inside_hi : k < length hi = omega arith in
      let here : get_or (zip lo hi) k d ≡ (get_or lo k d.0, get_or hi k d.1) = get_or-zip lo hi k d inside inside_hi in
      let P : ℕ × ℕ → Type 0 = λ b. b.1 ≤ 2 ^ 40 in
      subst P (sym here) (high.small k d.1 inside_hi);
  few = few;
}

pub points-some : (bs : List (ℕ × ℕ)) → IsOrdered bs → 1 ≤ length (points bs)
points-some bs ordered = omega (arith, length-points bs, size-positive bs ordered)
