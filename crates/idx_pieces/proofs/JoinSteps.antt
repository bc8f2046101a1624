-- Bytes appended one list after the other.
use Rattle.std.proofs.Common.{◌≡◌, ℕ, ◌+◌, ◌-◌, ◌*◌, ◌/◌, ◌<◌, ◌≤◌, List, [], ◌∷◌, ◌++◌, length, map, take, drop, get_or, refl, sym, ap, ◌∙◌, arith, append_assoc, zero-add, subst, ◌^◌, Some, None, Bool, true, false, cond}
use Rattle.std.specs.Prelude.{All, find, sum}
use Rattle.std.specs.List.{flat_map, range_with_len}
use Rattle.std.proofs.lemmas.List.{append-nil, drop_more, take_more}
use Rattle.std.proofs.lemmas.List.Elements.{All-head, All-tail}
use Rattle.std.proofs.lemmas.Nat.{mul-le}
use Rattle.std.proofs.Math.Nat.{div-mul-le_self, mul_comm}
use Rattle.idx_fields.specs.Field.{sample_bytes}
use Rattle.idx_geom.specs.Region.{extent, points}
use Rattle.idx_geom.proofs.EndsLemmas.{IsOrdered}
use Rattle.idx_geom.proofs.PointsLemmas.{length-points, size}
use Rattle.idx_geom.proofs.RegionSteps.{size-drop_le}
use Rattle.idx_header.specs.Header.{HeaderValue, sample_bytes_of}
use Rattle.idx_pieces.specs.Joined.{bytes_before}
use Rattle.idx_pieces.specs.Samples.{region_bytes}
use Rattle.idx_pieces.specs.declared.parcel.Parcel.{Parcel}
use Rattle.idx_pieces.proofs.JoinSamples.{before_total}
use Rattle.idx_pieces.proofs.RankLemmas.{HasEnds}
use Rattle.idx_layout.proofs.ListLemmas.{range_with_len-more}
use Rattle.idx_pieces.proofs.JoinLists.{joined_append}

pub range_step : (f : ℕ → List ℕ) (start ys zs : List ℕ) (n : ℕ) → zs ≡ ys ++ f n → ys ≡ start ++ flat_map f (range_with_len 0 n) →
    zs ≡ start ++ flat_map f (range_with_len 0 (n + 1))
range_step f start ys zs n more so_far =
    more ∙ ap (λ (xs : List ℕ). xs ++ f n) so_far ∙ append_assoc start (flat_map f (range_with_len 0 n)) (f n)
    ∙ ap (λ (xs : List ℕ). start ++ xs)
    (sym (ap (flat_map f) (range_with_len-more 0 n) ∙ joined_append f (range_with_len 0 n) ((0 + n) ∷ [])
    ∙ ap (λ (xs : List ℕ). flat_map f (range_with_len 0 n) ++ xs) (append-nil (f (0 + n)) ∙ ap f (zero-add n))))

pub list_step : (f : ℕ → List ℕ) (start ys zs xs : List ℕ) (i : ℕ) → i < length xs → zs ≡ ys ++ f (get_or xs i 0) → ys ≡ start ++ flat_map f (take i xs) →
    zs ≡ start ++ flat_map f (take (i + 1) xs)
list_step f start ys zs xs i inside more so_far =
    let x : ℕ = get_or xs i 0 in
    more ∙ ap (λ (bs : List ℕ). bs ++ f x) so_far ∙ append_assoc start (flat_map f (take i xs)) (f x)
    ∙ ap (λ (bs : List ℕ). start ++ bs)
    (sym (ap (flat_map f) (take_more xs i 0 inside) ∙ joined_append f (take i xs) (x ∷ [])
    ∙ ap (λ (bs : List ℕ). flat_map f (take i xs) ++ bs) (append-nil (f x))))

-- what is found has what all have
pub found_has : {X : Type 0} → (P : X → Type 0) (t : X → Bool) (xs : List X) (x : X) → find t xs ≡ Some x → All P xs → P x
found_has P t [] x e all = let wrong : None ≡ Some x = e in cc
found_has {X} P t (y ∷ xs) x e all = by_test (λ more. found_has P t xs x more (All-tail P y xs all)) (t y) refl
  where
    by_test : (find t xs ≡ Some x → P x) → (b : Bool) → t y ≡ b → P x
    by_test more true is =
        let first : Some y ≡ Some x = sym (ap (λ (b : Bool). cond b (Some y) (find t xs)) is) ∙ e in
        let same : y ≡ x = cc in
        subst P same (All-head P y xs all)
    by_test more false is = more (sym (ap (λ (b : Bool). cond b (Some y) (find t xs)) is) ∙ e)

-- the places of a row
pub record IsRow (count places before size place : ℕ) : Type 0 where
  pub len : count / places * size ≤ 2 ^ 52
  pub front : count * before ≤ 2 ^ 52
  pub skipped : place * (count / places * size) ≤ 2 ^ 52
  pub end : count * before + place * (count / places * size) + count / places * size ≤ count * (before + size)

pub row_fits : (count places before size place : ℕ) → count ≤ 2 ^ 40 → before + size ≤ 2 ^ 12 → place < places → IsRow count places before size place
row_fits count places before size place few small within =
    let width : ℕ = count / places in
    let whole : width * places ≤ count = div-mul-le_self count places in
    let rows : (place + 1) * width ≤ places * width = mul-le (place + 1) width places width (omega arith) (omega arith) in
    let turned : places * width ≡ width * places = mul_comm places width in
    let sized : (place + 1) * width * size ≤ count * size = mul-le ((place + 1) * width) size count size (omega (arith, whole, rows, turned)) (omega arith) in
    let one : (place + 1) * width * size ≡ place * (width * size) + width * size = grind arith in
    let both : count * (before + size) ≡ count * before + count * size = grind arith in
    let most : count * (before + size) ≤ 2 ^ 40 * 2 ^ 12 = mul-le count (before + size) (2 ^ 40) (2 ^ 12) few small in
    record {
      len = omega (arith, sized, one, both, most);
      front = omega (arith, both, most);
      skipped = omega (arith, sized, one, both, most);
      end = omega (arith, sized, one, both);
    }

-- room for the bytes of a field
pub room_for : (h : HeaderValue) (parcels : List Parcel) (field before size : ℕ) → field < length h.fields → before ≡ bytes_before h field → size ≡ sample_bytes_of h field →
    All (λ parcel. length parcel.bytes ≡ region_bytes h parcel.region) parcels →
    All (λ parcel. length (points parcel.region) * (before + size) ≤ length parcel.bytes) parcels
room_for h parcels field before size among b s whole k d inside =
    let parcel : Parcel = get_or parcels k d in
    let all : length parcel.bytes ≡ length (points parcel.region) * sum (map sample_bytes h.fields) = whole k d inside in
    let part = mul-le (length (points parcel.region)) (before + size) (length (points parcel.region)) (sum (map sample_bytes h.fields)) (omega arith) (omega (arith, before_total h field among, b, s)) in
    omega (arith, all, part)

-- the places of the axes behind one, axis by axis
pub places_step : (region : List (ℕ × ℕ)) (count axis lo hi : ℕ) → 1 ≤ axis → axis ≤ length region → IsOrdered region → length (points region) ≤ 2 ^ 40 →
    count ≡ size (drop axis region) → HasEnds region (axis - 1) lo hi →
    (count * (hi + 1 - lo) ≡ size (drop (axis - 1) region)) × (count * (hi + 1 - lo) ≤ 2 ^ 40)
places_step region count axis lo hi some within ordered few is ends =
    let here : drop (axis - 1) region ≡ get_or region (axis - 1) (0, 0) ∷ drop (axis - 1 + 1) region = drop_more region (axis - 1) (0, 0) (omega arith) in
    let next : axis - 1 + 1 ≡ axis = omega arith in
    let whole : size (drop (axis - 1) region) ≡ extent (get_or region (axis - 1) (0, 0)) * size (drop axis region) =
    ap size here ∙ ap (λ (k : ℕ). extent (get_or region (axis - 1) (0, 0)) * size (drop k region)) next in
    let same : count * (hi + 1 - lo) ≡ size (drop (axis - 1) region) =
    ap (λ (k : ℕ). k * (hi + 1 - lo)) is ∙ ap (λ (k : ℕ). size (drop axis region) * k) ends.wide ∙ mul_comm (size (drop axis region)) (extent (get_or region (axis - 1) (0, 0))) ∙ sym whole in
    (same, omega (arith, same, size-drop_le region (axis - 1) ordered, length-points region, few))
