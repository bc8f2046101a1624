-- A field that is read window by window: places, rooms, and how many bytes are asked for.
use Rattle.std.proofs.Common.{◌≡◌, ℕ, zero, suc, ◌+◌, ◌-◌, ◌*◌, ◌/◌, ◌%◌, ◌^◌, ◌<◌, ◌≤◌, min, false, List, [], ◌∷◌, length, take, drop, get_or, map, Option, Some, None, IfSome, Result, Ok, Err, OnOk, is_err, sym, ap, ◌∙◌, inl, inr, subst, arith, All}
use Rattle.std.proofs.lemmas.Bool.{cases_lt}
use Rattle.std.proofs.lemmas.List.{get_or-map, length-map}
use Rattle.std.proofs.lemmas.List.Sums.{sum_by_more_le}
use Rattle.std.proofs.lemmas.Nat.{div-add-mod'}
use Rattle.std.proofs.Math.Nat.{div-mul-le_self, mul_comm, mul-le-mul_left, mul-le-mul_right, mod-lt, mod-add-mod}
use Rattle.idx_geom.specs.Region.{LiesIn, extent, lower_ends, place_of, point_of, points, upper_ends}
use Rattle.idx_geom.proofs.PointsLemmas.{length-points, LiesIn-point_of}
use Rattle.idx_fields.specs.Field.{sample_bytes}
use Rattle.idx_header.specs.Header.{HeaderValue, sample_bytes_of, volume_bytes}
use Rattle.idx_pieces.specs.Cursor.{IsCursor}
use Rattle.idx_pieces.specs.RawReads.{AsksAtMost}
use Rattle.idx_pieces.specs.Reading.{BeginsFrom, EndsBelow, IsFrom, IsDone, IsReady, IsWindowOf, heading, field_start}
use Rattle.idx_pieces.specs.declared.cursor.Cursor.{Cursor}
use Rattle.idx_pieces.specs.declared.filling.Filling.{Filling}

pub on_ok : {T E : Type 0} (r : Result T E) (P : Type 0) → is_err r ≡ false → OnOk r P → P
on_ok (Ok x) P e h = h
on_ok (Err x) P e h = cc

-- how many bytes a sample of a field has, among those of all fields
pub size-at : (h : HeaderValue) (field : ℕ) → field < length h.fields → get_or (map sample_bytes h.fields) field 0 ≡ sample_bytes_of h field
size-at h field lt = get_or-map sample_bytes h.fields field _ 0 lt

-- a field's places end within the volume
pub place-fits : (h : HeaderValue) (field at start size : ℕ) → field < length h.fields → start ≡ field_start h field → size ≡ sample_bytes_of h field →
    at ≤ length (points h.box) → start + at * size ≤ volume_bytes h
place-fits h field at start size lt begins is within =
    let n : ℕ = length (points h.box) in
    let sizes : List ℕ = map sample_bytes h.fields in
    let more = sum_by_more_le (λ (x : ℕ). x) sizes field 0 (omega (arith, lt, length-map h.fields sample_bytes)) in
    let whole = mul-le-mul_left n more in
    let room : at * size ≤ n * size = mul-le-mul_right size within in
    let same : n * size ≡ n * get_or sizes field 0 = ap (λ s. n * s) (is ∙ sym (size-at h field lt)) in
    omega (arith, whole, room, same, begins)

-- samples of which no more are read than a window has room for lie in it
pub window-fits : (at m size len room : ℕ) → m ≤ len / size → room ≡ len → (at + m - at) * size ≤ room
window-fits at m size len room most same =
    let rest : at + m - at ≡ m = omega arith in
    omega (arith, ap (λ t. t * size) rest, mul-le-mul_right size most, div-mul-le_self len size, same)

-- a window moves on
pub moves : (w s at end : ℕ) → 1 ≤ s → s ≤ w → at < end → at < at + min (w / s) (end - at)
moves w s at end some le lt =
    elim (cases_lt 0 (w / s)) [
      | inl more ↦ omega (arith, more)
      | inr none ↦
          let q : w / s ≡ 0 = omega arith in
          let z : w / s * s ≡ 0 * s = ap (λ t. t * s) q in
          absurd (omega (arith, z, div-add-mod' w s, mod-lt w some))
    ]

-- the place of a cursor is not behind that of the region's last point
place-le-upper : (box region : List (ℕ × ℕ)) (p : List ℕ) → LiesIn region p → place_of box p ≤ place_of box (upper_ends region)
place-le-upper [] region p h = omega arith
place-le-upper (b ∷ ds) [] [] h = omega arith
place-le-upper (b ∷ ds) [] (x ∷ xs) h = absurd h
place-le-upper (b ∷ ds) (c ∷ bs) [] h = absurd h
place-le-upper (b ∷ ds) (c ∷ bs) (x ∷ xs) h =
    let slower = mul-le-mul_left (extent b) (place-le-upper ds bs xs h.2) in
    omega (arith, h.1, slower)

place-ge-lower : (box region : List (ℕ × ℕ)) (p : List ℕ) → LiesIn region p → place_of box (lower_ends region) ≤ place_of box p
place-ge-lower [] region p h = omega arith
place-ge-lower (b ∷ ds) [] [] h = omega arith
place-ge-lower (b ∷ ds) [] (x ∷ xs) h = absurd h
place-ge-lower (b ∷ ds) (c ∷ bs) [] h = absurd h
place-ge-lower (b ∷ ds) (c ∷ bs) (x ∷ xs) h =
    let slower = mul-le-mul_left (extent b) (place-ge-lower ds bs xs h.2) in
    omega (arith, h.0, slower)

pub cursor-below : (box region : List (ℕ × ℕ)) (c : Cursor) → IsCursor box region c → c.done < length (points region) → c.place ≤ place_of box (upper_ends region)
cursor-below box region c h lt =
    let lies : LiesIn region (point_of region c.done) = LiesIn-point_of region c.done (omega (arith, lt, length-points region)) in
    omega (arith, (h.at lt).place, place-le-upper box region (point_of region c.done) lies)

-- a fact of the headings goes over to parcels with the same headings
pub EndsBelow-same : (box : List (ℕ × ℕ)) (end : ℕ) (xs ys : List Filling) → map heading ys ≡ map heading xs → All (EndsBelow box end) xs → All (EndsBelow box end) ys
EndsBelow-same box end xs ys same all k d lt =
    let count : length ys ≡ length xs = sym (length-map ys heading) ∙ ap length same ∙ length-map xs heading in
    let here : heading (get_or ys k d) ≡ heading (get_or xs k d) =
    sym (get_or-map heading ys k d (heading d) lt) ∙ ap (λ hs. get_or hs k (heading d)) same ∙ get_or-map heading xs k d (heading d) (omega (arith, lt, count)) in
    subst (λ (t : ℕ × (ℕ × List (ℕ × ℕ))). place_of box (upper_ends t.1.1) < end) (sym here) (all k d (omega (arith, lt, count)))

pub BeginsFrom-same : (box : List (ℕ × ℕ)) (low : ℕ) (xs ys : List Filling) → map heading ys ≡ map heading xs → All (BeginsFrom box low) xs → All (BeginsFrom box low) ys
BeginsFrom-same box low xs ys same all k d lt =
    let count : length ys ≡ length xs = sym (length-map ys heading) ∙ ap length same ∙ length-map xs heading in
    let here : heading (get_or ys k d) ≡ heading (get_or xs k d) =
    sym (get_or-map heading ys k d (heading d) lt) ∙ ap (λ hs. get_or hs k (heading d)) same ∙ get_or-map heading xs k d (heading d) (omega (arith, lt, count)) in
    subst (λ (t : ℕ × (ℕ × List (ℕ × ℕ))). low ≤ place_of box (lower_ends t.1.1)) (sym here) (all k d (omega (arith, lt, count)))

-- no cursor stands before the first sample
pub all-from : (box : List (ℕ × ℕ)) (at low : ℕ) (xs : List Filling) → All (IsReady box at) xs → All (BeginsFrom box low) xs → All (IsFrom low) xs
all-from box at low xs ready begins k d lt more =
    let f : Filling = get_or xs k d in
    let r : IsReady box at f = ready k d lt in
    let lies : LiesIn f.parcel.region (point_of f.parcel.region f.cursor.done) = LiesIn-point_of f.parcel.region f.cursor.done (omega (arith, more, length-points f.parcel.region)) in
    omega (arith, begins k d lt, place-ge-lower box f.parcel.region (point_of f.parcel.region f.cursor.done) lies, (r.cursor.at more).place)

-- where the next place is the end, each cursor stands behind its last sample
pub all-done : (box : List (ℕ × ℕ)) (at end : ℕ) (xs : List Filling) → All (IsReady box at) xs → All (EndsBelow box end) xs → end ≤ at → All IsDone xs
all-done box at end xs ready ends le k d lt =
    let f : Filling = get_or xs k d in
    let r : IsReady box at f = ready k d lt in
    elim (cases_lt f.cursor.done (length (points f.parcel.region))) [
      | inl more ↦ absurd (omega (arith, cursor-below box f.parcel.region f.cursor r.cursor more, r.next more, ends k d lt, le))
      | inr none ↦ none
    ]

-- what a read gave is a window of the field
pub IsWindowOf-read : (h : HeaderValue) (told now : Option (List ℕ)) (field at start size room : ℕ) (bytes : List ℕ) → now ≡ told → start ≡ field_start h field →
    size ≡ sample_bytes_of h field → length bytes ≡ room → IfSome now (λ raw. bytes ≡ take room (drop (start + at * size) raw)) → IsWindowOf h told field at bytes
IsWindowOf-read h told now field at start size room bytes same begins is long read =
    let place : start + at * size ≡ field_start h field + sample_bytes_of h field * at =
    (λ i. begins i + at * is i) ∙ ap (λ t. field_start h field + t) (mul_comm at (sample_bytes_of h field)) in
    let F : Option (List ℕ) → Type 0 = λ o. IfSome o (λ raw. bytes ≡ take room (drop (start + at * size) raw)) → IsWindowOf h o field at bytes in
    let by_told : F told = elim told as (λ o. F o) [
      | None ↦ (λ r. tt)
      | Some raw ↦ (λ r. r ∙ (λ i. take (sym long i) (drop (place i) raw)))
    ] in
    by_told (subst (λ (o : Option (List ℕ)). IfSome o (λ raw. bytes ≡ take room (drop (start + at * size) raw))) same read)

pub take-short : (n : ℕ) (xs : List ℕ) → length (take n xs) ≤ n
take-short zero xs = omega arith
take-short (suc n) [] = omega arith
take-short (suc n) (x ∷ xs) = omega (arith, take-short n xs)

pub asks-none : (a most : ℕ) → AsksAtMost a a most
asks-none a most = record { bytes = 0; few = omega arith; asked = ap (λ n. n % 2 ^ 64) (let same : a ≡ a + 0 = omega arith in same) }

pub asks-weaker : (a b m n : ℕ) → m ≤ n → AsksAtMost a b m → AsksAtMost a b n
asks-weaker a b m n le h = record { bytes = h.bytes; few = omega (arith, h.few, le); asked = h.asked }

pub asks-more : (a b c m n most : ℕ) → AsksAtMost a b m → AsksAtMost b c n → m + n ≤ most → AsksAtMost a c most
asks-more a b c m n most first second le = record {
  bytes = first.bytes + second.bytes;
  few = omega (arith, first.few, second.few, le);
  asked =
      second.asked
      ∙ sym (mod-add-mod b (2 ^ 64) second.bytes)
      ∙ ap (λ t. (t + second.bytes) % 2 ^ 64) first.asked
      ∙ mod-add-mod (a + first.bytes) (2 ^ 64) second.bytes
      ∙ ap (λ t. t % 2 ^ 64) (let sums : a + first.bytes + second.bytes ≡ a + (first.bytes + second.bytes) = omega arith in sums);
}

-- a window more
pub asks-window : (a b c sb size low at m next : ℕ) (window : List ℕ) → size ≡ sb → low ≤ at → at + m ≤ next → AsksAtMost a b (sb * (at - low)) →
    AsksAtMost b c (length (take ((at + m - at) * size) window)) → AsksAtMost a c (sb * (next - low))
asks-window a b c sb size low at m next window is below le first second =
    let far : at - low + m ≤ next - low = omega arith in
    let room = mul-le-mul_left sb far in
    let part : (at + m - at) * size ≡ sb * m = ap (λ t. t * size) (let rest : at + m - at ≡ m = omega arith in rest) ∙ ap (λ t. m * t) is ∙ mul_comm m sb in
    asks-more a b c (sb * (at - low)) (length (take ((at + m - at) * size) window)) (sb * (next - low)) first second
    (omega (arith, room, part, take-short ((at + m - at) * size) window))
