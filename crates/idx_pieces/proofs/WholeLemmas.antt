-- Whole fields: the samples of a region's points, one behind the other, and what a parcel has after the last field.
use Rattle.std.proofs.Common.{◌≡◌, ℕ, zero, suc, ◌+◌, ◌*◌, ◌<◌, List, [], ◌∷◌, ◌++◌, length, take, drop, get_or, map, sum, Option, Some, None, refl, sym, ap, ◌∙◌, arith, append-nil}
use Rattle.std.specs.List.{flat_map, range_with_len, slice_get}
use Rattle.std.specs.Option.{option_map}
use Rattle.std.proofs.lemmas.List.{drop-drop, length-map, take_all}
use Rattle.std.proofs.lemmas.List.Concat.{flat_map-append}
use Rattle.std.proofs.lemmas.List.Folds.{flat_map-map}
use Rattle.std.proofs.lemmas.List.FromFn.{length-range_with_len, length-map-range_with_len, get_or-range_with_len}
use Rattle.std.proofs.lemmas.List.Sums.{sum_by-append, sum_by_more}
use Rattle.std.proofs.lemmas.Option.{slice_get-map, slice_get-get_or, same_Some}
use Rattle.idx_geom.specs.Region.{place_of, point_of, points}
use Rattle.idx_geom.specs.Volume.{samples_of, volume_of}
use Rattle.idx_geom.proofs.PointsLemmas.{length-points, slice_get-points}
use Rattle.idx_fields.specs.Field.{sample_bytes}
use Rattle.idx_header.specs.Header.{HeaderValue, sample_bytes_of}
use Rattle.idx_pieces.specs.Cursor.{IsCursor, IsPart, place_at}
use Rattle.idx_pieces.specs.Filling.{sample_in, samples_from}
use Rattle.idx_pieces.specs.Parcels.{IsFull}
use Rattle.idx_pieces.specs.Reading.{HoldsUpTo, IsDone, bytes_before, field_start}
use Rattle.idx_pieces.specs.Samples.{raw_sample, samples_in}
use Rattle.idx_pieces.specs.declared.filling.Filling.{Filling}
use Rattle.idx_pieces.specs.declared.parcel.Parcel.{Parcel}
use Rattle.idx_pieces.proofs.CursorLemmas.{place-lt}
use Rattle.idx_pieces.proofs.FieldLemmas.{size-at}
use Rattle.idx_pieces.proofs.FillingLemmas.{range-append}

same-by-get : (xs ys : List (List ℕ)) → length xs ≡ length ys → ((k : ℕ) → k < length xs → slice_get xs k ≡ slice_get ys k) → xs ≡ ys
same-by-get [] [] long h = refl
same-by-get [] (y ∷ ys) long h = absurd (omega arith)
same-by-get (x ∷ xs) [] long h = absurd (omega arith)
same-by-get (x ∷ xs) (y ∷ ys) long h =
    let first : x ≡ y = same_Some x y (h 0 (omega arith)) in
    λ i. first i ∷ same-by-get xs ys (omega arith) (λ k lt. h (suc k) (omega arith)) i

-- the points of a region by their numbers
pub points-numbered : (region : List (ℕ × ℕ)) → points region ≡ map (point_of region) (range_with_len 0 (length (points region)))
points-numbered region =
    let n : ℕ = length (points region) in
    same-by-get (points region) (map (point_of region) (range_with_len 0 n)) (sym (length-map-range_with_len (point_of region) 0 n))
    (λ k lt.
    slice_get-points region k (omega (arith, lt, length-points region))
    ∙ sym (slice_get-map (point_of region) (range_with_len 0 n) k
    ∙ ap (option_map (point_of region)) (slice_get-get_or (range_with_len 0 n) k 0 (omega (arith, lt, length-range_with_len 0 n))
    ∙ ap Some (get_or-range_with_len 0 n k 0 lt ∙ (let on : 0 + k ≡ k = omega arith in on)))))

flat_map-agree : (f g : ℕ → List ℕ) (a n : ℕ) → ((k : ℕ) → k < a + n → f k ≡ g k) → flat_map f (range_with_len a n) ≡ flat_map g (range_with_len a n)
flat_map-agree f g a zero h = refl
flat_map-agree f g a (suc n) h = λ i. h a (omega arith) i ++ flat_map-agree f g (a + 1) n (λ k lt. h k (omega arith)) i

-- the samples of a field, and a sample, of a raw volume
get-volume : (sizes : List ℕ) (n field : ℕ) (bytes : List ℕ) → field < length sizes →
    get_or (volume_of sizes n bytes) field [] ≡ samples_of (get_or sizes field 0) n (drop (n * sum (take field sizes)) bytes)
get-volume [] n field bytes lt = absurd (omega arith)
get-volume (s ∷ ss) n zero bytes lt = let none : 0 ≡ n * 0 = omega arith in ap (λ k. samples_of s n (drop k bytes)) none
get-volume (s ∷ ss) n (suc field) bytes lt =
    let rest : ℕ = sum (take field ss) in
    let more : sum (s ∷ take field ss) ≡ 0 + s + rest = sum_by-append (λ (x : ℕ). x) (s ∷ []) (take field ss) in
    let times : n * sum (s ∷ take field ss) ≡ n * (0 + s + rest) = ap (λ t. n * t) more in
    let place : s * n + n * rest ≡ n * sum (s ∷ take field ss) = omega (arith, times) in
    get-volume ss n field (drop (s * n) bytes) (omega arith)
    ∙ ap (samples_of (get_or ss field 0) n) (drop-drop (n * rest) (s * n) bytes ∙ ap (λ k. drop k bytes) place)

get-samples : (size n place : ℕ) (bytes : List ℕ) → place < n → get_or (samples_of size n bytes) place [] ≡ take size (drop (size * place) bytes)
get-samples size zero place bytes lt = absurd (omega arith)
get-samples size (suc n) zero bytes lt = let none : 0 ≡ size * 0 = omega arith in ap (λ k. take size (drop k bytes)) none
get-samples size (suc n) (suc place) bytes lt =
    let more : size + size * place ≡ size * suc place = omega arith in
    get-samples size n place (drop size bytes) (omega arith) ∙ ap (take size) (drop-drop (size * place) size bytes ∙ ap (λ k. drop k bytes) more)

pub raw_sample-is : (h : HeaderValue) (raw : List ℕ) (field : ℕ) (p : List ℕ) → field < length h.fields → place_of h.box p < length (points h.box) →
    raw_sample h raw field p ≡ sample_in (sample_bytes_of h field) (field_start h field) raw (place_of h.box p)
raw_sample-is h raw field p lt within =
    let sizes : List ℕ = map sample_bytes h.fields in
    let n : ℕ = length (points h.box) in
    let place : ℕ = place_of h.box p in
    let s : ℕ = get_or sizes field 0 in
    ap (λ v. get_or v place []) (get-volume sizes n field raw (omega (arith, lt, length-map h.fields sample_bytes)))
    ∙ get-samples s n place (drop (field_start h field) raw) within
    ∙ ap (take s) (drop-drop (s * place) (field_start h field) raw)
    ∙ ap (λ t. take t (drop (field_start h field + t * place) raw)) (size-at h field lt)

-- all samples of a field at the points of a region
pub whole-field : (h : HeaderValue) (raw : List ℕ) (field : ℕ) (region : List (ℕ × ℕ)) → field < length h.fields → IsPart h.box region →
    flat_map (raw_sample h raw field) (points region) ≡ samples_from (sample_bytes_of h field) (field_start h field) raw h.box region 0 (length (points region))
whole-field h raw field region lt part =
    let n : ℕ = length (points region) in
    ap (flat_map (raw_sample h raw field)) (points-numbered region)
    ∙ flat_map-map (raw_sample h raw field) (point_of region) (range_with_len 0 n)
    ∙ flat_map-agree (λ k. raw_sample h raw field (point_of region k)) (λ k. sample_in (sample_bytes_of h field) (field_start h field) raw (place_at h.box region k)) 0 n
    (λ k within. raw_sample-is h raw field (point_of region k) lt (place-lt h.box region k part (omega (arith, within))))

samples_in-more : (fields : ℕ) (sample : ℕ → List ℕ → List ℕ) (region : List (ℕ × ℕ)) →
    samples_in (fields + 1) sample region ≡ samples_in fields sample region ++ flat_map (sample fields) (points region)
samples_in-more fields sample region =
    let G : ℕ → List ℕ = λ field. flat_map (sample field) (points region) in
    let on : 0 + fields ≡ fields = omega arith in
    ap (flat_map G) (range-append 0 fields 1)
    ∙ flat_map-append G (range_with_len 0 fields) (range_with_len (0 + fields) 1)
    ∙ ap (λ t. flat_map G (range_with_len 0 fields) ++ t) (append-nil (G (0 + fields)) ∙ ap G on)

-- where a field is whole, the next one begins
pub HoldsUpTo-next : (h : HeaderValue) (told : Option (List ℕ)) (field : ℕ) (old new : Filling) → field < length h.fields → IsCursor h.box old.parcel.region old.cursor →
    IsDone old → new.parcel ≡ old.parcel → new.cursor.done ≡ 0 → HoldsUpTo h told field old → HoldsUpTo h told (field + 1) new
HoldsUpTo-next h told field old new lt cursor done same first before =
    let n : ℕ = length (points old.parcel.region) in
    let s : ℕ = sample_bytes_of h field in
    let sizes : List ℕ = map sample_bytes h.fields in
    let all : old.cursor.done ≡ n = omega (arith, done, cursor.within) in
    let bytes : new.parcel.bytes ≡ old.parcel.bytes = ap (λ (p : Parcel). p.bytes) same in
    let region : new.parcel.region ≡ old.parcel.region = ap (λ (p : Parcel). p.region) same in
    let sums : bytes_before h (field + 1) ≡ bytes_before h field + get_or sizes field 0 =
    sum_by_more (λ (x : ℕ). x) sizes field 0 (omega (arith, lt, length-map h.fields sample_bytes)) in
    let times : n * bytes_before h (field + 1) ≡ n * (bytes_before h field + s) = ap (λ t. n * t) (sums ∙ ap (λ t. bytes_before h field + t) (size-at h field lt)) in
    let whole : s * old.cursor.done ≡ s * n = ap (λ t. s * t) all in
    let none : sample_bytes_of h (field + 1) * new.cursor.done ≡ sample_bytes_of h (field + 1) * 0 = ap (λ t. sample_bytes_of h (field + 1) * t) first in
    let many : length new.parcel.bytes ≡ length (points new.parcel.region) * bytes_before h (field + 1) + sample_bytes_of h (field + 1) * new.cursor.done =
    ap length bytes ∙ omega (arith, before.many, times, whole, none) ∙ ap (λ r. length (points r) * bytes_before h (field + 1) + sample_bytes_of h (field + 1) * new.cursor.done) (sym region) in
    let F : Option (List ℕ) → Type 0 = λ o. HoldsUpTo h o field old → HoldsUpTo h o (field + 1) new in
    let by_told : F told = elim told as (λ o. F o) [
      | None ↦ (λ b. record { many = many; samples = tt })
      | Some raw ↦ (λ b. record {
        many = many;
        samples =
            bytes
            ∙ b.samples
            ∙ ap (λ t. samples_in field (raw_sample h raw) old.parcel.region ++ samples_from s (field_start h field) raw h.box old.parcel.region 0 t) all
            ∙ ap (λ t. samples_in field (raw_sample h raw) old.parcel.region ++ t) (sym (whole-field h raw field old.parcel.region lt cursor.part))
            ∙ sym (samples_in-more field (raw_sample h raw) old.parcel.region)
            ∙ sym (append-nil (samples_in (field + 1) (raw_sample h raw) old.parcel.region))
            ∙ ap (λ t. samples_in (field + 1) (raw_sample h raw) old.parcel.region ++ samples_from (sample_bytes_of h (field + 1)) (field_start h (field + 1)) raw h.box old.parcel.region 0 t) (sym first)
            ∙ ap (λ r. samples_in (field + 1) (raw_sample h raw) r ++ samples_from (sample_bytes_of h (field + 1)) (field_start h (field + 1)) raw h.box r 0 new.cursor.done) (sym region);
      })
    ] in
    by_told before

-- behind the last field the parcel is full
pub IsFull-from : (h : HeaderValue) (told : Option (List ℕ)) (f : Filling) → f.cursor.done ≡ 0 → HoldsUpTo h told (length h.fields) f → IsFull h told f.parcel
IsFull-from h told f first held =
    let sizes : List ℕ = map sample_bytes h.fields in
    let n : ℕ = length (points f.parcel.region) in
    let s : ℕ = sample_bytes_of h (length h.fields) in
    let all : bytes_before h (length h.fields) ≡ sum sizes = ap sum (take_all (length h.fields) sizes (omega (arith, length-map h.fields sample_bytes))) in
    let none : s * f.cursor.done ≡ s * 0 = ap (λ t. s * t) first in
    let times : n * bytes_before h (length h.fields) ≡ n * sum sizes = ap (λ t. n * t) all in
    let many : length f.parcel.bytes ≡ n * sum sizes = omega (arith, held.many, none, times) in
    let F : Option (List ℕ) → Type 0 = λ o. HoldsUpTo h o (length h.fields) f → IsFull h o f.parcel in
    let by_told : F told = elim told as (λ o. F o) [
      | None ↦ (λ b. record { many = many; samples = tt })
      | Some raw ↦ (λ b. record {
        many = many;
        samples =
            b.samples
            ∙ ap (λ t. samples_in (length h.fields) (raw_sample h raw) f.parcel.region ++ samples_from s (field_start h (length h.fields)) raw h.box f.parcel.region 0 t) first
            ∙ append-nil (samples_in (length h.fields) (raw_sample h raw) f.parcel.region);
      })
    ] in
    by_told held
