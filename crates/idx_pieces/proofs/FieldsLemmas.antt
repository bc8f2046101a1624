-- One field after the other.
use Rattle.std.proofs.Common.{◌≡◌, ℕ, ◌+◌, ◌*◌, ◌<◌, ◌≤◌, List, [], ◌∷◌, length, get_or, map, sum, Option, refl, sym, ap, ◌∙◌, arith, All}
use Rattle.std.proofs.lemmas.List.{get_or-map, length-map, take_all}
use Rattle.std.proofs.lemmas.List.Sums.{sum_by_more, sum_by-take-le}
use Rattle.std.proofs.Math.Nat.{mul_comm, mul-le-mul_left}
use Rattle.idx_geom.specs.Region.{points}
use Rattle.idx_fields.specs.Field.{sample_bytes}
use Rattle.idx_header.specs.Header.{HeaderValue, sample_bytes_of, volume_bytes}
use Rattle.idx_pieces.specs.Parcels.{parcel_heading}
use Rattle.idx_pieces.specs.RawReads.{AsksAtMost}
use Rattle.idx_pieces.specs.Reading.{HoldsUpTo, IsDone, IsReady, bytes_before, field_start, heading}
use Rattle.idx_pieces.specs.declared.filling.Filling.{Filling}
use Rattle.idx_pieces.specs.declared.parcel.Parcel.{Parcel}
use Rattle.idx_pieces.proofs.FieldLemmas.{asks-more, place-fits, size-at}
use Rattle.idx_pieces.proofs.WholeLemmas.{HoldsUpTo-next}

abbrev pub parcel_of : Filling → Parcel
parcel_of f = f.parcel

pub headings-of_parcels : (xs : List Filling) → map heading xs ≡ map parcel_heading (map parcel_of xs)
headings-of_parcels [] = refl
headings-of_parcels (x ∷ xs) = λ i. heading x ∷ headings-of_parcels xs i

pub same-headings : (xs ys : List Filling) → map parcel_of ys ≡ map parcel_of xs → map heading ys ≡ map heading xs
same-headings xs ys same = headings-of_parcels ys ∙ ap (map parcel_heading) same ∙ sym (headings-of_parcels xs)

-- the bytes of one point, one field more
pub bytes-more : (h : HeaderValue) (field : ℕ) → field < length h.fields → bytes_before h (field + 1) ≡ bytes_before h field + sample_bytes_of h field
bytes-more h field lt =
    sum_by_more (λ (x : ℕ). x) (map sample_bytes h.fields) field 0 (omega (arith, lt, length-map h.fields sample_bytes))
    ∙ ap (λ t. bytes_before h field + t) (size-at h field lt)

-- the bytes of one point, all of its fields
pub bytes-all : (h : HeaderValue) (field : ℕ) → field ≡ length h.fields → bytes_before h field ≡ sum (map sample_bytes h.fields)
bytes-all h field all = ap sum (take_all field (map sample_bytes h.fields) (omega (arith, all, length-map h.fields sample_bytes)))

pub start-more : (h : HeaderValue) (field start count size : ℕ) → field < length h.fields → start ≡ field_start h field → count ≡ length (points h.box) →
    size ≡ sample_bytes_of h field → start + count * size ≡ field_start h (field + 1)
start-more h field start count size lt begins all is =
    let n : ℕ = length (points h.box) in
    let times : n * bytes_before h (field + 1) ≡ n * (bytes_before h field + sample_bytes_of h field) = ap (λ t. n * t) (bytes-more h field lt) in
    let row : count * size ≡ n * sample_bytes_of h field = λ i. all i * is i in
    omega (arith, times, row, begins)

-- the samples of a field lie in the volume
pub field-fits : (h : HeaderValue) (field start count size : ℕ) → field < length h.fields → start ≡ field_start h field → count ≡ length (points h.box) →
    size ≡ sample_bytes_of h field → start + count * size ≤ volume_bytes h
field-fits h field start count size lt begins all is = place-fits h field count start size lt begins is (omega (arith, all))

-- all parcels, one field more
pub all-next : (h : HeaderValue) (told : Option (List ℕ)) (field : ℕ) (xs ys : List Filling) → field < length h.fields → All (IsReady h.box 0) xs → All IsDone xs →
    map parcel_of ys ≡ map parcel_of xs → All (λ (f : Filling). f.cursor.done ≡ 0) ys → All (HoldsUpTo h told field) xs → All (HoldsUpTo h told (field + 1)) ys
all-next h told field xs ys lt ready done same first held k d within =
    let count : length ys ≡ length xs = sym (length-map ys parcel_of) ∙ ap length same ∙ length-map xs parcel_of in
    let inside : k < length xs = omega (arith, within, count) in
    let here : (get_or ys k d).parcel ≡ (get_or xs k d).parcel =
    sym (get_or-map parcel_of ys k d d.parcel within) ∙ ap (λ ps. get_or ps k d.parcel) same ∙ get_or-map parcel_of xs k d d.parcel inside in
    HoldsUpTo-next h told field (get_or xs k d) (get_or ys k d) lt (ready k d inside).cursor (done k d inside) here (first k d within) (held k d inside)

-- how many bytes are asked for, one field more
pub asks-field : (a b c : ℕ) (h : HeaderValue) (field wide : ℕ) → field < length h.fields → AsksAtMost a b (wide * bytes_before h field) →
    AsksAtMost b c (sample_bytes_of h field * wide) → AsksAtMost a c (wide * bytes_before h (field + 1))
asks-field a b c h field wide lt first second =
    let s : ℕ = sample_bytes_of h field in
    let times : wide * bytes_before h (field + 1) ≡ wide * (bytes_before h field + s) = ap (λ t. wide * t) (bytes-more h field lt) in
    asks-more a b c (wide * bytes_before h field) (s * wide) (wide * bytes_before h (field + 1)) first second (omega (arith, times, mul_comm s wide))

pub bytes-le : (h : HeaderValue) (field wide : ℕ) → wide * bytes_before h field ≤ wide * sum (map sample_bytes h.fields)
bytes-le h field wide = mul-le-mul_left wide (sum_by-take-le (λ (x : ℕ). x) (map sample_bytes h.fields) field)
