-- Volumes that are made of a sample for each field and point.
use Rattle.std.proofs.Common.{◌≡◌, ℕ, suc, ◌+◌, ◌<◌, List, [], ◌∷◌, length, get_or, map, All, refl, sym, ap, ◌∙◌, subst, arith}
use Rattle.std.specs.List.{range_with_len}
use Rattle.std.proofs.lemmas.List.{get_or_default, get_or-map, length-map, same_lists}
use Rattle.std.proofs.lemmas.List.Elements.{All-from_get_or, All-map, All-weaker}
use Rattle.std.proofs.lemmas.List.FromFn.{get_or-map-range_with_len}
use Rattle.std.proofs.lemmas.Option.{get_or_from_slice_get, slice_get-get_or}
use Rattle.idx_geom.specs.Region.{LiesIn, place_of, points}
use Rattle.idx_geom.specs.Volume.{IsVolume}
use Rattle.idx_geom.proofs.PointsLemmas.{LiesIn-slice_get, length-points, place_of-lt, slice_get-place_of}
use Rattle.idx_fields.specs.Field.{field_at, sample_bytes}
use Rattle.idx_header.specs.Header.{HeaderValue, sample_bytes_of}
use Rattle.idx_dock.specs.Content.{sample_of}
use Rattle.idx_dock.proofs.CompleteLemmas.{volume_sample}
use Rattle.idx_volumes.specs.Volumes.{IsVolumeOf}

-- the volume that has these samples
abbrev pub made : HeaderValue → (ℕ → List ℕ → List ℕ) → List (List (List ℕ))
made h s = map (λ field. map (s field) (points h.box)) (range_with_len 0 (length h.fields))

-- the samples have their fields' sizes at the points of the box
abbrev pub AreSized : HeaderValue → (ℕ → List ℕ → List ℕ) → Type 0
AreSized h s = (field : ℕ) (p : List ℕ) → field < length h.fields → LiesIn h.box p → length (s field p) ≡ sample_bytes_of h field

-- the size of a field among those of all fields
pub size_at : (h : HeaderValue) (field : ℕ) → field < length h.fields → get_or (map sample_bytes h.fields) field 0 ≡ sample_bytes_of h field
size_at h field within = get_or-map sample_bytes h.fields field (field_at [] 0) 0 within

pub fields_within : (h : HeaderValue) (field : ℕ) → field < length (map sample_bytes h.fields) → field < length h.fields
fields_within h field within = subst (λ n. field < n) (length-map h.fields sample_bytes) within

-- a point has a place below the number of points
pub place_within : (box : List (ℕ × ℕ)) (p : List ℕ) → LiesIn box p → place_of box p < length (points box)
place_within box p lies = omega (arith, place_of-lt box p lies, length-points box)

point_at_place : (box : List (ℕ × ℕ)) (k : ℕ) → k < length (points box) → LiesIn box (get_or (points box) k []) × (place_of box (get_or (points box) k []) ≡ k)
point_at_place box k within = LiesIn-slice_get box k (get_or (points box) k []) (slice_get-get_or (points box) k [] within)

points_lie : (box : List (ℕ × ℕ)) → All (LiesIn box) (points box)
points_lie box = All-from_get_or (LiesIn box) (points box) [] (λ k within. (point_at_place box k within).0)

rows_are : (ps : List (List ℕ)) (s : ℕ → List ℕ → List ℕ) (sizes : List ℕ) (a : ℕ) → ((k : ℕ) → k < length sizes → All (λ p. length (s (a + k) p) ≡ get_or sizes k 0) ps) →
    IsVolume sizes (length ps) (map (λ field. map (s field) ps) (range_with_len a (length sizes)))
rows_are ps s [] a each = tt
rows_are ps s (size ∷ sizes) a each =
    let here : a + 0 ≡ a = omega arith in (
      length-map ps (s a),
      All-map (λ (sample : List ℕ). length sample ≡ size) (s a) ps (subst (λ n. All (λ p. length (s n p) ≡ size) ps) here (each 0 (omega arith))),
      rows_are ps s sizes (a + 1) (λ k within.
          (let at : a + suc k ≡ a + 1 + k = omega arith in
          subst (λ n. All (λ p. length (s n p) ≡ get_or sizes k 0) ps) at (each (suc k) (omega arith)))),
    )

-- it is a volume
pub made_is : (h : HeaderValue) (s : ℕ → List ℕ → List ℕ) → AreSized h s → IsVolumeOf h (made h s)
made_is h s sized =
    let ps : List (List ℕ) = points h.box in
    let sizes : List ℕ = map sample_bytes h.fields in
    subst (λ n. IsVolume sizes (length ps) (map (λ field. map (s field) ps) (range_with_len 0 n))) (length-map h.fields sample_bytes)
    (rows_are ps s sizes 0 (λ k inside.
    (let within : k < length h.fields = fields_within h k inside in
    let at : k ≡ 0 + k = omega arith in
    subst (λ n. All (λ p. length (s n p) ≡ get_or sizes k 0) ps) at
    (All-weaker (LiesIn h.box) (λ p. length (s k p) ≡ get_or sizes k 0) (λ p lies. sized k p within lies ∙ sym (size_at h k within)) ps (points_lie h.box)))))

-- and has them
pub made_sample : (h : HeaderValue) (s : ℕ → List ℕ → List ℕ) (field : ℕ) (p : List ℕ) → field < length h.fields → LiesIn h.box p → sample_of h (made h s) field p ≡ s field p
made_sample h s field p within lies =
    let ps : List (List ℕ) = points h.box in
    let on : 0 + field ≡ field = omega arith in
    ap (λ samples. get_or samples (place_of h.box p) []) (get_or-map-range_with_len (λ field. map (s field) ps) 0 (length h.fields) field field [] within on)
    ∙ get_or-map (s field) ps (place_of h.box p) [] [] (place_within h.box p lies)
    ∙ ap (s field) (get_or_from_slice_get ps (place_of h.box p) p [] (slice_get-place_of h.box p lies))

-- the samples of a volume have their fields' sizes
pub volume_sized : (h : HeaderValue) (volume : List (List (List ℕ))) → IsVolumeOf h volume → AreSized h (sample_of h volume)
volume_sized h volume is field p within lies =
    let inside : field < length (map sample_bytes h.fields) = subst (λ n. field < n) (sym (length-map h.fields sample_bytes)) within in
    volume_sample (map sample_bytes h.fields) (length (points h.box)) field (place_of h.box p) volume is inside (place_within h.box p lies) ∙ size_at h field within

row_again : (box : List (ℕ × ℕ)) (samples : List (List ℕ)) → length samples ≡ length (points box) → map (λ p. get_or samples (place_of box p) []) (points box) ≡ samples
row_again box samples many =
    let ps : List (List ℕ) = points box in
    let f : List ℕ → List ℕ = λ p. get_or samples (place_of box p) [] in
    let long : length (map f ps) ≡ length ps = length-map ps f in
    same_lists (map f ps) samples (long ∙ sym many) (λ k d inside.
    (let within : k < length ps = omega (arith, inside, long) in
    let own : k < length samples = omega (arith, within, many) in
    get_or-map f ps k [] d within ∙ ap (λ place. get_or samples place []) (point_at_place box k within).1 ∙ get_or_default samples k [] d own))

rows_again : (box : List (ℕ × ℕ)) (sizes : List ℕ) (whole volume : List (List (List ℕ))) (a : ℕ) → IsVolume sizes (length (points box)) volume →
    ((k : ℕ) → k < length sizes → get_or whole (a + k) [] ≡ get_or volume k []) →
    map (λ field. map (λ p. get_or (get_or whole field []) (place_of box p) []) (points box)) (range_with_len a (length sizes)) ≡ volume
rows_again box [] whole [] a is each = refl
rows_again box [] whole (samples ∷ volume) a is each = absurd is
rows_again box (size ∷ sizes) whole [] a is each = absurd is
rows_again box (size ∷ sizes) whole (samples ∷ volume) a is each =
    let here : a ≡ a + 0 = omega arith in
    let own : get_or whole a [] ≡ samples = ap (λ n. get_or whole n []) here ∙ each 0 (omega arith) in
    let first : map (λ p. get_or (get_or whole a []) (place_of box p) []) (points box) ≡ samples =
    ap (λ xs. map (λ p. get_or xs (place_of box p) []) (points box)) own ∙ row_again box samples is.0 in
    let rest = rows_again box sizes whole volume (a + 1) is.2 (λ k within. (let at : a + 1 + k ≡ a + suc k = omega arith in ap (λ n. get_or whole n []) at ∙ each (suc k) (omega arith))) in
    λ i. first i ∷ rest i

-- a volume is that of its samples
pub made_again : (h : HeaderValue) (volume : List (List (List ℕ))) → IsVolumeOf h volume → made h (sample_of h volume) ≡ volume
made_again h volume is =
    let sizes : List ℕ = map sample_bytes h.fields in
    let count : length h.fields ≡ length sizes = sym (length-map h.fields sample_bytes) in
    ap (λ n. map (λ field. map (sample_of h volume field) (points h.box)) (range_with_len 0 n)) count
    ∙ rows_again h.box sizes volume volume 0 is (λ k within. (let on : 0 + k ≡ k = omega arith in ap (λ n. get_or volume n []) on))
