-- The samples of a region among its bytes, by field and by address.
use Rattle.std.proofs.Common.{◌≡◌, ℕ, zero, suc, ◌+◌, ◌-◌, ◌*◌, ◌<◌, ◌≤◌, true, List, [], ◌∷◌, ◌++◌, Option, Some, None, length, take, drop, refl, sym, ap, ◌∙◌, arith, eq-eqb, eqb-true, length-append, length-drop, length-take-le}
use Rattle.std.specs.Prelude.{slice_get, replicate, sum_by, ◌==◌}
use Rattle.std.specs.List.{flat_map, range_with_len}
use Rattle.std.specs.Option.{option_map_or}
use Rattle.std.proofs.Math.Nat.{mul_comm, mul-le-mul_left}
use Rattle.std.proofs.Math.Seq.{take-append_seam, drop-append_seam}
use Rattle.std.proofs.lemmas.List.Sums.{sum_by_more}
use Rattle.idx_geom.specs.Region.{HoldsAll, LiesIn, place_of, points}
use Rattle.idx_geom.proofs.PointsLemmas.{LiesIn-slice_get, length-points, place_of-lt, slice_get-place_of}
use Rattle.idx_geom.proofs.LiesInLemmas.{length_from_LiesIn}
use Rattle.idx_hz.specs.Mask.{HasAddress}
use Rattle.idx_hz.specs.Address.{hz_address}
use Rattle.idx_hz.proofs.AddressLaws.{hz_address-injective}
use Rattle.idx_fields.specs.Field.{field_at, sample_bytes}
use Rattle.idx_header.specs.Header.{HeaderValue, sample_bytes_of}
use Rattle.idx_stride.proofs.RangeLemmas.{flat_map-range_append, flat_map-range_more}
use Rattle.idx_layout.proofs.FileLemmas.{length-flat_map_same}
use Rattle.idx_layout.proofs.PresentLemmas.{point_found}
use Rattle.idx_block.specs.Stored.{stored}
use Rattle.idx_block.proofs.StoredLemmas.{find_some, stored-point}
use Rattle.idx_pieces.specs.Samples.{AreSamples, HoldsSamples}
use Rattle.idx_pieces.specs.Runs.{has_address, sample_at_address}
use Rattle.idx_ship.specs.Made.{bytes_before, field_samples}

-- ---- pieces of one length
-- a piece of a list whose pieces have one length
pub piece_at : {X : Type 0} (f : X → List ℕ) (size : ℕ) → ((x : X) → length (f x) ≡ size) → (xs : List X) (i : ℕ) (x : X) → slice_get xs i ≡ Some x → take size (drop (size * i) (flat_map f xs)) ≡ f x
piece_at {X = X} f size long [] i x e = let wrong : ◌≡◌ {A = Option X} None (Some x) = e in absurd (cc)
piece_at f size long (y ∷ ys) zero x e =
    let same : y ≡ x = cc in
    let none : size * 0 ≡ 0 = omega arith in
    ap (λ n. take size (drop n (f y ++ flat_map f ys))) none
    ∙ ap (λ n. take n (f y ++ flat_map f ys)) (sym (long y))
    ∙ take-append_seam (f y) (flat_map f ys) ∙ ap f same
piece_at f size long (y ∷ ys) (suc i) x e =
    let next : size * suc i ≡ size + size * i = grind arith in
    ap (λ n. take size (drop n (f y ++ flat_map f ys))) next
    ∙ ap (take size) (drop_behind size (f y) (flat_map f ys) (long y))
    ∙ piece_at f size long ys i x e
  where
    drop_behind : (n : ℕ) (front rest : List ℕ) → length front ≡ n → drop (n + size * i) (front ++ rest) ≡ drop (size * i) rest
    drop_behind n [] rest long' = ap (λ m. drop m rest) (let e' : n + size * i ≡ size * i = omega (arith, long') in e')
    drop_behind zero (z ∷ zs) rest long' = absurd (omega (arith, long'))
    drop_behind (suc n) (z ∷ zs) rest long' =
        let one : suc n + size * i ≡ suc (n + size * i) = omega arith in
        ap (λ m. drop m (z ∷ (zs ++ rest))) one ∙ drop_behind n zs rest (omega (arith, long'))

-- ---- the bytes of a field
module _ (h : HeaderValue) (region : List (ℕ × ℕ)) where
  pub before_more : (field : ℕ) → field < length h.fields → bytes_before h region (field + 1) ≡ bytes_before h region field + length (points region) * sample_bytes_of h field
  before_more field within =
      let n : ℕ = length (points region) in
      let more : sum_by sample_bytes (take (field + 1) h.fields) ≡ sum_by sample_bytes (take field h.fields) + sample_bytes_of h field = sum_by_more sample_bytes h.fields field (field_at [] 0) within in
      let product : (a b : ℕ) → n * (a + b) ≡ n * a + n * b = λ a b. grind arith in
      ap (λ m. n * m) more ∙ product (sum_by sample_bytes (take field h.fields)) (sample_bytes_of h field)

  module _ (sample : ℕ → List ℕ → List ℕ) (are : AreSamples h sample) where
    abbrev of_field : ℕ → List ℕ
    of_field field = flat_map (sample field) (points region)

    length_of_field : (field : ℕ) → field < length h.fields → length (of_field field) ≡ length (points region) * sample_bytes_of h field
    length_of_field field within =
        length-flat_map_same (sample field) (sample_bytes_of h field) (points region) (λ p. are field p within) ∙ mul_comm (sample_bytes_of h field) (length (points region))

    length_before : (field : ℕ) → field ≤ length h.fields → length (flat_map of_field (range_with_len 0 field)) ≡ bytes_before h region field
    length_before zero within = let none : 0 ≡ length (points region) * 0 = omega arith in none
    length_before (suc field) within =
        let here : field < length h.fields = omega arith in
        let next : suc field ≡ field + 1 = omega arith in
        ap (λ k. length (flat_map of_field (range_with_len 0 k))) next
        ∙ ap length (flat_map-range_more of_field field)
        ∙ joined (flat_map of_field (range_with_len 0 field)) (of_field field)
        ∙ ap (λ n. n + length (of_field field)) (length_before field (omega arith))
        ∙ ap (λ n. bytes_before h region field + n) (length_of_field field here)
        ∙ sym (before_more field here)
        ∙ ap (bytes_before h region) (sym next)
      where
        joined : (xs ys : List ℕ) → length (xs ++ ys) ≡ length xs + length ys
        joined xs ys = simp length-append

    -- the samples of a field are those bytes
    pub field-samples : (bytes : List ℕ) (field : ℕ) → field < length h.fields → HoldsSamples h sample region bytes → field_samples h region bytes field ≡ of_field field
    field-samples bytes field within holds =
        let n : ℕ = length h.fields in
        let whole : n ≡ field + (1 + (n - field - 1)) = omega arith in
        let rest : List ℕ = flat_map of_field (range_with_len (field + 1) (n - field - 1)) in
        let cut : bytes ≡ flat_map of_field (range_with_len 0 field) ++ (of_field field ++ rest) =
        holds ∙ ap (λ k. flat_map of_field (range_with_len 0 k)) whole ∙ flat_map-range_append of_field 0 field (1 + (n - field - 1)) ∙ behind field (n - field - 1) in
        ap (λ b. take (length (points region) * sample_bytes_of h field) (drop (bytes_before h region field) b)) cut
        ∙ ap (λ k. take (length (points region) * sample_bytes_of h field) (drop k (flat_map of_field (range_with_len 0 field) ++ (of_field field ++ rest)))) (sym (length_before field (omega arith)))
        ∙ ap (take (length (points region) * sample_bytes_of h field)) (drop-append_seam (flat_map of_field (range_with_len 0 field)) (of_field field ++ rest))
        ∙ ap (λ k. take k (of_field field ++ rest)) (sym (length_of_field field within))
        ∙ take-append_seam (of_field field) rest
      where
        behind : (k m : ℕ) → flat_map of_field (range_with_len 0 k) ++ flat_map of_field (range_with_len (0 + k) (1 + m)) ≡ flat_map of_field (range_with_len 0 k) ++ (of_field k ++ flat_map of_field (range_with_len (k + 1) m))
        behind k m =
            let at : 0 + k ≡ k = omega arith in
            let one : 1 + m ≡ suc m = omega arith in
            ap (λ a. flat_map of_field (range_with_len 0 k) ++ flat_map of_field (range_with_len a (1 + m))) at
            ∙ ap (λ c. flat_map of_field (range_with_len 0 k) ++ flat_map of_field (range_with_len k c)) one

-- ---- the sample at an address
-- where a region has an address, its point's sample stands there
pub record IsStored (mask : List ℕ) (region : List (ℕ × ℕ)) (size : ℕ) (raw : List ℕ) (a : ℕ) (p : List ℕ) : Type 0 where
  pub inside : LiesIn region p
  pub address : hz_address mask p ≡ a
  pub sample : stored mask region size raw a ≡ take size (drop (size * place_of region p) raw)

pub stored_at : (mask : List ℕ) (region : List (ℕ × ℕ)) (size : ℕ) (raw : List ℕ) (a : ℕ) → ((q : List ℕ) → LiesIn region q → HasAddress mask q) → has_address mask region a ≡ true →
    (p : List ℕ) × IsStored mask region size raw a p
stored_at mask region size raw a has here =
    let at = point_found region (λ p. hz_address mask p == a) here in
    let address : hz_address mask at.0 ≡ a = eqb-true (hz_address mask at.0) a at.2 in (
      at.0,
      record { inside = at.1; address = address; sample = ap (stored mask region size raw) (sym address) ∙ stored-point mask region size raw at.0 has at.1 },
    )

pub length-stored : (mask : List ℕ) (region : List (ℕ × ℕ)) (size : ℕ) (raw : List ℕ) (a : ℕ) → ((q : List ℕ) → LiesIn region q → HasAddress mask q) → has_address mask region a ≡ true →
    length raw ≡ size * length (points region) → length (stored mask region size raw a) ≡ size
length-stored mask region size raw a has here long =
    let at = stored_at mask region size raw a has here in
    let place : ℕ = place_of region at.0 in
    let below : place + 1 ≤ length (points region) = omega (arith, place_of-lt region at.0 at.1.inside, length-points region) in
    let bytes : size * (place + 1) ≤ size * length (points region) = mul-le-mul_left size below in
    let next : size * (place + 1) ≡ size * place + size = grind arith in
    ap length at.1.sample ∙ length-take-le size (drop (size * place) raw) (omega (arith, bytes, next, long, length-drop (size * place) raw))

-- a point of the box is found by its address
pub found-sample : (h : HeaderValue) (sample : ℕ → List ℕ → List ℕ) (field : ℕ) (p : List ℕ) → ((q : List ℕ) → LiesIn h.box q → HasAddress h.mask q) → LiesIn h.box p →
    sample_at_address h sample field (hz_address h.mask p) ≡ sample field p
found-sample h sample field p has inside =
    let found = find_some (λ (q : List ℕ). hz_address h.mask q == hz_address h.mask p) (points h.box) (place_of h.box p) p (slice_get-place_of h.box p inside)
    (eq-eqb (hz_address h.mask p) (hz_address h.mask p) refl) in
    let q : List ℕ = found.0 in
    let within : LiesIn h.box q = (LiesIn-slice_get h.box found.2.at q found.2.stands).0 in
    let same : q ≡ p = hz_address-injective h.mask q p (has q within) (has p inside) (length_from_LiesIn h.box q within ∙ sym (length_from_LiesIn h.box p inside))
    (eqb-true (hz_address h.mask q) (hz_address h.mask p) found.2.passes) in
    ap (λ (o : Option (List ℕ)). option_map_or (sample field) o (replicate {A = ℕ} (sample_bytes_of h field) 0)) (found.1 ∙ ap Some same)

-- what stands at an address of the region is the sample of the box there
pub right-sample : (h : HeaderValue) (region : List (ℕ × ℕ)) (sample : ℕ → List ℕ → List ℕ) (field a : ℕ) → field < length h.fields → AreSamples h sample →
    ((q : List ℕ) → LiesIn h.box q → HasAddress h.mask q) → HoldsAll h.box region → has_address h.mask region a ≡ true →
    stored h.mask region (sample_bytes_of h field) (flat_map (sample field) (points region)) a ≡ sample_at_address h sample field a
right-sample h region sample field a within are has holds here =
    let at = stored_at h.mask region (sample_bytes_of h field) (flat_map (sample field) (points region)) a (λ q inside. has q (holds q inside)) here in
    let p : List ℕ = at.0 in
    at.1.sample
    ∙ piece_at (sample field) (sample_bytes_of h field) (λ q. are field q within) (points region) (place_of region p) p (slice_get-place_of region p at.1.inside)
    ∙ sym (found-sample h sample field p has (holds p at.1.inside))
    ∙ ap (sample_at_address h sample field) at.1.address
