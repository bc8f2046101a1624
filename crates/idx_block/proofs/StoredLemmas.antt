-- The sample with an address: that of the box's point that has it, and zeros where none has.
use Rattle.std.proofs.Common.{◌≡◌, ◌≢◌, ℕ, zero, suc, ◌*◌, ◌^◌, Bool, true, false, cond, List, [], ◌∷◌, Option, Some, None, length, take, drop, eqb-true, eq-eqb, refl, sym, ap, ◌∙◌}
use Rattle.std.specs.Prelude.{find, replicate, slice_get, ◌==◌}
use Rattle.std.specs.List.{flat_map, range_with_len}
use Rattle.std.specs.Option.{option_map_or}
use Rattle.idx_geom.specs.Region.{LiesIn, points, place_of}
use Rattle.idx_geom.specs.Volume.{sample_at, samples_of}
use Rattle.idx_geom.proofs.PointsLemmas.{LiesIn-slice_get, slice_get-place_of}
use Rattle.idx_geom.proofs.LiesInLemmas.{length_from_LiesIn}
use Rattle.idx_hz.specs.Mask.{HasAddress}
use Rattle.idx_hz.specs.Address.{hz_address}
use Rattle.idx_hz.proofs.AddressLaws.{hz_address-injective}
use Rattle.idx_header.specs.Header.{HeaderValue}
use Rattle.idx_layout.specs.Placing.{block_of_samples}
use Rattle.idx_layout.specs.OfHeader.{placing_of}
use Rattle.idx_walk.proofs.WalkLemmas.{sample_at-raw}
use Rattle.idx_block.specs.Stored.{stored}

-- what is found in a list passes, and stands in it
pub record IsFound {X : Type 0} (test : X → Bool) (xs : List X) (x : X) : Type 0 where
  pub at : ℕ
  pub stands : slice_get xs at ≡ Some x
  pub passes : test x ≡ true

pub find_some : {X : Type 0} (test : X → Bool) (xs : List X) (k : ℕ) (x : X) → slice_get xs k ≡ Some x → test x ≡ true → (y : X) × (find test xs ≡ Some y) × IsFound test xs y
find_some {X = X} test [] k x e passes = let wrong : ◌≡◌ {A = Option X} None (Some x) = e in cc
find_some {X = X} test (y ∷ ys) k x e passes = by_test (λ k e. find_some test ys k x e passes) (test y) refl k e
  where
    by_test : ((k : ℕ) → slice_get ys k ≡ Some x → (z : X) × (find test ys ≡ Some z) × IsFound test ys z) → (b : Bool) → test y ≡ b → (k : ℕ) → slice_get (y ∷ ys) k ≡ Some x →
        (z : X) × (find test (y ∷ ys) ≡ Some z) × IsFound test (y ∷ ys) z
    by_test more true is k e = (y, ap (λ (b : Bool). cond b (Some y) (find test ys)) is, record { at = 0; stands = refl; passes = is })
    by_test more false is zero e = let same : y ≡ x = cc in let wrong : false ≡ true = sym is ∙ ap test same ∙ passes in cc
    by_test more false is (suc k) e =
        let rest = more k e in
        (rest.0, ap (λ (b : Bool). cond b (Some y) (find test ys)) is ∙ rest.1, record { at = suc (rest.2.at); stands = rest.2.stands; passes = rest.2.passes })

pub find_none : {X : Type 0} (test : X → Bool) (xs : List X) → ((k : ℕ) (x : X) → slice_get xs k ≡ Some x → test x ≡ false) → find test xs ≡ None
find_none test [] none = refl
find_none test (y ∷ ys) none = ap (λ (b : Bool). cond b (Some y) (find test ys)) (none 0 y refl) ∙ find_none test ys (λ k x e. none (suc k) x e)

-- a point of the box is found by its address
pub stored-point : (mask : List ℕ) (box : List (ℕ × ℕ)) (size : ℕ) (raw p : List ℕ) → ((q : List ℕ) → LiesIn box q → HasAddress mask q) → LiesIn box p →
    stored mask box size raw (hz_address mask p) ≡ take size (drop (size * place_of box p) raw)
unfolding stored
stored-point mask box size raw p has inside =
    let found = find_some (λ (q : List ℕ). hz_address mask q == hz_address mask p) (points box) (place_of box p) p (slice_get-place_of box p inside)
    (eq-eqb (hz_address mask p) (hz_address mask p) refl) in
    let q : List ℕ = found.0 in
    let within : LiesIn box q = (LiesIn-slice_get box found.2.at q found.2.stands).0 in
    let same : q ≡ p = hz_address-injective mask q p (has q within) (has p inside) (length_from_LiesIn box q within ∙ sym (length_from_LiesIn box p inside))
    (eqb-true (hz_address mask q) (hz_address mask p) found.2.passes) in
    ap (λ (o : Option (List ℕ)). option_map_or (sample_at box (samples_of size (length (points box)) raw)) o (replicate {A = ℕ} size 0)) (found.1 ∙ ap Some same)
    ∙ sample_at-raw box size raw p inside

-- an address that no point of the box has holds zeros
pub stored-none : (mask : List ℕ) (box : List (ℕ × ℕ)) (size : ℕ) (raw : List ℕ) (address : ℕ) → ((q : List ℕ) → LiesIn box q → hz_address mask q ≢ address) →
    stored mask box size raw address ≡ replicate size 0
unfolding stored
stored-none mask box size raw address none =
    let nothing : find (λ (q : List ℕ). hz_address mask q == address) (points box) ≡ None =
    find_none (λ (q : List ℕ). hz_address mask q == address) (points box) (λ k q e. off q (none q (LiesIn-slice_get box k q e).0) (hz_address mask q == address) refl) in
    ap (λ (o : Option (List ℕ)). option_map_or (sample_at box (samples_of size (length (points box)) raw)) o (replicate {A = ℕ} size 0)) nothing
  where
    off : (q : List ℕ) → hz_address mask q ≢ address → (b : Bool) → (hz_address mask q == address) ≡ b → (hz_address mask q == address) ≡ false
    off q apart false e = e
    off q apart true e = absurd (apart (eqb-true (hz_address mask q) address e))

-- the samples of a block of a header
pub block-stored : (h : HeaderValue) (size : ℕ) (raw : List ℕ) (block : ℕ) →
    flat_map (stored h.mask h.box size raw) (range_with_len (block * 2 ^ h.block_bits) (2 ^ h.block_bits)) ≡ block_of_samples (placing_of h) size (samples_of size (length (points h.box)) raw) block
unfolding stored
block-stored h size raw block = refl

-- a block by a mask, a box, bits and a size that are a header's
pub block-of_header : (h : HeaderValue) (mask : List ℕ) (box : List (ℕ × ℕ)) (bits size bytes : ℕ) (raw : List ℕ) (block : ℕ) (new : List ℕ) → mask ≡ h.mask → box ≡ h.box →
    bits ≡ h.block_bits → bytes ≡ size →
    new ≡ flat_map (stored mask box bytes raw) (range_with_len (block * 2 ^ bits) (2 ^ bits)) → new ≡ block_of_samples (placing_of h) size (samples_of size (length (points h.box)) raw) block
block-of_header h mask box bits size bytes raw block new same_mask same_box same_bits same_size is =
    is
    ∙ ap (λ (m : List ℕ). flat_map (stored m box bytes raw) (range_with_len (block * 2 ^ bits) (2 ^ bits))) same_mask
    ∙ ap (λ (r : List (ℕ × ℕ)). flat_map (stored h.mask r bytes raw) (range_with_len (block * 2 ^ bits) (2 ^ bits))) same_box
    ∙ ap (λ n. flat_map (stored h.mask h.box n raw) (range_with_len (block * 2 ^ bits) (2 ^ bits))) same_size
    ∙ ap (λ n. flat_map (stored h.mask h.box size raw) (range_with_len (block * 2 ^ n) (2 ^ n))) same_bits
    ∙ block-stored h size raw block
