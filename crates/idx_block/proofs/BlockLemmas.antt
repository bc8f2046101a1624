-- A block is made where the samples of its points are copied over zeros.
use Rattle.std.proofs.Common.{◌≡◌, ◌↔◌, ℕ, zero, suc, ◌+◌, ◌-◌, ◌*◌, ◌/◌, ◌%◌, ◌^◌, ◌<◌, ◌≤◌, ◌⊎◌, List, [], ◌∷◌, length, take, drop, refl, sym, ap, ◌∙◌, subst, ⊎_elim, inl, inr, arith}
use Rattle.std.specs.Prelude.{replicate}
use Rattle.std.specs.List.{flat_map, range_with_len}
use Rattle.std.proofs.Math.Nat.{mod-lt, mul-le-mul_right, mul_comm}
use Rattle.std.proofs.lemmas.Bool.{cases_lt}
use Rattle.std.proofs.lemmas.List.{drop-replicate}
use Rattle.std.proofs.lemmas.Nat.{div-add-mod', div-mul-add, pow_pos}
use Rattle.idx_geom.specs.Region.{HoldsAll, LiesIn, place_of, points}
use Rattle.idx_geom.proofs.LiesInLemmas.{length_from_LiesIn}
use Rattle.idx_geom.proofs.PointsLemmas.{place_of-lt, length-points}
use Rattle.idx_hz.specs.Mask.{HasAddress, NamesAxes}
use Rattle.idx_hz.specs.Address.{hz_address}
use Rattle.idx_hz.proofs.AddressLaws.{hz_address-injective, hz_address-onto}
use Rattle.idx_grid.specs.Grid.{LiesOn}
use Rattle.idx_grid.specs.declared.grid.Grid.{Grid}
use Rattle.idx_grid.specs.Block.{IsInBlock}
use Rattle.idx_lanes.specs.declared.block_part.BlockPart.{BlockPart}
use Rattle.idx_block.specs.Stored.{stored}
use Rattle.idx_lanes.specs.Copies.{IsRight, IsWanted, IsWithin}
use Rattle.idx_lanes.specs.Lanes.{AreCopied, AreNumbers, byte_at, place_at}
use Rattle.idx_lanes.proofs.CopyLemmas.{all-right}
use Rattle.idx_lanes.proofs.SettingLemmas.{IsSetting, byte-point, in_block, in_region, numbers-of, place-point, point_by}
use Rattle.idx_block.proofs.StoredLemmas.{stored-none, stored-point}

-- ---- which points are in a box

-- a point of as many axes lies in a box, or does not
pub cases_in : (bs : List (ℕ × ℕ)) (p : List ℕ) → LiesIn bs p ⊎ (LiesIn bs p → ⊥)
cases_in [] [] = inl tt
cases_in [] (x ∷ xs) = inr (λ h. h)
cases_in (b ∷ bs) [] = inr (λ h. h)
cases_in (b ∷ bs) (x ∷ xs) = ⊎_elim
    (λ (low : x < b.0). inr (λ h. omega (arith, h.0, low)))
    (λ (from : b.0 ≤ x). ⊎_elim
    (λ (high : b.1 < x). inr (λ h. omega (arith, h.1, high)))
    (λ (to : x ≤ b.1). ⊎_elim
    (λ (rest : LiesIn bs xs). inl (from, to, rest))
    (λ (out : LiesIn bs xs → ⊥). inr (λ h. out h.2))
    (cases_in bs xs))
    (cases_lt b.1 x))
    (cases_lt x b.0)

-- ---- zeros

take-replicate : (n m : ℕ) → n ≤ m → take n (replicate {A = ℕ} m 0) ≡ replicate n 0
take-replicate zero m le = refl
take-replicate (suc n) zero le = absurd (omega arith)
take-replicate (suc n) (suc m) le = ap (λ xs. 0 ∷ xs) (take-replicate n m (omega arith))

pub zeros-at : (size place m : ℕ) → (place + 1) * size ≤ m → take size (drop (place * size) (replicate {A = ℕ} m 0)) ≡ replicate size 0
zeros-at size place m room =
    let more : (place + 1) * size ≡ place * size + size = grind arith in
    ap (take size) (drop-replicate {X = ℕ} (place * size) m 0) ∙ take-replicate size (m - place * size) (omega (arith, room, more))

-- ---- the point of a place

-- the point whose address is that of a place of a block
pub record IsAt (mask : List ℕ) (axes bits block place : ℕ) (p : List ℕ) : Type 0 where
  pub in_block : IsInBlock mask axes bits block p
  pub address : hz_address mask p ≡ block * 2 ^ bits + place

pub point-at : (mask : List ℕ) (axes bits block place : ℕ) → NamesAxes mask axes → block * 2 ^ bits + place < 2 ^ length mask → place < 2 ^ bits → (p : List ℕ) × IsAt mask axes bits block place p
point-at mask axes bits block place named small within =
    let found = hz_address-onto mask axes (block * 2 ^ bits + place) named small in (
      found.0,
      record {
        in_block = record { size = found.1; has = found.2; address = ap (λ n. n / 2 ^ bits) found.3 ∙ div-mul-add block (2 ^ bits) place within };
        address = found.3;
      },
    )

-- where it is outside of the volume's box, the place holds zeros
pub outside-none : (mask : List ℕ) (region : List (ℕ × ℕ)) (bits block place size : ℕ) (raw p : List ℕ) → ((q : List ℕ) → LiesIn region q → HasAddress mask q) →
    IsAt mask (length region) bits block place p → (LiesIn region p → ⊥) →
    stored mask region size raw (block * 2 ^ bits + place) ≡ replicate size 0
outside-none mask region bits block place size raw p has at out =
    stored-none mask region size raw (block * 2 ^ bits + place) (λ q inside address.
    let same : q ≡ p = hz_address-injective mask q p (has q inside) at.in_block.has (length_from_LiesIn region q inside ∙ sym at.in_block.size) (address ∙ sym at.address) in
    out (subst (λ (x : List ℕ). LiesIn region x) same inside))

-- ---- a block

zero-right : (mask : List ℕ) (region : List (ℕ × ℕ)) (bits block size place : ℕ) (raw p old : List ℕ) → ((q : List ℕ) → LiesIn region q → HasAddress mask q) →
    IsAt mask (length region) bits block place p → (LiesIn region p → ⊥) →
    length old ≡ size * 2 ^ bits → place < 2 ^ bits → old ≡ replicate (length old) 0 → IsRight (λ o. stored mask region size raw (block * 2 ^ bits + o)) size old place
zero-right mask region bits block size place raw p old has at out room within zeros =
    let le : place + 1 ≤ 2 ^ bits = omega (arith, within) in
    ap (λ xs. take size (drop (place * size) xs)) zeros
    ∙ zeros-at size place (length old) (omega (arith, room, mul-le-mul_right size le, mul_comm (2 ^ bits) size))
    ∙ sym (outside-none mask region bits block place size raw p has at out)

-- the sample of a place of a block
abbrev pub wanted : List ℕ → List (ℕ × ℕ) → ℕ → ℕ → ℕ → List ℕ → ℕ → List ℕ
wanted mask region bits block size raw place = stored mask region size raw (block * 2 ^ bits + place)

module _ (part : BlockPart) (box : List (ℕ × ℕ)) (grid : Grid) (block : ℕ) (raw : List ℕ) (is : IsSetting part box grid block) (whole : length raw ≡ part.size * length (points part.region)) where
  -- what is copied is what the places are to hold
  pub copies-wanted : (ks : ℕ → ℕ) → AreNumbers part (length part.region) ks →
      IsWanted (wanted part.mask part.region part.bits block part.size raw) part.size raw (byte_at part (length part.region) ks) (place_at part (length part.region) ks)
  copies-wanted ks are =
      ap (λ n. take part.size (drop n raw)) (sym (byte-point part box grid block is ks are))
      ∙ sym (stored-point part.mask part.region part.size raw (point_by part ks) is.has (in_region part box grid block is ks are))
      ∙ ap (stored part.mask part.region part.size raw) (place-point part box grid block is ks are)

  -- each copy is within the raw samples and the block
  pub copies-within : (old : List ℕ) → length old ≡ part.size * 2 ^ part.bits → (ks : ℕ → ℕ) → AreNumbers part (length part.region) ks →
      IsWithin part.size raw old (byte_at part (length part.region) ks) (place_at part (length part.region) ks)
  copies-within old room ks are =
      let p : List ℕ = point_by part ks in
      let place : ℕ = place_at part (length part.region) ks in
      let below : place_of part.region p + 1 ≤ length (points part.region) = omega (arith, place_of-lt part.region p (in_region part box grid block is ks are), length-points part.region) in
      let bytes : (place_of part.region p + 1) * part.size ≤ length (points part.region) * part.size = mul-le-mul_right part.size below in
      let inside = in_block part box grid block is ks are in
      let small : place < 2 ^ part.bits = below_block (hz_address part.mask p) block (2 ^ part.bits) place (pow_pos part.bits) (place-point part box grid block is ks are) inside.address in
      let le : place + 1 ≤ 2 ^ part.bits = omega (arith, small) in (
        omega (
          arith,
          whole,
          bytes,
          byte-point part box grid block is ks are,
          one_more (place_of part.region p) part.size,
          mul_comm (place_of part.region p) part.size,
          mul_comm (length (points part.region)) part.size,
        ),
        omega (arith, room, mul-le-mul_right part.size le, mul_comm (2 ^ part.bits) part.size),
      )
    where
      one_more : (n x : ℕ) → (n + 1) * x ≡ n * x + x
      one_more n x = grind arith

      below_block : (a b n place : ℕ) → 0 < n → a ≡ b * n + place → a / n ≡ b → place < n
      below_block a b n place some is same =
          let parts : a / n * n + a % n ≡ a = div-add-mod' a n in
          omega (arith, parts, is, ap (λ m. m * n) same, mod-lt a some)

  -- each place is right
  pub places-right : (old new : List ℕ) → block * 2 ^ part.bits + 2 ^ part.bits ≤ 2 ^ length part.mask → length old ≡ part.size * 2 ^ part.bits →
      ((HoldsAll part.region box → ⊥) → old ≡ replicate (length old) 0) →
      AreCopied (wanted part.mask part.region part.bits block part.size raw) part (length part.region) old new → (place : ℕ) → place < 2 ^ part.bits →
      IsRight (wanted part.mask part.region part.bits block part.size raw) part.size new place
  places-right old new exists room cleared copied place within =
      let want : ℕ → List ℕ = wanted part.mask part.region part.bits block part.size raw in
      let found = point-at part.mask (length part.region) part.bits block place is.named (omega (arith, exists, within)) within in
      let p : List ℕ = found.0 in
      ⊎_elim
      (λ (inside : LiesIn part.region p).
      let numbers = numbers-of part box grid block is p found.1.in_block inside in
      let address : block * 2 ^ part.bits + place_at part (length part.region) numbers.0 ≡ block * 2 ^ part.bits + place =
      sym (place-point part box grid block is numbers.0 numbers.1) ∙ ap (hz_address part.mask) numbers.2 ∙ found.1.address in
      let same : place_at part (length part.region) numbers.0 ≡ place = omega (arith, address) in
      subst (λ (n : ℕ). IsRight want part.size new n) same (copied.placed numbers.0 numbers.1))
      (λ (out : LiesIn part.region p → ⊥).
      let in_box = ((is.points p).0 found.1.in_block).0 in
      copied.kept place (zero-right part.mask part.region part.bits block part.size place raw p old is.has found.1 out room within (cleared (λ holds. out (holds p in_box)))))
      (cases_in part.region p)

  -- the block is made
  pub block-made : (old new : List ℕ) → block * 2 ^ part.bits + 2 ^ part.bits ≤ 2 ^ length part.mask → length old ≡ part.size * 2 ^ part.bits → length new ≡ length old →
      ((HoldsAll part.region box → ⊥) → old ≡ replicate (length old) 0) →
      AreCopied (wanted part.mask part.region part.bits block part.size raw) part (length part.region) old new →
      new ≡ flat_map (stored part.mask part.region part.size raw) (range_with_len (block * 2 ^ part.bits) (2 ^ part.bits))
  block-made old new exists room long cleared copied =
      all-right (stored part.mask part.region part.size raw) part.size (2 ^ part.bits) (block * 2 ^ part.bits) new (omega (arith, long, room, mul_comm part.size (2 ^ part.bits)))
      (places-right old new exists room cleared copied)

-- where no point of the volume's box is in the block's, all places hold zeros
pub block-none : (mask : List ℕ) (region box : List (ℕ × ℕ)) (grid : Grid) (bits block size : ℕ) (raw old : List ℕ) → NamesAxes mask (length region) →
    ((q : List ℕ) → LiesIn region q → HasAddress mask q) →
    ((p : List ℕ) → IsInBlock mask (length region) bits block p ↔ (LiesIn box p × LiesOn grid p)) → ((p : List ℕ) → LiesIn region p → LiesIn box p → ⊥) →
    block * 2 ^ bits + 2 ^ bits ≤ 2 ^ length mask → length old ≡ size * 2 ^ bits → ((HoldsAll region box → ⊥) → old ≡ replicate (length old) 0) →
    old ≡ flat_map (stored mask region size raw) (range_with_len (block * 2 ^ bits) (2 ^ bits))
block-none mask region box grid bits block size raw old named has points apart exists room cleared =
    all-right (stored mask region size raw) size (2 ^ bits) (block * 2 ^ bits) old (omega (arith, room, mul_comm size (2 ^ bits))) (λ place within.
    let found = point-at mask (length region) bits block place named (omega (arith, exists, within)) within in
    let p : List ℕ = found.0 in
    let in_box = ((points p).0 found.1.in_block).0 in
    zero-right mask region bits block size place raw p old has found.1 (λ inside. apart p inside in_box) room within (cleared (λ holds. apart p (holds p in_box) in_box)))
