-- The row place of an offset is the rank of the point of its address, and the offsets and their row places are one to one.
use Rattle.std.proofs.Common.{◌≡◌, ℕ, zero, suc, ◌+◌, ◌-◌, ◌*◌, ◌/◌, ◌%◌, ◌^◌, ◌<◌, Bool, true, false, List, [], ◌∷◌, length, get_or, take, refl, sym, ap, ◌∙◌, ⊎_elim, arith, subst}
use Rattle.std.specs.Prelude.{filter, not, ◌==◌}
use Rattle.std.specs.List.{position_or_len}
use Rattle.std.proofs.Math.Nat.{mod-add-div', mod-lt}
use Rattle.std.proofs.lemmas.Bool.{cases_Bool, eq-eqb, ne_eqb}
use Rattle.std.proofs.lemmas.List.Folds.{length-prefix_len}
use Rattle.std.proofs.lemmas.Nat.{pow_pos, pow-add, div-mul-add, mod-mul-add, mod_below, mul-add-lt}
use Rattle.std.proofs.lemmas.Option.{get_or_from_slice_get}
use Rattle.idx_geom.specs.Region.{points, place_of, point_of}
use Rattle.idx_geom.proofs.PointsLemmas.{size, length-points, slice_get-points, LiesIn-point_of, place_of-point_of, place_of-lt, point_of-place_of}
use Rattle.idx_hz.specs.Mask.{NamesAxes, HasAddress}
use Rattle.idx_hz.specs.Address.{hz_address}
use Rattle.idx_hz.proofs.AddressLaws.{hz_address-injective, hz_address-onto}
use Rattle.idx_rowmajor.specs.RowPlace.{size_box, IsBlock, is_in_block, block_points, row_place, offset_at}
use Rattle.idx_rowmajor.specs.Digits.{row_rank}
use Rattle.idx_rowmajor.proofs.WindowLemmas.{LiesIn-size_box, HasAddress-from_LiesIn}
use Rattle.idx_rowmajor.proofs.RankLaws.{row_rank-lt, row_rank-onto}

-- ---- what comes before an element that stays

-- before the first element that is searched for, among those that stay
position-filter : {X : Type 0} (q f : X → Bool) (xs : List X) (d : X) (n : ℕ) → n < length xs → f (get_or xs n d) ≡ true → q (get_or xs n d) ≡ true →
    ((k : ℕ) → k < n → q (get_or xs k d) ≡ false) → position_or_len q (filter f xs) ≡ length (filter f (take n xs))
position-filter q f [] d n within stays hit none = absurd (omega arith)
position-filter q f (x ∷ xs) d zero within stays hit none = rw (stays, hit) refl
position-filter q f (x ∷ xs) d (suc n) within stays hit none =
    let first : q x ≡ false = none 0 (omega arith) in
    let rest : position_or_len q (filter f xs) ≡ length (filter f (take n xs)) = position-filter q f xs d n (omega arith) stays hit (λ k h. none (suc k) (omega arith)) in
    ⊎_elim
    (λ (yes : f x ≡ true). rw (yes, first) (omega (arith, rest)))
    (λ (no : f x ≡ false). rw no rest)
    (cases_Bool (f x))

get-filter : {X : Type 0} (f : X → Bool) (xs : List X) (d : X) (n : ℕ) → n < length xs → f (get_or xs n d) ≡ true → get_or (filter f xs) (length (filter f (take n xs))) d ≡ get_or xs n d
get-filter f [] d n within stays = absurd (omega arith)
get-filter f (x ∷ xs) d zero within stays = rw stays refl
get-filter f (x ∷ xs) d (suc n) within stays =
    let rest : get_or (filter f xs) (length (filter f (take n xs))) d ≡ get_or xs n d = get-filter f xs d n (omega arith) stays in
    ⊎_elim
    (λ (yes : f x ≡ true). rw yes rest)
    (λ (no : f x ≡ false). rw no rest)
    (cases_Bool (f x))

-- ---- the point of an address

-- a point with the address at an offset of a block
pub record IsAt (mask : List ℕ) (axes bits block offset : ℕ) (p : List ℕ) : Type 0 where
  pub len : length p ≡ axes
  pub has : HasAddress mask p
  pub address : hz_address mask p ≡ block * 2 ^ bits + offset

address-lt : (mask : List ℕ) (axes bits block offset : ℕ) → IsBlock mask axes bits block → offset < 2 ^ bits → block * 2 ^ bits + offset < 2 ^ length mask
address-lt mask axes bits block offset is small =
    let whole : 2 ^ length mask ≡ 2 ^ bits * 2 ^ (length mask - bits) = ap (λ n. 2 ^ n) (let h : length mask ≡ bits + (length mask - bits) = omega (arith, is.fits) in h) ∙ pow-add 2 bits (length mask - bits) in
    omega (arith, mul-add-lt block (2 ^ bits) offset (2 ^ (length mask - bits)) is.exists small)

-- there is one
pub point_at-offset : (mask : List ℕ) (axes bits block offset : ℕ) → IsBlock mask axes bits block → offset < 2 ^ bits → (p : List ℕ) × IsAt mask axes bits block offset p
point_at-offset mask axes bits block offset is small =
    let found = hz_address-onto mask axes (block * 2 ^ bits + offset) is.named (address-lt mask axes bits block offset is small) in
    (found.0, record { len = found.1; has = found.2; address = found.3 })

in_block : (mask : List ℕ) (axes bits block offset : ℕ) (p : List ℕ) → offset < 2 ^ bits → IsAt mask axes bits block offset p → hz_address mask p / 2 ^ bits ≡ block
in_block mask axes bits block offset p small at = ap (λ n. n / 2 ^ bits) at.address ∙ div-mul-add block (2 ^ bits) offset small

offset_of : (mask : List ℕ) (axes bits block offset : ℕ) (p : List ℕ) → offset < 2 ^ bits → IsAt mask axes bits block offset p → hz_address mask p % 2 ^ bits ≡ offset
offset_of mask axes bits block offset p small at = ap (λ n. n % 2 ^ bits) at.address ∙ mod-mul-add block (2 ^ bits) offset small

-- a point of the block is the one at its offset
at_own_offset : (mask : List ℕ) (axes bits block : ℕ) (p : List ℕ) → length p ≡ axes → HasAddress mask p → hz_address mask p / 2 ^ bits ≡ block → IsAt mask axes bits block (hz_address mask p % 2 ^ bits) p
at_own_offset mask axes bits block p len has is = record {
  len = len;
  has = has;
  address = omega (arith, mod-add-div' (hz_address mask p) (2 ^ bits), ap (λ n. n * 2 ^ bits) is);
}

module _ (mask : List ℕ) (axes bits block offset : ℕ) (p : List ℕ) (small : offset < 2 ^ bits) (named : NamesAxes mask axes) (at : IsAt mask axes bits block offset p) where
  inside : place_of (size_box mask axes) p < length (points (size_box mask axes))
  inside =
      let box : List (ℕ × ℕ) = size_box mask axes in
      omega (arith, place_of-lt box p (LiesIn-size_box mask axes p at.len at.has), length-points box)

  point_there : (n : ℕ) → n < length (points (size_box mask axes)) → get_or (points (size_box mask axes)) n [] ≡ point_of (size_box mask axes) n
  point_there n within =
      let box : List (ℕ × ℕ) = size_box mask axes in
      get_or_from_slice_get (points box) n (point_of box n) [] (slice_get-points box n (omega (arith, length-points box)))

  point_here : get_or (points (size_box mask axes)) (place_of (size_box mask axes) p) [] ≡ p
  point_here = point_there (place_of (size_box mask axes) p) inside ∙ point_of-place_of (size_box mask axes) p (LiesIn-size_box mask axes p at.len at.has)

  stays : is_in_block mask bits block (get_or (points (size_box mask axes)) (place_of (size_box mask axes) p) []) ≡ true
  stays = ap (is_in_block mask bits block) point_here ∙ eq-eqb (hz_address mask p / 2 ^ bits) block (in_block mask axes bits block offset p small at)

  -- no earlier point has the address
  none_before : (k : ℕ) → k < place_of (size_box mask axes) p → (hz_address mask (get_or (points (size_box mask axes)) k []) == block * 2 ^ bits + offset) ≡ false
  none_before k before =
      let box : List (ℕ × ℕ) = size_box mask axes in
      let within : k < size box = omega (arith, inside, length-points box) in
      let found : (length (point_of box k) ≡ axes) × HasAddress mask (point_of box k) = HasAddress-from_LiesIn mask axes (point_of box k) named (LiesIn-point_of box k within) in
      ap (λ q. hz_address mask q == block * 2 ^ bits + offset) (point_there k (omega (arith, inside)))
      ∙ ne_eqb (hz_address mask (point_of box k)) (block * 2 ^ bits + offset) (λ same.
      let one : point_of box k ≡ p = hz_address-injective mask (point_of box k) p found.1 at.has (found.0 ∙ sym at.len) (same ∙ sym at.address) in
      let equal : k ≡ place_of box p = sym (place_of-point_of box k within) ∙ ap (place_of box) one in
      omega arith)

  -- the row place is the rank of the point
  pub row_place-rank : row_place mask axes bits block offset ≡ row_rank mask axes bits block p
  unfolding row_place block_points
  row_place-rank =
      let box : List (ℕ × ℕ) = size_box mask axes in
      length-prefix_len (λ q. not (hz_address mask q == block * 2 ^ bits + offset)) (filter (is_in_block mask bits block) (points box))
      ∙ position-filter (λ q. hz_address mask q == block * 2 ^ bits + offset) (is_in_block mask bits block) (points box) [] (place_of box p) inside stays
      (ap (λ q. hz_address mask q == block * 2 ^ bits + offset) point_here ∙ eq-eqb (hz_address mask p) (block * 2 ^ bits + offset) at.address) none_before

  -- and the offset of that rank is the point's
  pub offset_at-rank : offset_at mask axes bits block (row_rank mask axes bits block p) ≡ offset
  unfolding offset_at block_points
  offset_at-rank =
      let box : List (ℕ × ℕ) = size_box mask axes in
      let there : get_or (filter (is_in_block mask bits block) (points box)) (row_rank mask axes bits block p) [] ≡ p =
      get-filter (is_in_block mask bits block) (points box) [] (place_of box p) inside stays ∙ point_here in
      ap (λ q. hz_address mask q % 2 ^ bits) there ∙ offset_of mask axes bits block offset p small at

-- ---- one to one

pub row_place-lt : (mask : List ℕ) (axes bits block offset : ℕ) → IsBlock mask axes bits block → offset < 2 ^ bits → row_place mask axes bits block offset < 2 ^ bits
row_place-lt mask axes bits block offset is small =
    let found : (p : List ℕ) × IsAt mask axes bits block offset p = point_at-offset mask axes bits block offset is small in
    subst (λ n. n < 2 ^ bits) (sym (row_place-rank mask axes bits block offset found.0 small is.named found.1))
    (row_rank-lt mask axes bits block found.0 is.named is.fits is.exists found.1.len found.1.has (in_block mask axes bits block offset found.0 small found.1))

pub offset_at-row_place : (mask : List ℕ) (axes bits block offset : ℕ) → IsBlock mask axes bits block → offset < 2 ^ bits → offset_at mask axes bits block (row_place mask axes bits block offset) ≡ offset
offset_at-row_place mask axes bits block offset is small =
    let found : (p : List ℕ) × IsAt mask axes bits block offset p = point_at-offset mask axes bits block offset is small in
    ap (offset_at mask axes bits block) (row_place-rank mask axes bits block offset found.0 small is.named found.1)
    ∙ offset_at-rank mask axes bits block offset found.0 small is.named found.1

-- each place is the row place of an offset
pub row_place-onto : (mask : List ℕ) (axes bits block place : ℕ) → IsBlock mask axes bits block → place < 2 ^ bits → (offset : ℕ) × (offset < 2 ^ bits) × (row_place mask axes bits block offset ≡ place)
row_place-onto mask axes bits block place is small =
    let found = row_rank-onto mask axes bits block place is.named is.fits is.exists small in
    let p : List ℕ = found.0 in
    let offset : ℕ = hz_address mask p % 2 ^ bits in
    let below : offset < 2 ^ bits = mod_below (hz_address mask p) (2 ^ bits) (pow_pos bits) in
    (offset, below, row_place-rank mask axes bits block offset p below is.named (at_own_offset mask axes bits block p found.1 found.2 found.3) ∙ found.4)

-- an offset is a remainder, whatever the numbers are
pub offset_at-small : (mask : List ℕ) (axes bits block place : ℕ) → offset_at mask axes bits block place < 2 ^ bits
unfolding offset_at
offset_at-small mask axes bits block place = mod-lt _ (pow_pos bits)

pub offset_at-lt : (mask : List ℕ) (axes bits block place : ℕ) → IsBlock mask axes bits block → place < 2 ^ bits → offset_at mask axes bits block place < 2 ^ bits
offset_at-lt mask axes bits block place is small =
    let found = row_place-onto mask axes bits block place is small in
    subst (λ n. n < 2 ^ bits) (sym (ap (offset_at mask axes bits block) (sym found.2) ∙ offset_at-row_place mask axes bits block found.0 is found.1)) found.1

pub row_place-offset_at : (mask : List ℕ) (axes bits block place : ℕ) → IsBlock mask axes bits block → place < 2 ^ bits → row_place mask axes bits block (offset_at mask axes bits block place) ≡ place
row_place-offset_at mask axes bits block place is small =
    let found = row_place-onto mask axes bits block place is small in
    ap (λ n. row_place mask axes bits block (offset_at mask axes bits block n)) (sym found.2)
    ∙ ap (row_place mask axes bits block) (offset_at-row_place mask axes bits block found.0 is found.1) ∙ found.2

pub row_place-injective : (mask : List ℕ) (axes bits block offset other : ℕ) → IsBlock mask axes bits block → offset < 2 ^ bits → other < 2 ^ bits → row_place mask axes bits block offset ≡ row_place mask axes bits block other → offset ≡ other
row_place-injective mask axes bits block offset other is small small' same =
    sym (offset_at-row_place mask axes bits block offset is small) ∙ ap (offset_at mask axes bits block) same ∙ offset_at-row_place mask axes bits block other is small'
