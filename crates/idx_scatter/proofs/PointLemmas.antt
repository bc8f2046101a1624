-- Where the moves that are planned for a block are made, each point that is asked for has at its place what it is to have.
use Rattle.std.proofs.Common.{◌≡◌, ℕ, suc, ◌+◌, ◌*◌, ◌/◌, ◌%◌, ◌^◌, ◌<◌, ◌≤◌, Bool, true, false, cond, List, [], Some, length, get_or, eqb-true, eq-eqb, refl, sym, ap, ◌∙◌, subst, arith}
use Rattle.std.specs.Prelude.{◌&&◌, nat_le}
use Rattle.std.specs.List.{slice_get}
use Rattle.std.proofs.Math.Nat.{mod-lt, mul-le-mul_right, mul_comm}
use Rattle.std.proofs.lemmas.Nat.{div-add-mod', mod-mul-add, pow_pos}
use Rattle.idx_geom.specs.Region.{LiesIn, place_of, points}
use Rattle.idx_geom.proofs.LiesInLemmas.{length_from_LiesIn}
use Rattle.idx_geom.proofs.PointsLemmas.{length-points, place_of-lt}
use Rattle.idx_hz.specs.Address.{hz_address}
use Rattle.idx_hz.specs.Answer.{has_level}
use Rattle.idx_grid.specs.declared.grid.Grid.{Grid}
use Rattle.idx_grid.specs.Block.{IsInBlock}
use Rattle.idx_lanes.specs.declared.block_part.BlockPart.{BlockPart}
use Rattle.idx_lanes.specs.Copies.{IsRight}
use Rattle.idx_lanes.specs.Lanes.{AreNumbers, byte_at, place_at}
use Rattle.idx_lanes.proofs.SettingLemmas.{IsSetting, byte-point, in_block, in_region, numbers-of, place-point, point_by}
use Rattle.idx_scatter.specs.Asked.{Asked, asked_before, asked_points}
use Rattle.idx_scatter.specs.Moves.{AreMovedBy, IsAsked, IsThere}
use Rattle.idx_scatter.specs.Scatter.{IsScattered, is_in_block, put_of_block, sample_of}
use Rattle.idx_scatter.proofs.AskedLemmas.{IsAskedAt, asked-at, asked-from, asked-get_or, asked-within}

-- what a place of the answer is to hold
abbrev pub wanted : Asked → ℕ → ℕ → ℕ → List ℕ → List ℕ → ℕ → List ℕ
wanted a bits block size samples old place = put_of_block a bits block size samples old place (get_or (asked_points a) place [])

wanted-point : (a : Asked) (bits block size : ℕ) (samples old : List ℕ) (place : ℕ) (p : List ℕ) → slice_get (asked_points a) place ≡ Some p →
    wanted a bits block size samples old place ≡ put_of_block a bits block size samples old place p
wanted-point a bits block size samples old place p is = ap (put_of_block a bits block size samples old place) (asked-get_or a place p is)

put-in_block : (a : Asked) (bits block size : ℕ) (samples old : List ℕ) (place : ℕ) (p : List ℕ) → is_in_block a.mask bits block p ≡ true →
    put_of_block a bits block size samples old place p ≡ sample_of size samples (hz_address a.mask p % 2 ^ bits)
put-in_block a bits block size samples old place p is =
    ap (λ (b : Bool). cond b (sample_of size samples (hz_address a.mask p % 2 ^ bits)) (sample_of size old place)) is

put-outside : (a : Asked) (bits block size : ℕ) (samples old : List ℕ) (place : ℕ) (p : List ℕ) → is_in_block a.mask bits block p ≡ false →
    put_of_block a bits block size samples old place p ≡ sample_of size old place
put-outside a bits block size samples old place p is =
    ap (λ (b : Bool). cond b (sample_of size samples (hz_address a.mask p % 2 ^ bits)) (sample_of size old place)) is

-- the place of an address in its block
below_block : (a b n place : ℕ) → 0 < n → a ≡ b * n + place → a / n ≡ b → place < n
below_block a b n place some is same =
    let parts : a / n * n + a % n ≡ a = div-add-mod' a n in
    omega (arith, parts, is, ap (λ m. m * n) same, mod-lt a some)

-- the points of a block that are asked for, in the setting of its moves
pub record IsMove (a : Asked) (part : BlockPart) (size : ℕ) (samples old : List ℕ) : Type 0 where
  pub unit : part.size ≡ 1
  pub mask : part.mask ≡ a.mask
  pub region : part.region ≡ a.region
  pub few : length (points a.region) ≤ 2 ^ 40
  pub asked : (nat_le a.lo (suc (part.bits + part.k)) && nat_le (suc (part.bits + part.k)) a.hi) ≡ true
  pub read : length samples ≡ size * 2 ^ part.bits
  pub room : length old ≡ size * length (asked_points a)

module _ (lo hi : ℕ) (part : BlockPart) (box : List (ℕ × ℕ)) (grid : Grid) (block size : ℕ) (samples old : List ℕ) (is : IsSetting part box grid block)
    (move : IsMove (record { mask = part.mask; region = part.region; lo = lo; hi = hi }) part size samples old) where
  abbrev here : Asked
  here = record { mask = part.mask; region = part.region; lo = lo; hi = hi }

  -- a move goes to its point's place
  at-point : (ks : ℕ → ℕ) → AreNumbers part (length part.region) ks → place_of part.region (point_by part ks) ≡ byte_at part (length part.region) ks
  at-point ks are =
      let one : 1 * place_of part.region (point_by part ks) ≡ place_of part.region (point_by part ks) = omega arith in
      sym one ∙ ap (λ n. n * place_of part.region (point_by part ks)) (sym move.unit) ∙ byte-point part box grid block is ks are

  small : (ks : ℕ → ℕ) → AreNumbers part (length part.region) ks → place_at part (length part.region) ks < 2 ^ part.bits
  small ks are =
      below_block (hz_address part.mask (point_by part ks)) block (2 ^ part.bits) (place_at part (length part.region) ks) (pow_pos part.bits) (place-point part box grid block is ks are)
      (in_block part box grid block is ks are).address

  -- and comes from the place of its address
  place-address : (ks : ℕ → ℕ) → AreNumbers part (length part.region) ks → hz_address part.mask (point_by part ks) % 2 ^ part.bits ≡ place_at part (length part.region) ks
  place-address ks are =
      ap (λ n. n % 2 ^ part.bits) (place-point part box grid block is ks are) ∙ mod-mul-add block (2 ^ part.bits) (place_at part (length part.region) ks) (small ks are)

  -- its point is asked for
  has_asked : (ks : ℕ → ℕ) → AreNumbers part (length part.region) ks → has_level part.mask lo hi (point_by part ks) ≡ true
  has_asked ks are =
      ap (λ n. nat_le lo n && nat_le n hi) (is.level_is (point_by part ks) (in_block part box grid block is ks are)) ∙ move.asked

  stands : (ks : ℕ → ℕ) → AreNumbers part (length part.region) ks → slice_get (asked_points here) (asked_before here (byte_at part (length part.region) ks)) ≡ Some (point_by part ks)
  stands ks are =
      ap (λ o. slice_get (asked_points here) (asked_before here o)) (sym (at-point ks are))
      ∙ asked-at here (point_by part ks) (in_region part box grid block is ks are) (has_asked ks are)

  -- what is moved is what the places are to hold
  pub moves-asked : (ks : ℕ → ℕ) → AreNumbers part (length part.region) ks →
      IsAsked here (wanted here part.bits block size samples old) size samples (byte_at part (length part.region) ks) (place_at part (length part.region) ks)
  moves-asked ks are =
      let p : List ℕ = point_by part ks in
      let o : ℕ = asked_before here (byte_at part (length part.region) ks) in
      let same : is_in_block part.mask part.bits block p ≡ true = eq-eqb (hz_address part.mask p / 2 ^ part.bits) block (in_block part box grid block is ks are).address in
      ap (sample_of size samples) (sym (place-address ks are))
      ∙ sym (put-in_block here part.bits block size samples old o p same)
      ∙ sym (wanted-point here part.bits block size samples old o p (stands ks are))

  -- each move is within the block and the places
  pub moves-there : (ks : ℕ → ℕ) → AreNumbers part (length part.region) ks → IsThere here size samples old (byte_at part (length part.region) ks) (place_at part (length part.region) ks)
  moves-there ks are =
      let p : List ℕ = point_by part ks in
      let at : ℕ = byte_at part (length part.region) ks in
      let place : ℕ = place_at part (length part.region) ks in
      let within : asked_before here at + 1 ≤ length (asked_points here) =
      omega (arith, ap (asked_before here) (at-point ks are), asked-within here p (in_region part box grid block is ks are) (has_asked ks are)) in
      let le : place + 1 ≤ 2 ^ part.bits = omega (arith, small ks are) in
      record {
        point = omega (arith, place_of-lt part.region p (in_region part box grid block is ks are), length-points part.region, at-point ks are);
        few = move.few;
        room = omega (arith, move.room, mul-le-mul_right size within, mul_comm (length (asked_points here)) size);
        read = omega (arith, move.read, mul-le-mul_right size le, mul_comm (2 ^ part.bits) size);
      }

  -- each point has what it is to have
  pub all-scattered : (new : List ℕ) → AreMovedBy here (wanted here part.bits block size samples old) size part (length part.region) old new → IsScattered here part.bits block size samples old new
  all-scattered new moved i p at = by_test (is_in_block part.mask part.bits block p) refl
    where
      want : ℕ → List ℕ
      want = wanted here part.bits block size samples old

      from : IsAskedAt here i p
      from = asked-from here i p at

      by_test : (b : Bool) → is_in_block part.mask part.bits block p ≡ b → sample_of size new i ≡ put_of_block here part.bits block size samples old i p
      by_test true same =
          let block_is : hz_address part.mask p / 2 ^ part.bits ≡ block = eqb-true (hz_address part.mask p / 2 ^ part.bits) block same in
          let within : IsInBlock part.mask (length part.region) part.bits block p = record { size = length_from_LiesIn part.region p from.inside; has = is.has p from.inside; address = block_is } in
          let numbers = numbers-of part box grid block is p within from.inside in
          let there : asked_before here (byte_at part (length part.region) numbers.0) ≡ i =
          ap (asked_before here) (sym (at-point numbers.0 numbers.1) ∙ ap (place_of part.region) numbers.2) ∙ from.before in
          subst (λ (o : ℕ). IsRight want size new o) there (moved.placed numbers.0 numbers.1)
          ∙ wanted-point here part.bits block size samples old i p at
      by_test false out =
          let right : IsRight want size old i =
          sym (wanted-point here part.bits block size samples old i p at ∙ put-outside here part.bits block size samples old i p out) in
          moved.kept i right ∙ wanted-point here part.bits block size samples old i p at

-- where no point that is asked for is in the block, nothing changes
pub none-scattered : (a : Asked) (bits block size : ℕ) (samples old : List ℕ) →
    ((p : List ℕ) → LiesIn a.region p → has_level a.mask a.lo a.hi p ≡ true → hz_address a.mask p / 2 ^ bits ≡ block → ⊥) → IsScattered a bits block size samples old old
none-scattered a bits block size samples old none i p at = by_test (is_in_block a.mask bits block p) refl
  where
    by_test : (b : Bool) → is_in_block a.mask bits block p ≡ b → sample_of size old i ≡ put_of_block a bits block size samples old i p
    by_test true same =
        let from = asked-from a i p at in
        absurd (none p from.inside from.asked (eqb-true (hz_address a.mask p / 2 ^ bits) block same))
    by_test false out = sym (put-outside a bits block size samples old i p out)
