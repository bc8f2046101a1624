-- The loops that place the digits of a guessed mask.
use Rattle.std.proofs.Common.{◌≡◌, ℕ, zero, suc, ◌+◌, ◌-◌, ◌/◌, ◌^◌, eqb, ◌<◌, ◌≤◌, List, ◌++◌, length, get_or, take, drop, set, replicate, refl, sym, ap, ◌∙◌, subst, sum, arith, append_assoc, length-append, length-set}
use Rattle.std.specs.Prelude.{map}
use Rattle.std.specs.Int.Count.{count_leading_zeros}
use Rattle.std.proofs.lemmas.Bool.{cond_both}
use Rattle.std.proofs.lemmas.List.{take_more, take_more_set, drop_at, drop-replicate, length-replicate, get_or-map, length-map, append-nil, length-take-le, take_at}
use Rattle.std.proofs.lemmas.List.Elements.{All-map}
use Rattle.std.proofs.lemmas.List.Sums.{sum_by-le}
use Rattle.idx_hz.specs.Mask.{IsMask}
use Rattle.idx_hz.specs.MaskFields.{IsStored}
use Rattle.idx_hz.specs.Guess.{binary_digits_within, binary_digits, upper_bits, round_axes, rounds}
use Rattle.idx_hz.proofs.ShiftLemmas.{HasDigits-count_leading_zeros}
use Rattle.idx_hz.proofs.GuessLemmas.{axes_from, length-all_rounds, binary_digits-from_digits}

-- ---- a mask of axes

-- axes are stored, and zeros behind them
pub IsStored-axes : (axes copied : List ℕ) → IsMask axes → copied ≡ axes → IsStored (record { digits = copied ++ drop {A = ℕ} (length axes) (replicate {A = ℕ} 40 0); len = length axes })
IsStored-axes axes copied valid is =
    let zeros : drop {A = ℕ} (length axes) (replicate {A = ℕ} 40 0) ≡ replicate (40 - length axes) 0 = drop-replicate {X = ℕ} (length axes) 40 0 in
    rw (is, zeros) (record {
      array = record {
        size = length-append axes (replicate {A = ℕ} (40 - length axes) 0) ∙ ap (λ n. length axes + n) (length-replicate {A = ℕ} (40 - length axes) 0) ∙ omega (arith, valid.few);
        within = valid.few;
        rest = drop_at axes (replicate {A = ℕ} (40 - length axes) 0) (length axes) refl;
      };
      mask = subst IsMask (sym (take_at axes (replicate {A = ℕ} (40 - length axes) 0) (length axes) refl)) valid;
    })

-- ---- the bits of the axes

-- a number has at most so many digits
binary_digits_within-le : (most x : ℕ) → binary_digits_within most x ≤ most
binary_digits_within-le zero x = omega arith
binary_digits_within-le (suc most) x = cond_both (eqb x 0) 0 (suc (binary_digits_within most (x / 2))) (λ n. n ≤ suc most) (λ _. omega arith) (λ _. omega (arith, binary_digits_within-le most (x / 2)))

-- the axes together have few bits
pub sum-upper_bits : (box : List (ℕ × ℕ)) → length box ≤ 5 → sum (upper_bits box) < 2 ^ 32
unfolding binary_digits
sum-upper_bits box few =
    let size : length (upper_bits box) ≡ length box = length-map box (λ b. binary_digits b.1) in
    omega (arith, sum_by-le (λ x. x) 41 (upper_bits box) (All-map (λ x. x ≤ 41) (λ b. binary_digits b.1) box (λ k d within. binary_digits_within-le 41 (get_or box k d).1)))

-- a word's bits less its leading zeros are the binary digits of an end
pub binary_digits-in_word : (x : ℕ) → x ≤ 2 ^ 40 → 64 - count_leading_zeros 64 x ≡ binary_digits x
binary_digits-in_word x small = binary_digits-from_digits (64 - count_leading_zeros 64 x) x small (HasDigits-count_leading_zeros 64 x (omega arith))

-- the axes before one have their bits
pub record HasBits (box : List (ℕ × ℕ)) (axis : ℕ) (bits : List ℕ) : Type 0 where
  pub room : length bits ≡ 5
  pub front : take axis bits ≡ take axis (upper_bits box)

-- one axis more
pub HasBits-more : (box : List (ℕ × ℕ)) (axis : ℕ) (bits : List ℕ) (count : ℕ) → axis < length box → length box ≤ 5 → count ≡ binary_digits (get_or (map (λ (b : ℕ × ℕ). b.1) box) axis 0) → HasBits box axis bits → HasBits box (axis + 1) (set bits axis count)
HasBits-more box axis bits count within few is h =
    let size : length (upper_bits box) ≡ length box = length-map box (λ b. binary_digits b.1) in
    let here : count ≡ get_or (upper_bits box) axis 0 =
    is ∙ ap binary_digits (get_or-map (λ (b : ℕ × ℕ). b.1) box axis (0, 0) 0 within) ∙ sym (get_or-map (λ (b : ℕ × ℕ). binary_digits b.1) box axis (0, 0) 0 within) in
    record {
      room = length-set bits axis count ∙ h.room;
      front = take_more_set bits axis count (omega (arith, h.room)) ∙ rw (h.front, here) (sym (take_more (upper_bits box) axis 0 (omega arith)));
    }

-- ---- a round

-- the digits so far and the axes that are still to be placed are those before the round and the round's
pub record HasPlaced (before : List ℕ) (placed : ℕ) (bits : List ℕ) (round axis len : ℕ) (digits : List ℕ) : Type 0 where
  pub room : length digits ≡ 40
  pub front : take len digits ++ axes_from axis (drop axis bits) round ≡ take placed before ++ round_axes bits round
  pub count : len + length (axes_from axis (drop axis bits) round) ≡ placed + length (round_axes bits round)

-- ---- all rounds

-- the digits so far and the rounds that are left are the mask
pub record HasRounds (bits : List ℕ) (total round len : ℕ) (digits : List ℕ) : Type 0 where
  pub room : length digits ≡ 40
  pub within : len ≤ 40
  pub front : take len digits ++ rounds bits round ≡ rounds bits total

module _ (bits : List ℕ) (total round len : ℕ) (digits : List ℕ) (all : total ≡ sum bits) (few : total ≤ 40) (left : 0 < round) (h : HasRounds bits total round len digits) where
  front : take len digits ++ (round_axes bits (round - 1) ++ rounds bits (round - 1)) ≡ rounds bits total
  front = let next : suc (round - 1) ≡ round = omega arith in subst (λ n. take len digits ++ rounds bits n ≡ rounds bits total) (sym next) (h.front)

  -- the next round has room
  pub HasRounds-room : len + length (round_axes bits (round - 1)) ≤ 40
  HasRounds-room =
      let whole : length (rounds bits total) ≡ total = rw all (length-all_rounds bits) in
      let size : length (take len digits) ≡ len = length-take-le len digits (omega (arith, h.room, h.within)) in
      omega (arith, ap length front, length-append (take len digits) (round_axes bits (round - 1) ++ rounds bits (round - 1)), length-append (round_axes bits (round - 1)) (rounds bits (round - 1)))

  -- after it one round fewer is left
  pub HasRounds-more : (placed : ℕ) (new : List ℕ) → placed ≡ len + length (round_axes bits (round - 1)) → take placed new ≡ take len digits ++ round_axes bits (round - 1) → length new ≡ 40 → HasRounds bits total (round - 1) placed new
  HasRounds-more placed new count more room = record {
    room = room;
    within = omega (arith, HasRounds-room);
    front = rw (more, append_assoc) front;
  }

-- when none is left, the digits are the mask
pub HasRounds-all : (bits : List ℕ) (total round len : ℕ) (digits : List ℕ) → round ≤ 0 → HasRounds bits total round len digits → take len digits ≡ rounds bits total
HasRounds-all bits total round len digits none h =
    let last : round ≡ 0 = omega arith in
    sym (append-nil (take len digits)) ∙ rw last at h.front
