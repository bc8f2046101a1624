-- The points of a block are those of a window of the mask's digits: for block 0 the first digits, and zeros behind them;
-- for each other block so many digits behind the first k, and behind them a 1 and zeros.
use Rattle.std.proofs.Common.{◌≡◌, ℕ, suc, ◌+◌, ◌-◌, ◌*◌, ◌/◌, ◌%◌, ◌^◌, ◌<◌, ◌≤◌, List, [], ◌++◌, length, take, drop, sym, ap, ◌∙◌, ⊎_elim, arith, take-append-drop, length-drop, length-take-le}
use Rattle.std.proofs.Math.Nat.{pow-suc, mul_assoc, mod-add-div', div-eq_of_lt}
use Rattle.std.proofs.lemmas.Bool.{eq-eqb, eqb-true}
use Rattle.std.proofs.lemmas.Nat.{pow_pos, pow-add, div-mul-add, mod_below}
use Rattle.std.proofs.lemmas.List.Elements.{All-take, All-drop}
use Rattle.idx_hz.specs.Mask.{NamesAxes, HasAddress}
use Rattle.idx_hz.specs.Address.{z_address, hz_at, hz_address}
use Rattle.idx_hz.proofs.ZLemmas.{z_address-lt}
use Rattle.idx_hz.proofs.HzLemmas.{HasLowestOne, cases_lowest_one, hz_at-odd, hz_at-zero, hz_at-lt, hz_at-injective, hz_at-lowest_one}
use Rattle.idx_hz.proofs.AddressLaws.{inverse_of}
use Rattle.idx_rowmajor.specs.RowPlace.{is_in_block}
use Rattle.idx_rowmajor.specs.Digits.{row_rank, rank_of_digits, digits_behind}
use Rattle.idx_rowmajor.proofs.WindowLemmas.{IsSplit, IsWindow, within_window, within_window-lt, count-window}

-- ---- every other block

-- a number with a 1 and q zeros behind its window
odd-window : (bits q a t : ℕ) → within_window bits (suc q) a (2 ^ q) t ≡ (2 * (a * 2 ^ bits + t) + 1) * 2 ^ q
odd-window bits q a t =
    let power : 2 ^ suc q ≡ 2 ^ q * 2 = pow-suc 2 q in
    let whole : 2 ^ (bits + suc q) ≡ 2 ^ bits * (2 ^ q * 2) = pow-add 2 bits (suc q) ∙ ap (λ m. 2 ^ bits * m) power in
    ap (λ m. a * m + (t * 2 ^ suc q + 2 ^ q)) whole ∙ ap (λ m. a * (2 ^ bits * (2 ^ q * 2)) + (t * m + 2 ^ q)) power ∙ omega arith

-- has the address of the window's number in the block
hz_at-window : (k bits q a t : ℕ) → hz_at (k + bits + suc q) (within_window bits (suc q) a (2 ^ q) t) ≡ (2 ^ k + a) * 2 ^ bits + t
hz_at-window k bits q a t =
    let places : k + bits + suc q ≡ q + suc (k + bits) = omega arith in
    ap (λ n. hz_at n (within_window bits (suc q) a (2 ^ q) t)) places
    ∙ ap (hz_at (q + suc (k + bits))) (odd-window bits q a t)
    ∙ hz_at-odd q (k + bits) (a * 2 ^ bits + t)
    ∙ ap (λ m. m + (a * 2 ^ bits + t)) (pow-add 2 k bits) ∙ omega arith

-- a block whose number has k + 1 binary digits
pub record IsLater (mask : List ℕ) (axes bits k block : ℕ) : Type 0 where
  pub named : NamesAxes mask axes
  pub fits : bits + k < length mask
  pub from : 2 ^ k ≤ block
  pub to : block < 2 ^ suc k

module _ (mask : List ℕ) (axes bits k block : ℕ) (later : IsLater mask axes bits k block) where
  len_behind : length (drop bits (drop k mask)) ≡ suc (length mask - k - bits - 1)
  len_behind = omega (arith, length-drop bits (drop k mask), length-drop k mask, later.fits)

  len_digits : length (digits_behind mask k bits) ≡ bits
  len_digits = length-take-le bits (drop k mask) (omega (arith, length-drop k mask, later.fits))

  len_front : length (take k mask) ≡ k
  len_front = length-take-le k mask (omega (arith, later.fits))

  pub IsSplit-later : IsSplit mask (take k mask) (digits_behind mask k bits) (drop bits (drop k mask)) axes (block - 2 ^ k) (2 ^ (length mask - k - bits - 1))
  IsSplit-later = record {
    is = sym (ap (λ m. take k mask ++ m) (take-append-drop bits (drop k mask)) ∙ take-append-drop k mask);
    named = later.named;
    named_digits = All-take (λ d. d < axes) bits (drop k mask) (All-drop (λ d. d < axes) k mask later.named);
    small_a = rw len_front (omega (arith, later.from, later.to, pow-suc 2 k));
    small_e = rw len_behind (omega (arith, pow-suc 2 (length mask - k - bits - 1), pow_pos (length mask - k - bits - 1)));
  }

  -- the window's addresses
  pub window_address : (t : ℕ) → hz_at (length mask) (within_window (length (digits_behind mask k bits)) (length (drop bits (drop k mask))) (block - 2 ^ k) (2 ^ (length mask - k - bits - 1)) t) ≡ block * 2 ^ bits + t
  window_address t =
      let places : length mask ≡ k + bits + suc (length mask - k - bits - 1) = omega (arith, later.fits) in
      let number : 2 ^ k + (block - 2 ^ k) ≡ block = omega (arith, later.from) in
      rw (len_digits, len_behind)
      (ap (λ n. hz_at n (within_window bits (suc (length mask - k - bits - 1)) (block - 2 ^ k) (2 ^ (length mask - k - bits - 1)) t)) places
      ∙ hz_at-window k bits (length mask - k - bits - 1) (block - 2 ^ k) t
      ∙ ap (λ b. b * 2 ^ bits + t) number)

  -- an address of the block is the window's
  pub in_window-later : (z t : ℕ) → z < 2 ^ length mask → t < 2 ^ bits → hz_at (length mask) z ≡ block * 2 ^ bits + t → z ≡ within_window (length (digits_behind mask k bits)) (length (drop bits (drop k mask))) (block - 2 ^ k) (2 ^ (length mask - k - bits - 1)) t
  in_window-later z t small within address =
      let inside : t < 2 ^ length (digits_behind mask k bits) = rw len_digits within in
      hz_at-injective (length mask) z (within_window (length (digits_behind mask k bits)) (length (drop bits (drop k mask))) (block - 2 ^ k) (2 ^ (length mask - k - bits - 1)) t) small
      (within_window-lt mask (take k mask) (digits_behind mask k bits) (drop bits (drop k mask)) axes (block - 2 ^ k) (2 ^ (length mask - k - bits - 1)) t IsSplit-later inside)
      (address ∙ sym (window_address t))

  IsWindow-later : IsWindow (is_in_block mask bits block) mask axes (length (digits_behind mask k bits)) (within_window (length (digits_behind mask k bits)) (length (drop bits (drop k mask))) (block - 2 ^ k) (2 ^ (length mask - k - bits - 1)))
  IsWindow-later = record {
    in_test = λ p t within has len address.
        let small : t < 2 ^ bits = rw len_digits at within in
        let number : hz_address mask p ≡ block * 2 ^ bits + t = ap (hz_at (length mask)) address ∙ window_address t in
        eq-eqb (hz_address mask p / 2 ^ bits) block (ap (λ n. n / 2 ^ bits) number ∙ div-mul-add block (2 ^ bits) t small);
    in_window = λ p has len yes.
        let quotient : hz_address mask p / 2 ^ bits ≡ block = eqb-true (hz_address mask p / 2 ^ bits) block yes in
        let t : ℕ = hz_address mask p % 2 ^ bits in
        let small : t < 2 ^ bits = mod_below (hz_address mask p) (2 ^ bits) (pow_pos bits) in
        let number : hz_address mask p ≡ block * 2 ^ bits + t = omega (arith, mod-add-div' (hz_address mask p) (2 ^ bits), ap (λ n. n * 2 ^ bits) quotient) in
        (t, rw len_digits small, in_window-later (z_address mask p) t (z_address-lt mask p) small number);
  }

  -- what stands at an offset of the block has the rank of the offset's bits, sorted by the axes of the block's digits
  pub row_rank-later : (offset : ℕ) (p : List ℕ) → offset < 2 ^ bits → length p ≡ axes → HasAddress mask p → hz_address mask p ≡ block * 2 ^ bits + offset → row_rank mask axes bits block p ≡ rank_of_digits (digits_behind mask k bits) axes offset
  row_rank-later offset p within len has address =
      count-window (is_in_block mask bits block) mask (take k mask) (digits_behind mask k bits) (drop bits (drop k mask)) axes (block - 2 ^ k) (2 ^ (length mask - k - bits - 1))
      IsSplit-later IsWindow-later p offset (rw len_digits within) len has (in_window-later (z_address mask p) offset (z_address-lt mask p) within address)

-- ---- block 0

-- zeros behind a Z address do not change the hierarchical one
hz_at-shifted : (n q t : ℕ) → t < 2 ^ n → hz_at (n + q) (t * 2 ^ q) ≡ hz_at n t
hz_at-shifted n q t small = ⊎_elim
    (λ (none : t ≡ 0).
    let zeros : t * 2 ^ q ≡ 0 = ap (λ m. m * 2 ^ q) none ∙ omega arith in
    ap (hz_at (n + q)) zeros ∙ hz_at-zero (n + q) ∙ sym (ap (hz_at n) none ∙ hz_at-zero n))
    (λ (one : HasLowestOne n t).
    let power : 2 ^ (one.zeros + q) ≡ 2 ^ one.zeros * 2 ^ q = pow-add 2 one.zeros q in
    let is : t * 2 ^ q ≡ (2 * one.rest + 1) * 2 ^ (one.zeros + q) = ap (λ m. m * 2 ^ q) one.is ∙ mul_assoc (2 * one.rest + 1) (2 ^ one.zeros) (2 ^ q) ∙ ap (λ m. (2 * one.rest + 1) * m) (sym power) in
    let places : n + q ≡ one.zeros + q + suc one.above = omega (arith, one.places) in
    ap (λ m. hz_at m (t * 2 ^ q)) places ∙ ap (hz_at (one.zeros + q + suc one.above)) is
    ∙ hz_at-odd (one.zeros + q) one.above one.rest ∙ sym (hz_at-lowest_one n t one))
    (cases_lowest_one n t small)

module _ (mask : List ℕ) (axes bits : ℕ) (named : NamesAxes mask axes) (fits : bits ≤ length mask) where
  len_first : length (take bits mask) ≡ bits
  len_first = length-take-le bits mask fits

  IsSplit-first : IsSplit mask [] (take bits mask) (drop bits mask) axes 0 0
  IsSplit-first = record {
    is = sym (take-append-drop bits mask);
    named = named;
    named_digits = All-take (λ d. d < axes) bits mask named;
    small_a = omega arith;
    small_e = pow_pos (length (drop bits mask));
  }

  first_address : (t : ℕ) → t < 2 ^ bits → hz_at (length mask) (within_window (length (take bits mask)) (length (drop bits mask)) 0 0 t) ≡ hz_at bits t
  first_address t small =
      let places : length mask ≡ bits + length (drop bits mask) = omega (arith, length-drop bits mask) in
      let number : within_window (length (take bits mask)) (length (drop bits mask)) 0 0 t ≡ t * 2 ^ length (drop bits mask) = omega arith in
      ap (hz_at (length mask)) number ∙ ap (λ n. hz_at n (t * 2 ^ length (drop bits mask))) places ∙ hz_at-shifted bits (length (drop bits mask)) t small

  in_window-first : (z t : ℕ) → z < 2 ^ length mask → t < 2 ^ bits → hz_at (length mask) z ≡ hz_at bits t → z ≡ within_window (length (take bits mask)) (length (drop bits mask)) 0 0 t
  in_window-first z t small within address =
      let inside : t < 2 ^ length (take bits mask) = rw len_first within in
      hz_at-injective (length mask) z (within_window (length (take bits mask)) (length (drop bits mask)) 0 0 t) small
      (within_window-lt mask [] (take bits mask) (drop bits mask) axes 0 0 t IsSplit-first inside)
      (address ∙ sym (first_address t within))

  IsWindow-first : IsWindow (is_in_block mask bits 0) mask axes (length (take bits mask)) (within_window (length (take bits mask)) (length (drop bits mask)) 0 0)
  IsWindow-first = record {
    in_test = λ p t within has len address.
        let small : t < 2 ^ bits = rw len_first at within in
        let number : hz_address mask p ≡ hz_at bits t = ap (hz_at (length mask)) address ∙ first_address t small in
        eq-eqb (hz_address mask p / 2 ^ bits) 0 (ap (λ n. n / 2 ^ bits) number ∙ div-eq_of_lt (hz_at-lt bits t small));
    in_window = λ p has len yes.
        let quotient : hz_address mask p / 2 ^ bits ≡ 0 = eqb-true (hz_address mask p / 2 ^ bits) 0 yes in
        let below : hz_address mask p < 2 ^ bits = omega (arith, mod-add-div' (hz_address mask p) (2 ^ bits), ap (λ n. n * 2 ^ bits) quotient, mod_below (hz_address mask p) (2 ^ bits) (pow_pos bits)) in
        let found = inverse_of bits (hz_address mask p) below in
        (found.0, rw len_first found.1.small, in_window-first (z_address mask p) found.0 (z_address-lt mask p) found.1.small (sym found.1.address));
  }

  -- what stands in block 0 at the hierarchical address of t has the rank of t's bits, sorted by the axes of the first
  -- digits
  pub row_rank-first : (t : ℕ) (p : List ℕ) → t < 2 ^ bits → length p ≡ axes → HasAddress mask p → hz_address mask p ≡ hz_at bits t → row_rank mask axes bits 0 p ≡ rank_of_digits (take bits mask) axes t
  row_rank-first t p within len has address =
      count-window (is_in_block mask bits 0) mask [] (take bits mask) (drop bits mask) axes 0 0
      IsSplit-first IsWindow-first p t (rw len_first within) len has (in_window-first (z_address mask p) t (z_address-lt mask p) within address)
