-- The mask that a text spells, and the text that a mask has.
use Rattle.std.proofs.Common.{◌≡◌, ℕ, Bool, true, false, ◌+◌, ◌-◌, ◌≤◌, ◌↔◌, ◌&&◌, List, [], ◌∷◌, length, map, Some, None, All, refl, sym, ap, ◌∙◌, arith, cond}
use Rattle.std.specs.Prelude.{◌==◌, nat_le}
use Rattle.std.specs.List.{list_all}
use Rattle.std.proofs.lemmas.Bool.Decides.{nat_tests}
use Rattle.std.proofs.lemmas.List.{length-map}
use Rattle.std.proofs.lemmas.List.Elements.{All-head, All-tail, All-cons, All-nil}
use Rattle.std.proofs.lemmas.Option.{same_Some}
use Rattle.idx_hz.specs.Mask.{IsMask}
use Rattle.idx_hz.specs.MaskText.{mask_text, mask_of, IsMaskDigit, is_mask_digit, are_mask_digits}
use Rattle.idx_hz.proofs.MaskLemmas.{digits_small, digits_back, text_digits, text_once}

both-true : (a b : Bool) → (a && b) ≡ true → (a ≡ true) × (b ≡ true)
both-true false b h = cc
both-true true b h = (refl, h)

all_digits : (bytes : List ℕ) → list_all is_mask_digit bytes ≡ true → All IsMaskDigit bytes
all_digits [] h = All-nil IsMaskDigit
all_digits (byte ∷ bytes) h =
    let both = both-true (is_mask_digit byte) (list_all is_mask_digit bytes) h in
    let low : 48 ≤ byte = grind (arith, nat_tests, both.0) in
    let high : byte ≤ 52 = grind (arith, nat_tests, both.0) in
    All-cons IsMaskDigit byte bytes (low, high) (all_digits bytes both.1)

pass_all : (bytes : List ℕ) → All IsMaskDigit bytes → list_all is_mask_digit bytes ≡ true
pass_all [] h = refl
pass_all (byte ∷ bytes) h =
    let here : IsMaskDigit byte = All-head IsMaskDigit byte bytes h in
    let rest : list_all is_mask_digit bytes ≡ true = pass_all bytes (All-tail IsMaskDigit byte bytes h) in
    let passes : is_mask_digit byte ≡ true = grind (arith, nat_tests, here.0, here.1) in
    rw (passes, rest) refl

-- what the test of a text's bytes says
record AreDigits (letter : ℕ) (bytes : List ℕ) : Type 0 where
  pub letter_V : letter ≡ 86
  pub some : 1 ≤ length bytes
  pub few : length bytes ≤ 40
  pub digits : All IsMaskDigit bytes

passed : (letter : ℕ) (bytes : List ℕ) → ((letter == 86) && are_mask_digits bytes) ≡ true → AreDigits letter bytes
passed letter bytes h =
    let first = both-true (letter == 86) (are_mask_digits bytes) h in
    let counts = both-true (nat_le 1 (length bytes) && nat_le (length bytes) 40) (list_all is_mask_digit bytes) first.1 in
    let ends = both-true (nat_le 1 (length bytes)) (nat_le (length bytes) 40) counts.0 in
    record {
      letter_V = grind (arith, nat_tests, first.0);
      some = grind (arith, nat_tests, ends.0);
      few = grind (arith, nat_tests, ends.1);
      digits = all_digits bytes counts.1;
    }

passes : (letter : ℕ) (bytes : List ℕ) → AreDigits letter bytes → ((letter == 86) && are_mask_digits bytes) ≡ true
passes letter bytes h =
    let some : 1 ≤ length bytes = h.some in
    let few : length bytes ≤ 40 = h.few in
    let v : letter ≡ 86 = h.letter_V in
    let a : (letter == 86) ≡ true = grind (arith, nat_tests, v) in
    let b : nat_le 1 (length bytes) ≡ true = grind (arith, nat_tests, some) in
    let c : nat_le (length bytes) 40 ≡ true = grind (arith, nat_tests, few) in
    rw (a, b, c) (pass_all bytes h.digits)

chosen : (test : Bool) (mask other : List ℕ) → cond test (Some mask) None ≡ Some other → (test ≡ true) × (mask ≡ other)
chosen true mask other e = (refl, same_Some _ _ e)
chosen false mask other e = absurd (cc)

-- a text has a mask exactly where it is the mask's text
pub mask_of_iff : (text mask : List ℕ) → (mask_of text ≡ Some mask) ↔ (IsMask mask × (text ≡ mask_text mask))
unfolding mask_of
mask_of_iff [] mask = (λ e. absurd (cc), λ m. absurd (nothing m.1))
  where
    nothing : [] ≡ mask_text mask → ⊥
    nothing e = cc
mask_of_iff (letter ∷ bytes) mask = (
  λ e.
      let both = chosen ((letter == 86) && are_mask_digits bytes) (map (λ byte. byte - 48) bytes) mask e in
      let h = passed letter bytes both.0 in
      let size : length (map (λ byte. byte - 48) bytes) ≡ length bytes = length-map bytes (λ byte. byte - 48) in
      let is : IsMask (map (λ byte. byte - 48) bytes) = record {
        some = rw size h.some;
        few = rw size h.few;
        digits = digits_small bytes h.digits;
      } in
      let back : map (λ d. d + 48) (map (λ byte. byte - 48) bytes) ≡ bytes = digits_back bytes h.digits in
      let text : letter ∷ bytes ≡ mask_text (map (λ byte. byte - 48) bytes) = λ i. h.letter_V i ∷ sym back i in
      rw (← both.1) (is, text),
  λ m.
      let letter_V : letter ≡ 86 = cc (m.1) in
      let rest : bytes ≡ map (λ d. d + 48) mask = cc (m.1) in
      let size : length bytes ≡ length mask = ap length rest ∙ length-map mask (λ d. d + 48) in
      let digits : All IsMaskDigit bytes = rw rest (text_digits mask m.0.digits) in
      let h : AreDigits letter bytes = record {
        letter_V = letter_V;
        some = rw size m.0.some;
        few = rw size m.0.few;
        digits = digits;
      } in
      let same : map (λ byte. byte - 48) bytes ≡ mask = text_once (map (λ byte. byte - 48) bytes) mask (digits_back bytes digits ∙ rest) in
      rw (passes letter bytes h) (ap Some same),
)
