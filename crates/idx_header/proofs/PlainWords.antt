-- Words without blanks, joined by one space and read back.
use Rattle.std.proofs.Common.{◌≡◌, ℕ, ◌^◌, ◌<◌, ◌&&◌, true, false, List, [], ◌∷◌, length, map, All, Some, option_and_then, refl, ap, ◌∙◌, arith}
use Rattle.std.specs.List.{join_with_byte, list_all, AllByRecursion}
use Rattle.std.specs.Fmt.{decimal}
use Rattle.std.proofs.lemmas.Bool.Decides.{nat_tests}
use Rattle.std.proofs.lemmas.Fmt.{decimal_nonempty}
use Rattle.std.proofs.lemmas.List.Elements.{All-cons, All-nil, All-head, All-tail}
use Rattle.idx_text.specs.Number.{is_digit, number_of}
use Rattle.idx_text.specs.Numbers.{all_of, is_blank, runs, numbers_of}
use Rattle.idx_text.specs.Trim.{before_rest, to_last_word}
use Rattle.idx_text.proofs.NumberLemmas.{reads_back, spelled}
use Rattle.idx_text.specs.Lines.{is_text, is_text_line}
use Rattle.idx_text.proofs.TextLemmas.{AreParts, NoBlankFirst, IsPart, IsValue, joined}
use Rattle.idx_fields.proofs.RunsLemmas.{runs-last, runs-word}
use Rattle.idx_names.specs.Pieces.{IsWordByte}

-- a word: some bytes, each of them one that may stand in a text and no blank
pub record IsPlain (w : List ℕ) : Type 0 where
  pub some : 0 < length w
  pub text : is_text_line w ≡ true
  pub no_blank : All (λ b. is_blank b ≡ false) w

word-ends : (w : List ℕ) → All (λ b. is_blank b ≡ false) w → to_last_word w ≡ w
word-ends [] h = refl
word-ends (x ∷ []) h = let here : is_blank x ≡ false = All-head (λ b. is_blank b ≡ false) x [] h in rw here refl
word-ends (x ∷ y ∷ ys) h = ap (before_rest x) (word-ends (y ∷ ys) (All-tail (λ b. is_blank b ≡ false) x (y ∷ ys) h))

word-begins : (w : List ℕ) → All (λ b. is_blank b ≡ false) w → NoBlankFirst w
word-begins [] h = tt
word-begins (x ∷ xs) h = All-head (λ b. is_blank b ≡ false) x xs h

pub plain-part : (w : List ℕ) → IsPlain w → IsPart w
plain-part w h = record { some = h.some; text = h.text; trimmed = record { begins = word-begins w h.no_blank; ends = word-ends w h.no_blank } }

unfoldable pub ArePlain : List (List ℕ) → Type 0
ArePlain [] = Unit {0}
ArePlain (w ∷ ws) = IsPlain w × ArePlain ws

plain-parts : (ws : List (List ℕ)) → ArePlain ws → AreParts ws
unfolding ArePlain AreParts
plain-parts [] h = tt
plain-parts (w ∷ ws) h = (plain-part w h.0, plain-parts ws h.1)

-- joined, they stand on a line as they are
pub plain-joined : (ws : List (List ℕ)) → ArePlain ws → IsValue (join_with_byte 32 ws)
plain-joined ws h = joined ws (plain-parts ws h)

-- and are the runs of it
pub runs-joined : (ws : List (List ℕ)) → ArePlain ws → runs (join_with_byte 32 ws) ≡ ws
unfolding ArePlain
runs-joined [] h = refl
runs-joined (w ∷ []) h = runs-last w h.0.some h.0.no_blank
runs-joined (w ∷ v ∷ vs) h =
    runs-word w 32 (join_with_byte 32 (v ∷ vs)) h.0.some h.0.no_blank refl ∙ ap (λ t. w ∷ t) (runs-joined (v ∷ vs) h.1)

-- ---- numbers

digit-text : (b : ℕ) → is_digit b ≡ true → is_text b ≡ true
digit-text b h = grind (arith, nat_tests)

digit-no_blank : (b : ℕ) → is_digit b ≡ true → is_blank b ≡ false
digit-no_blank b h = grind (arith, nat_tests)

digits-text : (bs : List ℕ) → list_all is_digit bs ≡ true → is_text_line bs ≡ true
digits-text [] h = refl
digits-text (b ∷ bs) h =
    let here : is_digit b ≡ true = grind arith in
    let rest : list_all is_digit bs ≡ true = grind arith in
    ap (λ c. c && list_all is_text bs) (digit-text b here) ∙ digits-text bs rest

digits-no_blank : (bs : List ℕ) → list_all is_digit bs ≡ true → All (λ b. is_blank b ≡ false) bs
digits-no_blank [] h = All-nil (λ b. is_blank b ≡ false)
digits-no_blank (b ∷ bs) h =
    let here : is_digit b ≡ true = grind arith in
    let rest : list_all is_digit bs ≡ true = grind arith in
    All-cons (λ b. is_blank b ≡ false) b bs (digit-no_blank b here) (digits-no_blank bs rest)

pub number-plain : (n : ℕ) → n < 2 ^ 64 → IsPlain (decimal n)
number-plain n small =
    let digits = (spelled n small).digits in
    record { some = decimal_nonempty n small; text = digits-text (decimal n) digits; no_blank = digits-no_blank (decimal n) digits }

-- numbers that can be read
unfoldable pub AreNumbers : List ℕ → Type 0
AreNumbers [] = Unit {0}
AreNumbers (n ∷ ns) = (n < 10 ^ 19) × AreNumbers ns

pub numbers-plain : (ns : List ℕ) → AreNumbers ns → ArePlain (map decimal ns)
unfolding AreNumbers ArePlain
numbers-plain [] h = tt
numbers-plain (n ∷ ns) h = (number-plain n (omega arith), numbers-plain ns h.1)

each-back : (ns : List ℕ) → AreNumbers ns → all_of (map number_of (map decimal ns)) ≡ Some ns
unfolding AreNumbers
each-back [] h = refl
each-back (n ∷ ns) h =
    ap (λ o. option_and_then (λ first. option_and_then (λ rest. Some (first ∷ rest)) (all_of (map number_of (map decimal ns)))) o) (reads_back n h.0)
    ∙ ap (λ o. option_and_then (λ rest. Some (n ∷ rest)) o) (each-back ns h.1)

pub numbers-back : (ns : List ℕ) → AreNumbers ns → numbers_of (join_with_byte 32 (map decimal ns)) ≡ Some ns
unfolding numbers_of
numbers-back ns h = ap (λ ws. all_of (map number_of ws)) (runs-joined (map decimal ns) (numbers-plain ns h)) ∙ each-back ns h

-- ---- words that print

word-plain : (w : List ℕ) → AllByRecursion IsWordByte w → (is_text_line w ≡ true) × All (λ b. is_blank b ≡ false) w
word-plain [] h = (refl, All-nil (λ b. is_blank b ≡ false))
word-plain (b ∷ bs) h =
    let rest = word-plain bs h.1 in
    let text : is_text b ≡ true = grind (arith, nat_tests, h.0.0, h.0.1) in
    let word : is_blank b ≡ false = grind (arith, nat_tests, h.0.0, h.0.1) in
    (ap (λ c. c && list_all is_text bs) text ∙ rest.0, All-cons (λ b. is_blank b ≡ false) b bs word rest.1)

pub prints-plain : (w : List ℕ) → AllByRecursion IsWordByte w → (w ≡ [] → ⊥) → IsPlain w
prints-plain [] h some = absurd (some refl)
prints-plain (b ∷ bs) h some = let is = word-plain (b ∷ bs) h in record { some = omega arith; text = is.0; no_blank = is.1 }
