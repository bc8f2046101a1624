-- The keys and values of a text whose lines have no byte that may not stand there.
use Rattle.std.proofs.Common.{◌≡◌, ℕ, ◌+◌, ◌-◌, ◌<◌, ◌&&◌, Bool, true, false, cond, List, [], ◌∷◌, ◌++◌, length, map, take, drop, length-append, zero, suc, All, Some, None, refl, sym, ap, ◌∙◌, arith}
use Rattle.std.specs.List.{join_with_byte, list_all}
use Rattle.std.proofs.lemmas.Bool.{false≢true}
use Rattle.std.proofs.lemmas.List.Elements.{All-cons, All-nil}
use Rattle.std.proofs.lemmas.List.Folds.{list_all-append}
use Rattle.idx_text.specs.Numbers.{has_bytes, is_blank}
use Rattle.idx_text.specs.Trim.{from_first_word, to_last_word, before_rest, trimmed}
use Rattle.idx_text.specs.Lines.{is_text, is_text_line, lines, trimmed_lines, wrong_line, wrong_line_from}
use Rattle.idx_text.specs.Sections.{is_key_line, key_in, value_lines, value_in, sections_from, sections, IsTextSection}

-- ---- trimming

-- where a test holds of each byte, it holds of each one that is left
module _ (p : ℕ → Bool) where
  pub first_word-all : (xs : List ℕ) → list_all p xs ≡ true → list_all p (from_first_word xs) ≡ true
  first_word-all [] h = refl
  first_word-all (x ∷ xs) h = grind (arith, first_word-all xs)

  rest-all : (x : ℕ) (xs : List ℕ) → p x ≡ true → list_all p xs ≡ true → list_all p (before_rest x xs) ≡ true
  rest-all x [] h t = grind arith
  rest-all x (y ∷ ys) h t = grind arith

  pub last_word-all : (xs : List ℕ) → list_all p xs ≡ true → list_all p (to_last_word xs) ≡ true
  last_word-all [] h = refl
  last_word-all (x ∷ xs) h = grind (arith, last_word-all xs, rest-all x (to_last_word xs))

  pub trimmed-all : (xs : List ℕ) → list_all p xs ≡ true → list_all p (trimmed xs) ≡ true
  trimmed-all xs h = last_word-all (from_first_word xs) (first_word-all xs h)

  pub take-all : (n : ℕ) (xs : List ℕ) → list_all p xs ≡ true → list_all p (take n xs) ≡ true
  take-all zero xs h = refl
  take-all (suc n) [] h = refl
  take-all (suc n) (x ∷ xs) h = grind (arith, take-all n xs)

  pub drop-all : (n : ℕ) (xs : List ℕ) → list_all p xs ≡ true → list_all p (drop n xs) ≡ true
  drop-all zero xs h = h
  drop-all (suc n) [] h = refl
  drop-all (suc n) (x ∷ xs) h = drop-all n xs (grind arith)

-- what is left is empty, or begins with no blank
abbrev pub NoBlankFirst : List ℕ → Type 0
NoBlankFirst [] = Unit {0}
NoBlankFirst (b ∷ bs) = is_blank b ≡ false

first_word-begins : (xs : List ℕ) → NoBlankFirst (from_first_word xs)
first_word-begins [] = tt
first_word-begins (x ∷ xs) = cases (is_blank x) refl (first_word-begins xs)
  where
    cases : (blank : Bool) → blank ≡ is_blank x → NoBlankFirst (from_first_word xs) → NoBlankFirst (cond blank (from_first_word xs) (x ∷ xs))
    cases true same h = h
    cases false same h = sym same

-- a first byte stays that is no blank
before_rest-begins : (x : ℕ) (ys : List ℕ) → is_blank x ≡ false → NoBlankFirst (before_rest x ys)
before_rest-begins x [] h = rw h h
before_rest-begins x (y ∷ ys) h = h

last_word-begins : (xs : List ℕ) → NoBlankFirst xs → NoBlankFirst (to_last_word xs)
last_word-begins [] h = tt
last_word-begins (x ∷ xs) h = before_rest-begins x (to_last_word xs) h

before_rest-again : (x : ℕ) (ys : List ℕ) → to_last_word ys ≡ ys → to_last_word (before_rest x ys) ≡ before_rest x ys
before_rest-again x [] h = cases (is_blank x) refl
  where
    cases : (blank : Bool) → blank ≡ is_blank x → to_last_word (cond blank [] (x ∷ [])) ≡ cond blank [] (x ∷ [])
    cases true same = refl
    cases false same = rw (sym same) refl
before_rest-again x (y ∷ ys) h = ap (before_rest x) h

-- what is trimmed behind stays as it is
last_word-again : (xs : List ℕ) → to_last_word (to_last_word xs) ≡ to_last_word xs
last_word-again [] = refl
last_word-again (x ∷ xs) = before_rest-again x (to_last_word xs) (last_word-again xs)

first_word-stays : (xs : List ℕ) → NoBlankFirst xs → from_first_word xs ≡ xs
first_word-stays [] h = refl
first_word-stays (x ∷ xs) h = rw h refl

-- a line without blanks at its ends
pub record IsTrimmed (xs : List ℕ) : Type 0 where
  pub begins : NoBlankFirst xs
  pub ends : to_last_word xs ≡ xs

pub trimmed-is : (xs : List ℕ) → IsTrimmed (trimmed xs)
trimmed-is xs = record { begins = last_word-begins (from_first_word xs) (first_word-begins xs); ends = last_word-again (from_first_word xs) }

pub trimmed-stays : (xs : List ℕ) → IsTrimmed xs → trimmed xs ≡ xs
trimmed-stays xs h = ap to_last_word (first_word-stays xs h.begins) ∙ h.ends

before_rest-some : (x : ℕ) (ys : List ℕ) → 0 < length ys → before_rest x ys ≡ x ∷ ys
before_rest-some x [] h = absurd (omega arith)
before_rest-some x (y ∷ ys) h = refl

-- what stands in front of a line that ends with no blank stays
pub last_word-append : (xs ys : List ℕ) → 0 < length ys → to_last_word ys ≡ ys → to_last_word (xs ++ ys) ≡ xs ++ ys
last_word-append [] ys some h = h
last_word-append (x ∷ xs) ys some h =
    let long : 0 < length (xs ++ ys) = omega (arith, length-append xs ys) in
    ap (before_rest x) (last_word-append xs ys some h) ∙ before_rest-some x (xs ++ ys) long

begins-append : (xs ys : List ℕ) → 0 < length xs → NoBlankFirst xs → NoBlankFirst (xs ++ ys)
begins-append [] ys some h = absurd (omega arith)
begins-append (x ∷ xs) ys some h = h

-- ---- joined lines

-- lines of a value: each has bytes, none of them a byte that may not stand there, and no blank at its ends
pub record IsPart (line : List ℕ) : Type 0 where
  pub some : 0 < length line
  pub text : is_text_line line ≡ true
  pub trimmed : IsTrimmed line

unfoldable pub AreParts : List (List ℕ) → Type 0
AreParts [] = Unit {0}
AreParts (line ∷ more) = IsPart line × AreParts more

-- the joined lines
pub record IsValue (value : List ℕ) : Type 0 where
  pub text : is_text_line value ≡ true
  pub trimmed : IsTrimmed value

pub some-join : (line : List ℕ) (more : List (List ℕ)) → 0 < length line → 0 < length (join_with_byte 32 (line ∷ more))
some-join line [] some = some
some-join line (m ∷ ms) some = omega (arith, length-append line (32 ∷ join_with_byte 32 (m ∷ ms)))

pub joined : (parts : List (List ℕ)) → AreParts parts → IsValue (join_with_byte 32 parts)
unfolding AreParts
joined [] h = record { text = refl; trimmed = record { begins = tt; ends = refl } }
joined (line ∷ []) h = record { text = h.0.text; trimmed = h.0.trimmed }
joined (line ∷ next ∷ more) h =
    let rest = joined (next ∷ more) h.1 in
    let behind : List ℕ = join_with_byte 32 (next ∷ more) in
    let some = some-join next more h.1.0.some in
    record {
      text = list_all-append is_text line (32 ∷ behind) ∙ ap (λ b. b && list_all is_text behind) h.0.text ∙ rest.text;
      trimmed = record {
        begins = begins-append line (32 ∷ behind) h.0.some h.0.trimmed.begins;
        ends = last_word-append line (32 ∷ behind) (omega arith) (last_word-append (32 ∷ []) behind some rest.trimmed.ends);
      };
    }

-- ---- the sections

-- no byte of the lines may not stand there, and they are trimmed
AreTrimmedTexts : List (List ℕ) → Type 0
AreTrimmedTexts [] = Unit {0}
AreTrimmedTexts (line ∷ more) = (is_text_line line ≡ true) × IsTrimmed line × AreTrimmedTexts more

long : (line : List ℕ) → has_bytes line ≡ true → 0 < length line
long [] h = absurd (false≢true h)
long (b ∷ bs) h = omega arith

parts-of : (lines : List (List ℕ)) → AreTrimmedTexts lines → AreParts (value_lines lines)
unfolding AreParts AreTrimmedTexts
parts-of [] h = tt
parts-of (line ∷ lines) h = cases (is_key_line line) (has_bytes line) refl (parts-of lines h.2)
  where
    cases : (key some : Bool) → some ≡ has_bytes line → AreParts (value_lines lines) →
        AreParts (cond key [] (cond some (line ∷ value_lines lines) (value_lines lines)))
    cases true some same rest = tt
    cases false true same rest = (record { some = long line (sym same); text = h.0; trimmed = h.1 }, rest)
    cases false false same rest = rest

section-text : (number : ℕ) (line : List ℕ) (lines : List (List ℕ)) → is_text_line line ≡ true → AreTrimmedTexts lines →
    IsTextSection (record { line = number; key = key_in line; value = value_in lines })
section-text number line lines text h =
    let value = joined (value_lines lines) (parts-of lines h) in
    record {
      key = take-all is_text (length line - 2) (drop 1 line) (drop-all is_text 1 line text);
      value = value.text;
      trimmed = trimmed-stays (value_in lines) value.trimmed;
    }

sections-text : (number : ℕ) (lines : List (List ℕ)) → AreTrimmedTexts lines → All IsTextSection (sections_from number lines)
unfolding AreTrimmedTexts
sections-text number [] h = All-nil IsTextSection
sections-text number (line ∷ lines) h = cases (is_key_line line) (sections-text (number + 1) lines h.2)
  where
    cases : (key : Bool) → All IsTextSection (sections_from (number + 1) lines) →
        All IsTextSection (cond key (record { line = number; key = key_in line; value = value_in lines } ∷ sections_from (number + 1) lines) (sections_from (number + 1) lines))
    cases true rest = All-cons IsTextSection _ _ (section-text number line lines h.0 h.2) rest
    cases false rest = rest

texts-of : (number : ℕ) (ls : List (List ℕ)) → wrong_line_from number ls ≡ None → AreTrimmedTexts (map trimmed ls)
unfolding AreTrimmedTexts
texts-of number [] h = tt
texts-of number (line ∷ ls) h = cases (is_text_line line) refl (texts-of (number + 1) ls) h
  where
    cases : (ok : Bool) → ok ≡ is_text_line line → (wrong_line_from (number + 1) ls ≡ None → AreTrimmedTexts (map trimmed ls)) →
        cond ok (wrong_line_from (number + 1) ls) (Some number) ≡ None →
        (is_text_line (trimmed line) ≡ true) × IsTrimmed (trimmed line) × AreTrimmedTexts (map trimmed ls)
    cases true same rest none = (trimmed-all is_text line (sym same), trimmed-is line, rest none)
    cases false same rest none = absurd (cc)

-- the keys and values of a text without a wrong line
pub sections-of-text : (text : List ℕ) → wrong_line text ≡ None → All IsTextSection (sections text)
unfolding sections
sections-of-text text h = sections-text 1 (trimmed_lines text) (texts-of 1 (lines text) h)
