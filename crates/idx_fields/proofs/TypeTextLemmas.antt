-- A type as it is written: a word, which is read back.
use Rattle.std.proofs.Common.{◌≡◌, true, false, Bool, ℕ, ◌^◌, ◌<◌, ◌≤◌, ◌==◌, ◌&&◌, List, [], ◌∷◌, ◌++◌, length, nat_le, Some, refl, sym, ap, subst, ◌∙◌, arith, eqb-true, inl, inr, length-append, append_assoc}
use Rattle.std.proofs.Math.Nat.{le-mul_of_pos_right}
use Rattle.std.specs.Fmt.{decimal}
use Rattle.std.specs.List.{All, list_all, list_any, before_first, after_first}
use Rattle.std.specs.Option.{option_and_then}
use Rattle.std.proofs.lemmas.Bool.{cases_Bool, eqb-false}
use Rattle.std.proofs.lemmas.Bool.Decides.{nat_tests}
use Rattle.std.proofs.lemmas.List.Folds.{list_any_none}
use Rattle.std.proofs.lemmas.List.Elements.{All-nil, All-cons, All-append, All-weaker}
use Rattle.idx_text.specs.Number.{is_digit}
use Rattle.idx_text.specs.Numbers.{is_blank}
use Rattle.idx_text.proofs.NumberLemmas.{spelled, reads_back}
use Rattle.idx_fields.specs.declared.base.Base.{Base}
use Rattle.idx_fields.specs.declared.base.Base.TheVariants as bases
use Rattle.idx_fields.specs.Base.{base_bytes, base_of, base_text}
use Rattle.idx_fields.specs.FieldType.{is_star, is_opening, before_closing, canonical_type, count_of, type_of}
use Rattle.idx_fields.specs.Field.{Field, IsWord, is_plus, sample_bytes}
use Rattle.idx_fields.proofs.AgreeLemmas.{and_left, and_right}
use Rattle.idx_fields.proofs.TypeLemmas.{canonical-one, canonical-more, closing-push, type_of-opening}

-- a count in brackets
abbrev closed : ℕ → List ℕ
closed count = 91 ∷ (decimal count ++ (93 ∷ []))

canonical-closed : (base : Base) (count : ℕ) → (count == 1) ≡ false → canonical_type base count ≡ base_text base ++ closed count
canonical-closed base count more =
    canonical-more base count (eqb-false count 1 more) ∙ append_assoc (base_text base) (91 ∷ decimal count) (93 ∷ [])

-- a byte of a type: from the digit 0 to the letter z
abbrev pub InType : ℕ → Type 0
InType b = (48 ≤ b) × (b ≤ 122)

abbrev in_type : ℕ → Bool
in_type b = nat_le 48 b && nat_le b 122

-- bytes that all pass the test
pub in_types : (xs : List ℕ) → list_all in_type xs ≡ true → All InType xs
in_types [] all = All-nil InType
in_types (x ∷ xs) all =
    let here : in_type x ≡ true = and_left _ _ all in
    All-cons InType x xs (grind (arith, nat_tests), grind (arith, nat_tests)) (in_types xs (and_right _ _ all))

digits_in_type : (xs : List ℕ) → list_all is_digit xs ≡ true → All InType xs
digits_in_type [] all = All-nil InType
digits_in_type (x ∷ xs) all =
    let here : is_digit x ≡ true = and_left _ _ all in
    All-cons InType x xs (grind (arith, nat_tests), grind (arith, nat_tests)) (digits_in_type xs (and_right _ _ all))

base_in_type : (base : Base) → list_all in_type (base_text base) ≡ true
base_in_type bases.Int8 = refl
base_in_type bases.Uint8 = refl
base_in_type bases.Int16 = refl
base_in_type bases.Uint16 = refl
base_in_type bases.Int32 = refl
base_in_type bases.Uint32 = refl
base_in_type bases.Float32 = refl
base_in_type bases.Int64 = refl
base_in_type bases.Uint64 = refl
base_in_type bases.Float64 = refl

base_some : (base : Base) → 1 ≤ length (base_text base)
base_some bases.Int8 = omega arith
base_some bases.Uint8 = omega arith
base_some bases.Int16 = omega arith
base_some bases.Uint16 = omega arith
base_some bases.Int32 = omega arith
base_some bases.Uint32 = omega arith
base_some bases.Float32 = omega arith
base_some bases.Int64 = omega arith
base_some bases.Uint64 = omega arith
base_some bases.Float64 = omega arith

base_back : (base : Base) → base_of (base_text base) ≡ Some base
unfolding base_of
base_back bases.Int8 = refl
base_back bases.Uint8 = refl
base_back bases.Int16 = refl
base_back bases.Uint16 = refl
base_back bases.Int32 = refl
base_back bases.Uint32 = refl
base_back bases.Float32 = refl
base_back bases.Int64 = refl
base_back bases.Uint64 = refl
base_back bases.Float64 = refl

base_alone : (base : Base) → type_of (base_text base) ≡ Some (base, 1)
unfolding base_of type_of
base_alone bases.Int8 = refl
base_alone bases.Uint8 = refl
base_alone bases.Int16 = refl
base_alone bases.Uint16 = refl
base_alone bases.Int32 = refl
base_alone bases.Uint32 = refl
base_alone bases.Float32 = refl
base_alone bases.Int64 = refl
base_alone bases.Uint64 = refl
base_alone bases.Float64 = refl

-- what stands round the first `[` behind a base
opened : (base : Base) (rest : List ℕ) → (list_any is_opening (base_text base ++ 91 ∷ rest) ≡ true)
    × (before_first is_opening (base_text base ++ 91 ∷ rest) ≡ base_text base) × (after_first is_opening (base_text base ++ 91 ∷ rest) ≡ rest)
opened bases.Int8 rest = (refl, refl, refl)
opened bases.Uint8 rest = (refl, refl, refl)
opened bases.Int16 rest = (refl, refl, refl)
opened bases.Uint16 rest = (refl, refl, refl)
opened bases.Int32 rest = (refl, refl, refl)
opened bases.Uint32 rest = (refl, refl, refl)
opened bases.Float32 rest = (refl, refl, refl)
opened bases.Int64 rest = (refl, refl, refl)
opened bases.Uint64 rest = (refl, refl, refl)
opened bases.Float64 rest = (refl, refl, refl)

-- a type's bytes
pub canonical_in_type : (base : Base) (count : ℕ) → count < 10 ^ 19 → All InType (canonical_type base count)
canonical_in_type base count small =
    let named : All InType (base_text base) = in_types (base_text base) (base_in_type base) in
    elim (cases_Bool (count == 1)) [
      | inl one ↦ subst (All InType) (sym (canonical-one base count (eqb-true count 1 one))) named
      | inr more ↦ (
          let large : count < 2 ^ 64 = omega arith in
          let digits : All InType (decimal count) = digits_in_type (decimal count) (spelled count large).digits in
          let end : All InType (decimal count ++ (93 ∷ [])) =
          All-append InType (decimal count) (93 ∷ []) digits (All-cons InType 93 [] (omega arith, omega arith) (All-nil InType)) in
          let behind : All InType (closed count) = All-cons InType 91 (decimal count ++ (93 ∷ [])) (omega arith, omega arith) end in
          subst (All InType) (sym (canonical-closed base count more)) (All-append InType (base_text base) (closed count) named behind))
    ]

-- no byte of a type is a blank, `+` or `*`
in_no_blank : (b : ℕ) → InType b → is_blank b ≡ false
in_no_blank b in' = grind (arith, nat_tests)

in_no_plus : (b : ℕ) → InType b → is_plus b ≡ false
in_no_plus b in' = grind (arith, nat_tests)

in_no_star : (b : ℕ) → InType b → is_star b ≡ false
in_no_star b in' = grind (arith, nat_tests)

canonical_some : (base : Base) (count : ℕ) → 1 ≤ length (canonical_type base count)
canonical_some base count =
    elim (cases_Bool (count == 1)) [
      | inl one ↦ omega (arith, ap length (canonical-one base count (eqb-true count 1 one)), base_some base)
      | inr more ↦ omega (arith, ap length (canonical-closed base count more), base_some base, length-append (base_text base) (closed count))
    ]

-- a type is a word
pub canonical_word : (base : Base) (count : ℕ) → count < 10 ^ 19 → IsWord (canonical_type base count)
canonical_word base count small =
    let all = canonical_in_type base count small in
    let word : List ℕ = canonical_type base count in
    record {
      some = canonical_some base count;
      no_blank = All-weaker InType (λ b. is_blank b ≡ false) in_no_blank word all;
      no_plus = All-weaker InType (λ b. is_plus b ≡ false) in_no_plus word all;
    }

count_back : (count : ℕ) → 1 ≤ count → count < 10 ^ 19 → count_of (decimal count) ≡ Some count
count_back count some small =
    let test : (count == 0) ≡ false = grind (arith, nat_tests) in
    rw (reads_back count small, test) refl

-- a type that is written is read back
pub type_back : (base : Base) (count : ℕ) → 1 ≤ count → count < 10 ^ 19 → type_of (canonical_type base count) ≡ Some (base, count)
type_back base count some small =
    elim (cases_Bool (count == 1)) [
      | inl one ↦ (
          let is : count ≡ 1 = eqb-true count 1 one in
          ap type_of (canonical-one base count is) ∙ base_alone base ∙ ap (λ n. Some (base, n)) (sym is))
      | inr more ↦ (
          let is = canonical-closed base count more in
          let word : List ℕ = base_text base ++ closed count in
          let all : All InType word = subst (All InType) is (canonical_in_type base count small) in
          let star : list_any is_star word ≡ false = list_any_none is_star word (All-weaker InType (λ b. is_star b ≡ false) in_no_star word all) in
          let parts = opened base (decimal count ++ (93 ∷ [])) in
          let counted : option_and_then count_of (before_closing (after_first is_opening word)) ≡ Some count =
          ap (λ t. option_and_then count_of (before_closing t)) parts.2 ∙ ap (option_and_then count_of) (closing-push (decimal count) 93 refl)
          ∙ count_back count some small in
          let named : base_of (before_first is_opening word) ≡ Some base = ap base_of parts.1 ∙ base_back base in
          ap type_of is ∙ type_of-opening word star parts.0 ∙ rw (counted, named) refl)
    ]

-- a count whose sample is within the limit
pub count_small : (f : Field) → sample_bytes f ≤ 64 → f.count < 10 ^ 19
count_small f limit =
    let least = le-mul_of_pos_right {m = base_bytes f.base} f.count (base_large f.base) in
    omega arith
  where
    base_large : (base : Base) → 0 < base_bytes base
    base_large bases.Int8 = omega arith
    base_large bases.Uint8 = omega arith
    base_large bases.Int16 = omega arith
    base_large bases.Uint16 = omega arith
    base_large bases.Int32 = omega arith
    base_large bases.Uint32 = omega arith
    base_large bases.Float32 = omega arith
    base_large bases.Int64 = omega arith
    base_large bases.Uint64 = omega arith
    base_large bases.Float64 = omega arith
