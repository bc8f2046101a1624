-- The field of the words of a part.
use Rattle.std.proofs.Common.{◌≡◌, true, false, ℕ, ◌<◌, ◌≤◌, List, [], ◌∷◌, ◌++◌, length, nat_le, Some, None, refl, ap, arith, append_assoc}
use Rattle.std.proofs.lemmas.Bool.Decides.{nat_tests}
use Rattle.idx_text.specs.Numbers.{runs}
use Rattle.idx_fields.specs.declared.base.Base.{Base}
use Rattle.idx_fields.specs.FieldType.{type_of, canonical_type}
use Rattle.idx_fields.specs.Field.{Field, field_of, field_of_words, field_text, spaced}

pub field_of-words : (part : List ℕ) (words : List (List ℕ)) → runs part ≡ words → field_of part ≡ field_of_words words
unfolding field_of
field_of-words part words is = ap field_of_words is

-- a name that is too long
pub field_of-long : (name word : List ℕ) (words : List (List ℕ)) → 255 < length name → field_of_words (name ∷ word ∷ words) ≡ None
field_of-long name word words long =
    let test : nat_le (length name) 255 ≡ false = grind (arith, nat_tests) in
    rw test refl

-- a word that is no type
pub field_of-no_type : (name word : List ℕ) (words : List (List ℕ)) → type_of word ≡ None → field_of_words (name ∷ word ∷ words) ≡ None
field_of-no_type name word words none = rw none (grind arith)

-- a field
pub field_of-some : (name word : List ℕ) (words : List (List ℕ)) (base : Base) (count : ℕ) → length name ≤ 255 → type_of word ≡ Some (base, count) →
    field_of_words (name ∷ word ∷ words) ≡ Some (record { name = name; base = base; count = count; attributes = words })
field_of-some name word words base count short is =
    let test : nat_le (length name) 255 ≡ true = grind (arith, nat_tests) in
    rw (test, is) refl

-- the pieces of a field's text, one after another
pub field_text-pieces : (f : Field) (a b c d : List ℕ) → a ≡ f.name → b ≡ a ++ 32 ∷ [] → c ≡ b ++ canonical_type f.base f.count →
    d ≡ c ++ spaced f.attributes → d ≡ field_text f
unfolding field_text
field_text-pieces f a b c d is-a is-b is-c is-d = rw (is-d, is-c, is-b, is-a) (simp append_assoc)
