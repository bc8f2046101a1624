-- Whether some field has a name.
use Rattle.std.proofs.Common.{◌≡◌, ◌≢◌, ℕ, zero, suc, ◌<◌, List, [], ◌∷◌, length, Bool, bytes_eq, true, false, ◌||◌, Decides, refl, ap, arith}
use Rattle.std.specs.List.{list_any}
use Rattle.std.proofs.lemmas.Slice.Eq.{bytes_eq-Decides}
use Rattle.idx_fields.specs.Field.{Field, field_at}

-- the second of two tests holds
or_right : (a b : Bool) → b ≡ true → (a || b) ≡ true
or_right true b is = refl
or_right false b is = is

-- neither of two tests holds
or_neither : (a b : Bool) → a ≡ false → b ≡ false → (a || b) ≡ false
or_neither true b no_a no_b = no_a
or_neither false b no_a no_b = no_b

-- a test of what is not so
is_false : {P : Type 0} (b : Bool) → Decides b P → ¬ P → b ≡ false
is_false true decides never = absurd (never (decides.0 refl))
is_false false decides never = refl

pub names_found : (fields : List Field) (name : List ℕ) (i : ℕ) → i < length fields → (field_at fields i).name ≡ name →
    list_any (λ field. bytes_eq field.name name) fields ≡ true
names_found [] name i within same = absurd (omega (arith, within))
names_found (field ∷ fields) name zero within same =
    ap (λ b. b || list_any (λ f. bytes_eq f.name name) fields) ((bytes_eq-Decides field.name name).1 same)
names_found (field ∷ fields) name (suc i) within same =
    or_right (bytes_eq field.name name) _ (names_found fields name i (omega (arith, within)) same)

pub names_lost : (fields : List Field) (name : List ℕ) → ((i : ℕ) → i < length fields → (field_at fields i).name ≢ name) →
    list_any (λ field. bytes_eq field.name name) fields ≡ false
names_lost [] name lost = refl
names_lost (field ∷ fields) name lost =
    or_neither (bytes_eq field.name name) _
    (is_false (bytes_eq field.name name) (bytes_eq-Decides field.name name) (lost 0 (omega arith)))
    (names_lost fields name (λ i within. lost (suc i) (omega (arith, within))))
