-- The fields of a text, from those of its parts.
use Rattle.std.proofs.Common.{◌≡◌, true, false, Bool, cond, ℕ, ◌+◌, ◌≤◌, List, [], ◌∷◌, ◌==◌, length, nat_le, if◌then◌else◌, map, Option, Some, None, Ok, Err, refl, sym, ap, ◌∙◌, arith, subst, inl, inr, suc}
use Rattle.std.specs.List.{slice_split}
use Rattle.std.specs.List.{All, count_by, list_all, list_any, before_first, after_first}
use Rattle.std.specs.Option.{option_and_then}
use Rattle.std.proofs.lemmas.Bool.{cases_Bool}
use Rattle.std.proofs.lemmas.Bool.Decides.{nat_tests}
use Rattle.std.proofs.lemmas.List.Elements.{All-nil, All-cons, All-head, All-tail}
use Rattle.std.proofs.lemmas.Option.{same_Some}
use Rattle.std.proofs.lemmas.List.Splits.{length-slice_split}
use Rattle.idx_text.specs.Number.{number_of}
use Rattle.idx_text.specs.Numbers.{runs}
use Rattle.idx_fields.specs.declared.base.Base.{Base}
use Rattle.idx_fields.specs.FieldType.{is_star, is_opening, before_closing, count_of, type_with, type_of}
use Rattle.idx_fields.proofs.TypeLemmas.{type_of-star, type_of-opening, type_of-plain}
use Rattle.idx_fields.proofs.AgreeLemmas.{and_left, and_right}
use Rattle.idx_fields.proofs.WordLemmas.{runs_are_words, parts_lack}
use Rattle.idx_fields.specs.declared.fields_fault.FieldsFault.TheVariants as faults
use Rattle.idx_fields.specs.Field.{Field, IsWord, IsField, field_of, field_of_words, is_plus, sample_bytes}
use Rattle.idx_fields.specs.Fields.{AreFields, all_fields, are_distinct, are_within_limits, fields_of, listed_fields, names_of, within_limits}

-- the fields of all parts
abbrev pub all_of_parts : List ℕ → Option (List Field)
all_of_parts text = all_fields (map field_of (slice_split is_plus text))

pub fields_of-none : (text : List ℕ) → all_of_parts text ≡ None → fields_of text ≡ Err faults.BadField
unfolding fields_of listed_fields
fields_of-none text none = rw none refl

pub fields_of-double : (text : List ℕ) (fields : List Field) → all_of_parts text ≡ Some fields → are_distinct (names_of fields) ≡ false →
    fields_of text ≡ Err faults.BadField
unfolding fields_of listed_fields
fields_of-double text fields some double = rw (some, double) refl

pub fields_of-over : (text : List ℕ) (fields : List Field) → all_of_parts text ≡ Some fields → are_distinct (names_of fields) ≡ true →
    are_within_limits fields ≡ false → fields_of text ≡ Err faults.OverLimit
unfolding fields_of listed_fields
fields_of-over text fields some distinct over = rw (some, distinct, over) refl

pub fields_of-ok : (text : List ℕ) (fields : List Field) → all_of_parts text ≡ Some fields → are_distinct (names_of fields) ≡ true →
    are_within_limits fields ≡ true → fields_of text ≡ Ok fields
unfolding fields_of listed_fields
fields_of-ok text fields some distinct within = rw (some, distinct, within) refl

-- what a type of a word has: a count from 1
type_with-count : (base : Option Base) (count : Option ℕ) (b : Base) (n : ℕ) → type_with base count ≡ Some (b, n) → count ≡ Some n
type_with-count None count b n e = cc
type_with-count (Some b') None b n e = cc
type_with-count (Some b') (Some m) b n e = let same : (b', m) ≡ (b, n) = same_Some _ _ e in ap (λ t. Some t.1) same

not_zero : (b : Bool) (n m : ℕ) → (b ≡ false → 1 ≤ n) → cond b None (Some n) ≡ Some m → 1 ≤ m
not_zero true n m some e = cc
not_zero false n m some e = let same : n ≡ m = same_Some _ _ e in let from = some refl in omega arith

from_one : (n : Option ℕ) (m : ℕ) → option_and_then (λ n. if n == 0 then None else Some n) n ≡ Some m → 1 ≤ m
from_one None m e = cc
from_one (Some n) m e = not_zero (n == 0) n m (λ h. grind (arith, nat_tests)) e

closed-from_one : (word : Option (List ℕ)) (m : ℕ) → option_and_then count_of word ≡ Some m → 1 ≤ m
closed-from_one None m e = cc
closed-from_one (Some word) m e = from_one (number_of word) m e

type_of-count : (word : List ℕ) (b : Base) (n : ℕ) → type_of word ≡ Some (b, n) → 1 ≤ n
type_of-count word b n e =
    elim (cases_Bool (list_any is_star word)) [
      | inl star ↦ from_one (number_of (before_first is_star word)) n (type_with-count _ _ b n (sym (type_of-star word star) ∙ e))
      | inr none ↦ elim (cases_Bool (list_any is_opening word)) [
        | inl opening ↦ closed-from_one (before_closing (after_first is_opening word)) n
            (type_with-count _ _ b n (sym (type_of-opening word none opening) ∙ e))
        | inr plain ↦ (let same : 1 ≡ n = same_Some _ _ (type_with-count _ _ b n (sym (type_of-plain word none plain) ∙ e)) in omega arith)
      ]
    ]

-- what is true of a field, its sample apart
pub record IsListed (f : Field) : Type 0 where
  pub name : IsWord f.name
  pub short : length f.name ≤ 255
  pub count : 1 ≤ f.count
  pub attributes : All IsWord f.attributes

-- the field of this name, this type and these attributes
abbrev with_type : List ℕ → List (List ℕ) → Option (Base × ℕ) → Option Field
with_type name more t = option_and_then (λ t. Some (record { name = name; base = t.0; count = t.1; attributes = more })) t

listed-of_type : (name word : List ℕ) (more : List (List ℕ)) (t : Option (Base × ℕ)) (f : Field) → IsWord name → All IsWord more → length name ≤ 255 →
    type_of word ≡ t → with_type name more t ≡ Some f → IsListed f
listed-of_type name word more None f is-word are-words short is e = cc
listed-of_type name word more (Some (b, n)) f is-word are-words short is e =
    let made : Field = record { name = name; base = b; count = n; attributes = more } in
    let same : made ≡ f = same_Some _ _ e in
    subst IsListed same (record { name = is-word; short = short; count = type_of-count word b n is; attributes = are-words })

listed-of_words : (words : List (List ℕ)) (f : Field) → All IsWord words → field_of_words words ≡ Some f → IsListed f
listed-of_words [] f all e = cc
listed-of_words (name ∷ []) f all e = cc
listed-of_words (name ∷ word ∷ more) f all e =
    by_length (nat_le (length name) 255) refl e
  where
    by_length : (b : Bool) → nat_le (length name) 255 ≡ b → cond b (with_type name more (type_of word)) None ≡ Some f → IsListed f
    by_length true short e =
        let rest : All IsWord (word ∷ more) = All-tail IsWord name (word ∷ more) all in
        listed-of_type name word more (type_of word) f (All-head IsWord name (word ∷ more) all) (All-tail IsWord word more rest)
        (grind (arith, nat_tests)) refl e
    by_length false long e = cc

pub listed : (part : List ℕ) (f : Field) → All (λ b. is_plus b ≡ false) part → field_of part ≡ Some f → IsListed f
unfolding field_of
listed part f lacks e = listed-of_words (runs part) f (runs_are_words part lacks) e

-- a field before others
both : (f : Option Field) (rest : Option (List Field)) (fields : List Field) →
    option_and_then (λ first. option_and_then (λ fs. Some (first ∷ fs)) rest) f ≡ Some fields →
    (g : Field) × (gs : List Field) × (f ≡ Some g) × (rest ≡ Some gs) × (g ∷ gs ≡ fields)
both None rest fields e = cc
both (Some g) None fields e = cc
both (Some g) (Some gs) fields e = (g, gs, refl, refl, same_Some _ _ e)

all_listed : (parts : List (List ℕ)) (fields : List Field) → All (All (λ b. is_plus b ≡ false)) parts → all_fields (map field_of parts) ≡ Some fields →
    (All IsListed fields) × (length fields ≡ length parts)
all_listed [] fields lacks e =
    let none : [] ≡ fields = same_Some _ _ e in
    (subst (All IsListed) none (All-nil IsListed), ap length (sym none))
all_listed (part ∷ parts) fields lacks e =
    let P : List ℕ → Type 0 = All (λ b. is_plus b ≡ false) in
    let parted = both (field_of part) (all_fields (map field_of parts)) fields e in
    let first : Field = parted.0 in
    let more : List Field = parted.1 in
    let rest = all_listed parts more (All-tail P part parts lacks) parted.3 in
    let here : IsListed first = listed part first (All-head P part parts lacks) parted.2 in
    (subst (All IsListed) parted.4 (All-cons IsListed first more here rest.0), ap length (sym parted.4) ∙ ap (λ n. suc n) rest.1)

-- a sample within the limit
small : (fields : List Field) → list_all (λ f. nat_le (sample_bytes f) 64) fields ≡ true → All (λ f. sample_bytes f ≤ 64) fields
small [] all = All-nil (λ f. sample_bytes f ≤ 64)
small (f ∷ fs) all =
    let here : nat_le (sample_bytes f) 64 ≡ true = and_left _ _ all in
    All-cons (λ f. sample_bytes f ≤ 64) f fs (grind (arith, nat_tests)) (small fs (and_right _ _ all))

-- fields that are listed, distinct and within the limits
pub are_fields : (text : List ℕ) (fields : List Field) → all_of_parts text ≡ Some fields → are_distinct (names_of fields) ≡ true →
    are_within_limits fields ≡ true → AreFields fields
are_fields text fields some distinct within =
    let parts = slice_split is_plus text in
    let all = all_listed parts fields (parts_lack is_plus text) some in
    let count : length parts ≡ count_by is_plus text + 1 = length-slice_split is_plus text in
    let limit : nat_le (length fields) 64 ≡ true = and_left _ _ within in
    let samples : All (λ f. sample_bytes f ≤ 64) fields = small fields (and_right (nat_le (length fields) 64) (list_all (λ f. nat_le (sample_bytes f) 64) fields) within) in
    let each : All IsField fields = λ k d inside.
    let here = all.0 k d inside in
    record { name = here.name; short = here.short; count = here.count; sample = samples k d inside; attributes = here.attributes } in
    record { some = omega (arith, all.1, count); few = grind (arith, nat_tests); each = each; distinct = distinct }

-- fields that a text lists within the limits
pub listed_are_fields : (text : List ℕ) (fields : List Field) → fields_of text ≡ Ok fields → AreFields fields
unfolding fields_of listed_fields
listed_are_fields text fields e = by_parts (all_of_parts text) refl e
  where
    by_limits : (found : List Field) (w : Bool) → all_of_parts text ≡ Some found → are_distinct (names_of found) ≡ true → are_within_limits found ≡ w →
        cond w (Ok found) (Err faults.OverLimit) ≡ Ok fields → AreFields fields
    by_limits found true some distinct within e =
        let same : found ≡ fields = cc in
        subst AreFields same (are_fields text found some distinct within)
    by_limits found false some distinct within e = cc

    by_names : (found : List Field) (d : Bool) → all_of_parts text ≡ Some found → are_distinct (names_of found) ≡ d →
        within_limits (cond d (Some found) None) ≡ Ok fields → AreFields fields
    by_names found true some distinct e = by_limits found (are_within_limits found) some distinct refl e
    by_names found false some distinct e = cc

    by_parts : (o : Option (List Field)) → all_of_parts text ≡ o →
        within_limits (option_and_then (λ fields. if are_distinct (names_of fields) then Some fields else None) o) ≡ Ok fields → AreFields fields
    by_parts None is e = cc
    by_parts (Some found) is e = by_names found (are_distinct (names_of found)) is refl e
