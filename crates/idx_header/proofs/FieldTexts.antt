-- The words of fields have only bytes of the text that gives them.
use Rattle.std.proofs.Common.{◌≡◌, ℕ, Bool, true, false, cond, List, [], ◌∷◌, length, map, filter, find, nat_le, All, Option, Some, None, option_and_then, Ok, Err, refl, subst, arith}
use Rattle.std.specs.List.{slice_split, onto_first}
use Rattle.std.proofs.lemmas.Option.{same_Some}
use Rattle.std.proofs.lemmas.List.Elements.{All-cons, All-nil, All-head, All-tail}
use Rattle.idx_text.specs.Numbers.{has_bytes, is_blank, runs}
use Rattle.idx_text.specs.Lines.{is_text, is_text_line}
use Rattle.idx_fields.specs.declared.base.Base.{Base}
use Rattle.idx_fields.specs.declared.fields_fault.FieldsFault.{FieldsFault}
use Rattle.idx_fields.specs.Field.{Field, field_of, field_of_words, is_plus}
use Rattle.idx_fields.specs.FieldType.{type_of}
use Rattle.idx_fields.specs.Fields.{all_fields, are_distinct, are_within_limits, names_of, listed_fields, within_limits, fields_of}
use Rattle.idx_text.specs.declared.section.Section.{Section}
use Rattle.idx_text.specs.Sections.{IsTextSection}
use Rattle.idx_header.specs.declared.key.Key.{Key}
use Rattle.idx_header.specs.Header.{IsTextField}
use Rattle.idx_header.specs.Keys.{has_key, key_text, or_empty, section_of, section_at}

AllTexts : List (List ℕ) → Type 0
AllTexts [] = Unit {0}
AllTexts (part ∷ parts) = (is_text_line part ≡ true) × AllTexts parts

onto-texts : (x : ℕ) (parts : List (List ℕ)) → is_text x ≡ true → AllTexts parts → AllTexts (onto_first x parts)
unfolding AllTexts
onto-texts x [] here h = (rw here refl, tt)
onto-texts x (part ∷ parts) here h = (rw here h.0, h.1)

split-texts : (q : ℕ → Bool) (xs : List ℕ) → is_text_line xs ≡ true → AllTexts (slice_split q xs)
unfolding AllTexts
split-texts q [] h = (refl, tt)
split-texts q (x ∷ xs) h =
    let here : is_text x ≡ true = grind arith in
    let rest : is_text_line xs ≡ true = grind arith in
    cases (q x) here (split-texts q xs rest)
  where
    cases : (cut : Bool) → is_text x ≡ true → AllTexts (slice_split q xs) → AllTexts (cond cut ([] ∷ slice_split q xs) (onto_first x (slice_split q xs)))
    cases true here more = (refl, more)
    cases false here more = onto-texts x (slice_split q xs) here more

filter-texts : (parts : List (List ℕ)) → AllTexts parts → AllTexts (filter has_bytes parts)
unfolding AllTexts
filter-texts [] h = tt
filter-texts ([] ∷ parts) h = filter-texts parts h.1
filter-texts ((b ∷ bs) ∷ parts) h = (h.0, filter-texts parts h.1)

each-text : (parts : List (List ℕ)) → AllTexts parts → All (λ word. is_text_line word ≡ true) parts
unfolding AllTexts
each-text [] h = All-nil (λ word. is_text_line word ≡ true)
each-text (part ∷ parts) h = All-cons (λ word. is_text_line word ≡ true) part parts h.0 (each-text parts h.1)

words-text : (words : List (List ℕ)) (f : Field) → AllTexts words → field_of_words words ≡ Some f → IsTextField f
unfolding AllTexts
words-text [] f h e = cc
words-text (name ∷ []) f h e = cc
words-text (name ∷ word ∷ attributes) f h e = cases (nat_le (length name) 255) (type_of word) e
  where
    cases : (short : Bool) (t : Option (Base × ℕ)) →
        cond short (option_and_then (λ (t : Base × ℕ). Some (record { name = name; base = t.0; count = t.1; attributes = attributes })) t) None ≡ Some f → IsTextField f
    cases false t e = cc
    cases true None e = cc
    cases true (Some t) e =
        subst IsTextField (same_Some _ _ e) (record { name = h.0; attributes = each-text attributes h.1.1 })

field-text : (part : List ℕ) (f : Field) → is_text_line part ≡ true → field_of part ≡ Some f → IsTextField f
unfolding field_of
field-text part f h e = words-text (runs part) f (filter-texts (slice_split is_blank part) (split-texts is_blank part h)) e

fields-texts : (parts : List (List ℕ)) (fs : List Field) → AllTexts parts → all_fields (map field_of parts) ≡ Some fs → All IsTextField fs
unfolding AllTexts
fields-texts [] fs h e = subst (All IsTextField) (same_Some _ _ e) (All-nil IsTextField)
fields-texts (part ∷ parts) fs h e =
    cases (field_of part) (all_fields (map field_of parts)) (field-text part) (fields-texts parts) e
  where
    cases : (first : Option Field) (rest : Option (List Field)) →
        ((f : Field) → is_text_line part ≡ true → first ≡ Some f → IsTextField f) →
        ((gs : List Field) → AllTexts parts → rest ≡ Some gs → All IsTextField gs) →
        option_and_then (λ f. option_and_then (λ gs. Some (f ∷ gs)) rest) first ≡ Some fs → All IsTextField fs
    cases None rest one more e = cc
    cases (Some f) None one more e = cc
    cases (Some f) (Some gs) one more e =
        subst (All IsTextField) (same_Some _ _ e) (All-cons IsTextField f gs (one f h.0 refl) (more gs h.1 refl))

listed-texts : (text : List ℕ) (fs : List Field) → is_text_line text ≡ true → listed_fields text ≡ Some fs → All IsTextField fs
unfolding listed_fields
listed-texts text fs h e = cases (all_fields (map field_of (slice_split is_plus text))) (λ gs. fields-texts (slice_split is_plus text) gs (split-texts is_plus text h)) e
  where
    distinct : (gs : List Field) (apart : Bool) → All IsTextField gs → cond apart (Some gs) None ≡ Some fs → All IsTextField fs
    distinct gs true all e = subst (All IsTextField) (same_Some _ _ e) all
    distinct gs false all e = cc

    cases : (all : Option (List Field)) → ((gs : List Field) → all ≡ Some gs → All IsTextField gs) →
        option_and_then (λ gs. cond (are_distinct (names_of gs)) (Some gs) None) all ≡ Some fs → All IsTextField fs
    cases None each e = cc
    cases (Some gs) each e = distinct gs (are_distinct (names_of gs)) (each gs refl) e

-- the fields of a text whose bytes may all stand there
pub fields-of-text : (text : List ℕ) (fs : List Field) → is_text_line text ≡ true → fields_of text ≡ Ok fs → All IsTextField fs
unfolding fields_of
fields-of-text text fs h e = cases (listed_fields text) (λ gs. listed-texts text gs h) e
  where
    limits : (gs : List Field) (within : Bool) → All IsTextField gs → cond within (Ok gs) (Err FieldsFault.OverLimit) ≡ Ok fs → All IsTextField fs
    limits gs true all e = let same : gs ≡ fs = cc in subst (All IsTextField) same all
    limits gs false all e = cc

    cases : (listed : Option (List Field)) → ((gs : List Field) → listed ≡ Some gs → All IsTextField gs) → within_limits listed ≡ Ok fs → All IsTextField fs
    cases None each e = cc
    cases (Some gs) each e = limits gs (are_within_limits gs) (each gs refl) e

-- the value of a key has only bytes that may stand in a text
pub section-text : (key : Key) (sections : List Section) → All IsTextSection sections → is_text_line (section_at key sections).value ≡ true
unfolding section_of
section-text key [] h = refl
section-text key (s ∷ ss) h = cases (has_key (key_text key) s) (section-text key ss (All-tail IsTextSection s ss h))
  where
    cases : (here : Bool) → is_text_line (or_empty (find (has_key (key_text key)) ss)).value ≡ true →
        is_text_line (or_empty (cond here (Some s) (find (has_key (key_text key)) ss))).value ≡ true
    cases true rest = (All-head IsTextSection s ss h).value
    cases false rest = rest
