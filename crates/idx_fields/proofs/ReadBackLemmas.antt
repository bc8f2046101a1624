-- Fields that are written are read back.
use Rattle.std.proofs.Common.{◌≡◌, true, false, ℕ, ◌<◌, List, [], ◌∷◌, ◌++◌, length, get_or, map, nat_le, Some, Ok, refl, sym, ap, subst, ◌∙◌, arith, append_assoc, append-nil}
use Rattle.std.specs.List.{All, list_all, slice_split, join_with_byte}
use Rattle.std.proofs.lemmas.Bool.Decides.{nat_tests}
use Rattle.std.proofs.lemmas.List.Splits.{slice_split_at, slice_split_none}
use Rattle.std.proofs.lemmas.List.Elements.{All-nil, All-cons, All-append, All-head, All-tail}
use Rattle.idx_text.specs.Numbers.{is_blank, runs}
use Rattle.idx_fields.specs.FieldType.{canonical_type}
use Rattle.idx_fields.specs.Field.{Field, IsField, IsWord, field_of, field_text, is_plus, sample_bytes, spaced}
use Rattle.idx_fields.specs.Fields.{AreFields, all_fields, are_within_limits, fields_lines, fields_of, fields_text, further_lines}
use Rattle.idx_fields.proofs.RunsLemmas.{runs-blank, runs-blanks, runs-none, runs-word, runs-before}
use Rattle.idx_fields.proofs.FieldLemmas.{field_of-words, field_of-some}
use Rattle.idx_fields.proofs.ListingLemmas.{fields_of-ok}
use Rattle.idx_fields.proofs.TypeTextLemmas.{canonical_word, count_small, type_back}

abbrev Blanks : List ℕ → Type 0
Blanks text = All (λ b. is_blank b ≡ true) text

abbrev NoPlus : List ℕ → Type 0
NoPlus text = All (λ b. is_plus b ≡ false) text

-- words with a space before each, and blanks behind them, are empty or begin with a blank
begins : (words : List (List ℕ)) (post : List ℕ) → Blanks post → 0 < length (spaced words ++ post) → is_blank (get_or (spaced words ++ post) 0 0) ≡ true
begins [] [] blank some = absurd (omega arith)
begins [] (b ∷ bs) blank some = All-head (λ b. is_blank b ≡ true) b bs blank
begins (w ∷ ws) post blank some = refl

-- and their runs are the words
runs-spaced : (words : List (List ℕ)) (post : List ℕ) → All IsWord words → Blanks post → runs (spaced words ++ post) ≡ words
runs-spaced [] post are blank = runs-none post blank
runs-spaced (w ∷ ws) post are blank =
    let word = All-head IsWord w ws are in
    let rest = runs-spaced ws post (All-tail IsWord w ws are) blank in
    let text : List ℕ = w ++ (spaced ws ++ post) in
    let parted : spaced (w ∷ ws) ++ post ≡ 32 ∷ text = ap (λ t. 32 ∷ t) (append_assoc w (spaced ws) post) in
    ap runs parted ∙ runs-blank 32 text refl ∙ runs-before w (spaced ws ++ post) word.some word.no_blank (begins ws post blank) ∙ ap (λ t. w ∷ t) rest

-- the text of a field in one order of joining
pub field_text-is : (f : Field) → field_text f ≡ f.name ++ (32 ∷ (canonical_type f.base f.count ++ spaced f.attributes))
unfolding field_text
field_text-is f = append_assoc f.name (32 ∷ canonical_type f.base f.count) (spaced f.attributes)

-- a field between blanks is read back
pub field_back : (pre post : List ℕ) (f : Field) → Blanks pre → Blanks post → IsField f → field_of (pre ++ (field_text f ++ post)) ≡ Some f
field_back pre post f before behind is =
    let small = count_small f is.sample in
    let kind : List ℕ = canonical_type f.base f.count in
    let typed = canonical_word f.base f.count small in
    let rest : List ℕ = spaced f.attributes ++ post in
    let whole : field_text f ++ post ≡ f.name ++ (32 ∷ (kind ++ rest)) =
    ap (λ t. t ++ post) (field_text-is f) ∙ append_assoc f.name (32 ∷ (kind ++ spaced f.attributes)) post
    ∙ ap (λ t. f.name ++ (32 ∷ t)) (append_assoc kind (spaced f.attributes) post) in
    let words : runs (pre ++ (field_text f ++ post)) ≡ f.name ∷ kind ∷ f.attributes =
    runs-blanks pre (field_text f ++ post) before ∙ ap runs whole
    ∙ runs-word f.name 32 (kind ++ rest) is.name.some is.name.no_blank refl
    ∙ ap (λ t. f.name ∷ t) (runs-before kind rest typed.some typed.no_blank (begins f.attributes post behind)
    ∙ ap (λ t. kind ∷ t) (runs-spaced f.attributes post is.attributes behind)) in
    field_of-words (pre ++ (field_text f ++ post)) (f.name ∷ kind ∷ f.attributes) words
    ∙ field_of-some f.name kind f.attributes f.base f.count is.short (type_back f.base f.count is.count small)

spaced_no_plus : (words : List (List ℕ)) → All IsWord words → NoPlus (spaced words)
spaced_no_plus [] are = All-nil (λ b. is_plus b ≡ false)
spaced_no_plus (w ∷ ws) are =
    All-cons (λ b. is_plus b ≡ false) 32 (w ++ spaced ws) refl (All-append (λ b. is_plus b ≡ false) w (spaced ws) (All-head IsWord w ws are).no_plus (spaced_no_plus ws (All-tail IsWord w ws are)))

-- no `+` stands in a field's text
pub text_no_plus : (f : Field) → IsField f → NoPlus (field_text f)
text_no_plus f is =
    let P : ℕ → Type 0 = λ b. is_plus b ≡ false in
    let kind : List ℕ = canonical_type f.base f.count in
    let typed = canonical_word f.base f.count (count_small f is.sample) in
    let rest : All P (kind ++ spaced f.attributes) = All-append P kind (spaced f.attributes) typed.no_plus (spaced_no_plus f.attributes is.attributes) in
    subst (All P) (sym (field_text-is f)) (All-append P f.name (32 ∷ (kind ++ spaced f.attributes)) is.name.no_plus (All-cons P 32 (kind ++ spaced f.attributes) refl rest))

-- fields behind blanks, one part after another
parts_back : (pre : List ℕ) (f : Field) (fs : List Field) → Blanks pre → NoPlus pre → All IsField (f ∷ fs) →
    all_fields (map field_of (slice_split is_plus (pre ++ fields_text (f ∷ fs)))) ≡ Some (f ∷ fs)
parts_back pre f [] blank lacks are =
    let P : ℕ → Type 0 = λ b. is_plus b ≡ false in
    let is = All-head IsField f [] are in
    let alone : slice_split is_plus (pre ++ field_text f) ≡ (pre ++ field_text f) ∷ [] =
    slice_split_none is_plus (pre ++ field_text f) (All-append P pre (field_text f) lacks (text_no_plus f is)) in
    let reads : field_of (pre ++ field_text f) ≡ Some f =
    ap (λ t. field_of (pre ++ t)) (sym (append-nil (field_text f))) ∙ field_back pre [] f blank (All-nil (λ b. is_blank b ≡ true)) is in
    ap (λ parts. all_fields (map field_of parts)) alone ∙ rw reads refl
parts_back pre f (g ∷ gs) blank lacks are =
    let P : ℕ → Type 0 = λ b. is_plus b ≡ false in
    let is = All-head IsField f (g ∷ gs) are in
    let more = All-tail IsField f (g ∷ gs) are in
    let space : Blanks (32 ∷ []) = All-cons (λ b. is_blank b ≡ true) 32 [] refl (All-nil (λ b. is_blank b ≡ true)) in
    let space' : NoPlus (32 ∷ []) = All-cons P 32 [] refl (All-nil P) in
    let part : List ℕ = pre ++ (field_text f ++ (32 ∷ [])) in
    let rest : List ℕ = 32 ∷ fields_text (g ∷ gs) in
    let whole : pre ++ fields_text (f ∷ g ∷ gs) ≡ part ++ 43 ∷ rest =
    ap (λ t. pre ++ t) (sym (append_assoc (field_text f) (32 ∷ []) (43 ∷ rest))) ∙ sym (append_assoc pre (field_text f ++ (32 ∷ [])) (43 ∷ rest)) in
    let none : NoPlus part = All-append P pre (field_text f ++ (32 ∷ [])) lacks (All-append P (field_text f) (32 ∷ []) (text_no_plus f is) space') in
    let split : slice_split is_plus (pre ++ fields_text (f ∷ g ∷ gs)) ≡ part ∷ slice_split is_plus rest =
    ap (slice_split is_plus) whole ∙ slice_split_at is_plus part 43 rest none refl in
    let next = parts_back (32 ∷ []) g gs space space' more in
    ap (λ parts. all_fields (map field_of parts)) split ∙ rw (field_back pre (32 ∷ []) f blank space is, next) refl

within : (fields : List Field) → All IsField fields → list_all (λ f. nat_le (sample_bytes f) 64) fields ≡ true
within [] are = refl
within (f ∷ fs) are =
    let limit = (All-head IsField f fs are).sample in
    let here : nat_le (sample_bytes f) 64 ≡ true = grind (arith, nat_tests) in
    rw (here, within fs (All-tail IsField f fs are)) refl

pub rows_back : (fields : List Field) → AreFields fields → fields_of (fields_text fields) ≡ Ok fields
rows_back [] are = let some = are.some in absurd (omega arith)
rows_back (f ∷ fs) are =
    let parts = parts_back [] f fs (All-nil (λ b. is_blank b ≡ true)) (All-nil (λ b. is_plus b ≡ false)) are.each in
    let few : nat_le (length (f ∷ fs)) 64 ≡ true = (let limit = are.few in grind (arith, nat_tests)) in
    let limits : are_within_limits (f ∷ fs) ≡ true = rw (few, within (f ∷ fs) are.each) refl in
    fields_of-ok (fields_text (f ∷ fs)) (f ∷ fs) parts are.distinct limits

-- further lines joined by a space
joined : (g : Field) (gs : List Field) → join_with_byte 32 ((43 ∷ 32 ∷ field_text g) ∷ further_lines gs) ≡ 43 ∷ 32 ∷ fields_text (g ∷ gs)
joined g [] = refl
joined g (h ∷ hs) = ap (λ t. 43 ∷ 32 ∷ (field_text g ++ (32 ∷ t))) (joined h hs)

pub lines_joined : (fields : List Field) → fields_text fields ≡ join_with_byte 32 (fields_lines fields)
lines_joined [] = refl
lines_joined (f ∷ []) = refl
lines_joined (f ∷ g ∷ gs) = ap (λ t. field_text f ++ (32 ∷ t)) (sym (joined g gs))
