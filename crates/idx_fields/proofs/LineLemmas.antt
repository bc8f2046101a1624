-- The text of a field as it stands on a line.
use Rattle.std.proofs.Common.{◌≡◌, true, false, Bool, ℕ, ◌≤◌, List, [], ◌∷◌, ◌++◌, length, refl, sym, ap, ◌∙◌, arith, append_assoc, append-nil, length-append}
use Rattle.std.specs.List.{All, list_all}
use Rattle.std.proofs.lemmas.List.Folds.{list_all-append}
use Rattle.std.proofs.lemmas.List.Elements.{All-head, All-tail}
use Rattle.idx_text.specs.Numbers.{is_blank}
use Rattle.idx_text.specs.Trim.{before_rest, from_first_word, to_last_word, trimmed}
use Rattle.idx_fields.specs.FieldType.{canonical_type}
use Rattle.idx_fields.specs.Field.{Field, IsField, IsWord, field_text, spaced}
use Rattle.idx_fields.proofs.ReadBackLemmas.{field_text-is}
use Rattle.idx_fields.proofs.TypeTextLemmas.{InType, canonical_in_type, canonical_word, count_small}

-- a text that begins with a word
first_kept : (word rest : List ℕ) → 1 ≤ length word → All (λ b. is_blank b ≡ false) word → from_first_word (word ++ rest) ≡ word ++ rest
first_kept [] rest some letters = absurd (omega arith)
first_kept (b ∷ bs) rest some letters = let here = All-head (λ b. is_blank b ≡ false) b bs letters in rw here refl

before-some : (x : ℕ) (rest : List ℕ) → 1 ≤ length rest → before_rest x rest ≡ x ∷ rest
before-some x [] some = absurd (omega arith)
before-some x (y ∷ ys) some = refl

-- a text whose end stays
last_kept : (front rest : List ℕ) → 1 ≤ length rest → to_last_word rest ≡ rest → to_last_word (front ++ rest) ≡ front ++ rest
last_kept [] rest some kept = kept
last_kept (x ∷ xs) rest some kept =
    ap (before_rest x) (last_kept xs rest some kept) ∙ before-some x (xs ++ rest) (omega (arith, length-append xs rest))

-- a word stays
word_kept : (word : List ℕ) → All (λ b. is_blank b ≡ false) word → to_last_word word ≡ word
word_kept [] letters = refl
word_kept (b ∷ []) letters = let here = All-head (λ b. is_blank b ≡ false) b [] letters in rw here refl
word_kept (b ∷ c ∷ cs) letters =
    ap (before_rest b) (word_kept (c ∷ cs) (All-tail (λ b. is_blank b ≡ false) b (c ∷ cs) letters))

-- words with a space between
words_kept : (word : List ℕ) (words : List (List ℕ)) → IsWord word → All IsWord words → to_last_word (word ++ spaced words) ≡ word ++ spaced words
words_kept word [] is are = ap to_last_word (append-nil word) ∙ word_kept word is.no_blank ∙ sym (append-nil word)
words_kept word (w ∷ ws) is are =
    let first = All-head IsWord w ws are in
    let rest : List ℕ = w ++ spaced ws in
    let some : 1 ≤ length rest = (let one = first.some in omega (arith, length-append w (spaced ws))) in
    let whole : word ++ spaced (w ∷ ws) ≡ (word ++ (32 ∷ [])) ++ rest = sym (append_assoc word (32 ∷ []) rest) in
    ap to_last_word whole ∙ last_kept (word ++ (32 ∷ [])) rest some (words_kept w ws first (All-tail IsWord w ws are)) ∙ sym whole

text_ends : (f : Field) → IsField f → to_last_word (field_text f) ≡ field_text f
text_ends f is =
    let kind : List ℕ = canonical_type f.base f.count in
    let typed = canonical_word f.base f.count (count_small f is.sample) in
    let rest : List ℕ = kind ++ spaced f.attributes in
    let some : 1 ≤ length rest = (let one = typed.some in omega (arith, length-append kind (spaced f.attributes))) in
    let whole : field_text f ≡ (f.name ++ (32 ∷ [])) ++ rest = field_text-is f ∙ sym (append_assoc f.name (32 ∷ []) rest) in
    ap to_last_word whole ∙ last_kept (f.name ++ (32 ∷ [])) rest some (words_kept kind f.attributes typed is.attributes) ∙ sym whole

-- no blank stands at its ends
pub text_trimmed : (f : Field) → IsField f → trimmed (field_text f) ≡ field_text f
text_trimmed f is =
    let rest : List ℕ = 32 ∷ (canonical_type f.base f.count ++ spaced f.attributes) in
    let first : from_first_word (field_text f) ≡ field_text f =
    ap from_first_word (field_text-is f) ∙ first_kept f.name rest is.name.some is.name.no_blank ∙ sym (field_text-is f) in
    ap to_last_word first ∙ text_ends f is

pub text_some : (f : Field) → IsField f → 1 ≤ length (field_text f)
text_some f is =
    let some = is.name.some in
    omega (arith, ap length (field_text-is f), length-append f.name (32 ∷ (canonical_type f.base f.count ++ spaced f.attributes)))

-- nor at the ends of a further line
pub further_trimmed : (f : Field) → IsField f → trimmed (43 ∷ 32 ∷ field_text f) ≡ 43 ∷ 32 ∷ field_text f
further_trimmed f is = last_kept (43 ∷ 32 ∷ []) (field_text f) (text_some f is) (text_ends f is)

types_pass : (test : ℕ → Bool) (xs : List ℕ) → ((b : ℕ) → 32 ≤ b → b ≤ 126 → test b ≡ true) → All InType xs → list_all test xs ≡ true
types_pass test [] passes all = refl
types_pass test (x ∷ xs) passes all =
    let here = All-head InType x xs all in
    let low = here.0 in
    let high = here.1 in
    rw (passes x (omega arith) (omega arith), types_pass test xs passes (All-tail InType x xs all)) refl

spaced_pass : (test : ℕ → Bool) (words : List (List ℕ)) → test 32 ≡ true → All (λ word. list_all test word ≡ true) words → list_all test (spaced words) ≡ true
spaced_pass test [] space all = refl
spaced_pass test (w ∷ ws) space all =
    let P : List ℕ → Type 0 = λ word. list_all test word ≡ true in
    rw (space, list_all-append test w (spaced ws), All-head P w ws all, spaced_pass test ws space (All-tail P w ws all)) refl

-- what holds of the bytes of the name, of the attributes and of what is printed holds of all
pub text_passes : (test : ℕ → Bool) (f : Field) → IsField f → ((b : ℕ) → 32 ≤ b → b ≤ 126 → test b ≡ true) → list_all test f.name ≡ true →
    All (λ word. list_all test word ≡ true) f.attributes → list_all test (field_text f) ≡ true
text_passes test f is passes name attributes =
    let kind : List ℕ = canonical_type f.base f.count in
    let space : test 32 ≡ true = passes 32 (omega arith) (omega arith) in
    let kind' : list_all test kind ≡ true = types_pass test kind passes (canonical_in_type f.base f.count (count_small f is.sample)) in
    let more : list_all test (spaced f.attributes) ≡ true = spaced_pass test f.attributes space attributes in
    ap (list_all test) (field_text-is f) ∙ rw (list_all-append test f.name (32 ∷ (kind ++ spaced f.attributes)), name, space, list_all-append test kind (spaced f.attributes), kind', more) refl
