use Rattle.std.proofs.Common.{◌∷◌, [], ◌∙◌, sym, ap, List, ℕ, Some, arith}
use Rattle.idx_text.specs.Numbers.{runs}
use Rattle.idx_fields.proofs.FieldLemmas.{field_of-words, field_of-long, field_of-no_type, field_of-some}
use Rattle.idx_fields.proofs.stored_field.StoredField.read.Goals as goal

pub returns-in_default-clause-bad : goal.returns-in_default-clause-bad
returns-in_default-clause-bad c = λ _. field_of-words c.args.part.now [] c.in_default.ensures

pub returns-in_default-first_word-clause-bad : goal.returns-in_default-first_word-clause-bad
returns-in_default-first_word-clause-bad c =
    λ _.
    let name : List ℕ = c.in-Some.name.now in
    let first = c.in-Some.ensures in
    field_of-words c.args.part.now (name ∷ []) (first.0 ∙ ap (λ t. name ∷ t) c.in_default-first_word.ensures)

pub returns-then-name-gt-MAX_NAME-clause-bad : goal.returns-then-name-gt-MAX_NAME-clause-bad
returns-then-name-gt-MAX_NAME-clause-bad c =
    λ _.
    let name : List ℕ = c.in-Some.name.now in
    let word : List ℕ = c.in-Some-first_word.word.now in
    let more : List (List ℕ) = runs c.in-Some-first_word.rest.now in
    let first = c.in-Some.ensures in
    let second = c.in-Some-first_word.ensures in
    field_of-words c.args.part.now (name ∷ word ∷ more) (first.0 ∙ ap (λ t. name ∷ t) second.0)
    ∙ field_of-long name word more c.if-name-gt-MAX_NAME.true

pub returns-in_default-read_type-clause-bad : goal.returns-in_default-read_type-clause-bad
returns-in_default-read_type-clause-bad c =
    λ _.
    let name : List ℕ = c.in-Some.name.now in
    let word : List ℕ = c.in-Some-first_word.word.now in
    let more : List (List ℕ) = runs c.in-Some-first_word.rest.now in
    let first = c.in-Some.ensures in
    let second = c.in-Some-first_word.ensures in
    field_of-words c.args.part.now (name ∷ word ∷ more) (first.0 ∙ ap (λ t. name ∷ t) second.0)
    ∙ field_of-no_type name word more (sym c.read_type.ensures ∙ c.in_default-read_type.is)

pub returns-clause-ok : goal.returns-clause-ok
returns-clause-ok c =
    let name : List ℕ = c.in-Some.name.now in
    let word : List ℕ = c.in-Some-first_word.word.now in
    let more : List (List ℕ) = runs c.in-Some-first_word.rest.now in
    let first = c.in-Some.ensures in
    let second = c.in-Some-first_word.ensures in
    let base = c.in-Some-read_type.base in
    let count = c.in-Some-read_type.count in
    let named = c.in_ok-from_slice.ensures in
    let rest = c.in_ok-words.ensures in
    field_of-words c.args.part.now (name ∷ word ∷ more) (first.0 ∙ ap (λ t. name ∷ t) second.0)
    ∙ field_of-some name word more base count (omega arith) (sym c.read_type.ensures ∙ c.in-Some-read_type.is)
    ∙ ap Some (λ i. record { name = sym named i; base = base; count = count; attributes = sym rest i })
