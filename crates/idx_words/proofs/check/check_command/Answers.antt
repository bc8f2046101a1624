use Rattle.std.proofs.Common.{◌≡◌, ℕ, ◌<◌, ◌≤◌, List, Some, IsTrue, length, map, string_bytes, refl, sym, ap, ◌∙◌, arith}
use Rattle.std.proofs.lemmas.Bool.{false≢true}
use Rattle.std.proofs.lemmas.List.{length-map}
use Rattle.idx_text.specs.Number.{number_of}
use Rattle.idx_words.specs.PathWord.{is_path}
use Rattle.idx_words.specs.WordAt.{word_at}
use Rattle.idx_words.proofs.CheckLemmas.{check_alone, check_found, check_more, check_second}
use Rattle.idx_words.proofs.check.check_command.Goals as goal

pub returns-then-not-is_path-clause-read : goal.returns-then-not-is_path-clause-read
returns-then-not-is_path-clause-read c = λ time.
    let ws : List (List ℕ) = map string_bytes c.args.words.now in
    let wrong : IsTrue (is_path (word_at ws 0)) → ⊥ = λ path. false≢true (sym c.if-not-is_path.true ∙ c.is_path.ensures ∙ ap is_path c.word_at.ensures ∙ path) in
    ((λ same. cc), (λ are. absurd (wrong (check_alone ws time are).1)))

pub returns-in_default-clause-read : goal.returns-in_default-clause-read
returns-in_default-clause-read c = λ time.
    let ws : List (List ℕ) = map string_bytes c.args.words.now in
    let wrong : number_of (word_at ws 1) ≡ Some time → ⊥ = λ number.
    let found = c.read_number.ensures ∙ ap number_of c.word_at-2.ensures ∙ number in
    let none = c.in_default.is in
    cc
    in
    ((λ same. cc), (λ are. absurd (wrong (check_alone ws time are).2)))

pub returns-in_default-clause-place : goal.returns-in_default-clause-place
returns-in_default-clause-place c =
    let ws : List (List ℕ) = map string_bytes c.args.words.now in
    let path : IsTrue (is_path (word_at ws 0)) = ap is_path (sym c.word_at.ensures) ∙ sym c.is_path.ensures ∙ c.if-not-is_path.false in
    let wrong : (time : ℕ) → number_of (word_at ws 1) ≡ Some time → ⊥ = λ time number.
    let found = c.read_number.ensures ∙ ap number_of c.word_at-2.ensures ∙ number in
    let none = c.in_default.is in
    cc
    in
    (1, refl, check_second ws path wrong)

pub returns-then-words-gt2-clause-read : goal.returns-then-words-gt2-clause-read
returns-then-words-gt2-clause-read c = λ time.
    let ws : List (List ℕ) = map string_bytes c.args.words.now in
    ((λ same. cc), (λ are. absurd (omega (arith, (check_alone ws time are).0, length-map c.args.words.now string_bytes))))

pub returns-then-words-gt2-clause-place : goal.returns-then-words-gt2-clause-place
returns-then-words-gt2-clause-place c =
    let ws : List (List ℕ) = map string_bytes c.args.words.now in
    let path : IsTrue (is_path (word_at ws 0)) = ap is_path (sym c.word_at.ensures) ∙ sym c.is_path.ensures ∙ c.if-not-is_path.false in
    let number : number_of (word_at ws 1) ≡ Some c.in-Some.time = ap number_of (sym c.word_at-2.ensures) ∙ sym c.read_number.ensures ∙ c.in-Some.is in
    let more : 2 < length ws = omega (arith, length-map c.args.words.now string_bytes) in
    (2, refl, check_more ws c.in-Some.time path number more)

pub returns-clause-read : goal.returns-clause-read
returns-clause-read c = λ time.
    let ws : List (List ℕ) = map string_bytes c.args.words.now in
    let path : IsTrue (is_path (word_at ws 0)) = ap is_path (sym c.word_at.ensures) ∙ sym c.is_path.ensures ∙ c.if-not-is_path.false in
    let number : number_of (word_at ws 1) ≡ Some c.in-Some.time = ap number_of (sym c.word_at-2.ensures) ∙ sym c.read_number.ensures ∙ c.in-Some.is in
    let few : length ws ≤ 2 = omega (arith, length-map c.args.words.now string_bytes) in
    check_found ws c.in-Some.time path number few time
