use Rattle.std.proofs.Common.{◌<◌, ◌≤◌, List, ℕ, length, map, string_bytes, refl, sym, subst, arith}
use Rattle.std.proofs.lemmas.List.{length-map}
use Rattle.idx_words.specs.DrillGrammar.{SpellsDrill}
use Rattle.idx_words.specs.WordAt.{word_at}
use Rattle.idx_words.proofs.DrillLemmas.{drill_alone, drill_first, drill_found, drill_more}
use Rattle.idx_words.proofs.drill.drill_command.Goals as goal

pub returns-in_default-clause-read : goal.returns-in_default-clause-read
returns-in_default-clause-read c = λ number.
    let ws : List (List ℕ) = map string_bytes c.args.words.now in
    let wrong : SpellsDrill (word_at ws 0) number → ⊥ = λ spells.
    let read = c.read_drill.ensures number in
    let found = read.1 (subst (λ w. SpellsDrill w number) (sym c.word_at.ensures) spells) in
    let none = c.in_default.is in
    cc
    in
    ((λ same. cc), (λ are. absurd (wrong (drill_alone ws number are).1)))

pub returns-in_default-clause-place : goal.returns-in_default-clause-place
returns-in_default-clause-place c =
    let ws : List (List ℕ) = map string_bytes c.args.words.now in
    let wrong : (number : ℕ) → SpellsDrill (word_at ws 0) number → ⊥ = λ number spells.
    let read = c.read_drill.ensures number in
    let found = read.1 (subst (λ w. SpellsDrill w number) (sym c.word_at.ensures) spells) in
    let none = c.in_default.is in
    cc
    in
    (0, refl, drill_first ws wrong)

pub returns-then-words-gt1-clause-read : goal.returns-then-words-gt1-clause-read
returns-then-words-gt1-clause-read c = λ number.
    let ws : List (List ℕ) = map string_bytes c.args.words.now in
    ((λ same. cc), (λ are. absurd (omega (arith, (drill_alone ws number are).0, length-map c.args.words.now string_bytes))))

pub returns-then-words-gt1-clause-place : goal.returns-then-words-gt1-clause-place
returns-then-words-gt1-clause-place c =
    let ws : List (List ℕ) = map string_bytes c.args.words.now in
    let more : 1 < length ws = omega (arith, length-map c.args.words.now string_bytes) in
    let read = c.read_drill.ensures c.in-Some.number in
    (1, refl, drill_more ws c.in-Some.number (subst (λ w. SpellsDrill w c.in-Some.number) c.word_at.ensures (read.0 c.in-Some.is)) more)

pub returns-clause-read : goal.returns-clause-read
returns-clause-read c = λ number.
    let ws : List (List ℕ) = map string_bytes c.args.words.now in
    let few : length ws ≤ 1 = omega (arith, length-map c.args.words.now string_bytes) in
    let read = c.read_drill.ensures c.in-Some.number in
    drill_found ws c.in-Some.number (subst (λ w. SpellsDrill w c.in-Some.number) c.word_at.ensures (read.0 c.in-Some.is)) few number

pub returns-clause-sound : goal.returns-clause-sound
returns-clause-sound c =
    let read = c.read_drill.ensures c.in-Some.number in
    let spells = read.0 c.in-Some.is in
    (spells.some, spells.few)
