-- Which words of `drill` are wrong: no list of its words begins with them and the words before.
use Rattle.std.proofs.Common.{◌≡◌, ◌↔◌, ℕ, ◌<◌, ◌≤◌, List, [], ◌∷◌, length, Result, Ok, codes, refl, arith, sym, ap, subst, ◌∙◌}
use Rattle.std.proofs.lemmas.Option.{same_Some}
use Rattle.idx_text.specs.Number.{number_of}
use Rattle.idx_words.specs.declared.command.Command.{Command}
use Rattle.idx_words.specs.declared.command.Command.TheVariants.{Drill}
use Rattle.idx_words.specs.declared.misread.Misread.{Misread}
use Rattle.idx_words.specs.WordAt.{word_at}
use Rattle.idx_words.specs.Place.{SomeListBegins, IsPlace}
use Rattle.idx_words.specs.DrillGrammar.{AreDrillWords, AreSomeDrillWords, SpellsDrill}
use Rattle.idx_words.proofs.PlaceLemmas.{IsPlace-at, IsPlace-first}

spells_1 : SpellsDrill (codes "1") 1
unfolding number_of
spells_1 = record { spelled = refl; some = omega arith; few = omega arith }

-- the empty word, which stands for one that is missing, is no number
pub none_missing : (number : ℕ) → SpellsDrill [] number → ⊥
unfolding number_of
none_missing number h = let same = h.spelled in cc

-- some list begins with no words
pub drill_goes_on : (ws : List (List ℕ)) → SomeListBegins AreSomeDrillWords ws 0
drill_goes_on ws = (codes "1" ∷ [], (1, spells_1))

-- the first word is missing, or no number of a drill
pub drill_first : (ws : List (List ℕ)) → ((number : ℕ) → SpellsDrill (word_at ws 0) number → ⊥) → IsPlace AreSomeDrillWords ws 0
drill_first ws wrong = IsPlace-first AreSomeDrillWords ws (none ws wrong)
  where
    none : (ws : List (List ℕ)) → ((number : ℕ) → SpellsDrill (word_at ws 0) number → ⊥) → 0 < length ws → SomeListBegins AreSomeDrillWords ws 1 → ⊥
    none [] wrong some (rest, longer) = absurd (omega arith)
    none (w ∷ ws) wrong some ([], (number, spells)) = wrong number spells
    none (w ∷ ws) wrong some (r ∷ rest, (number, longer)) = absurd longer

-- there is a word more
pub drill_more : (ws : List (List ℕ)) (number : ℕ) → SpellsDrill (word_at ws 0) number → 1 < length ws → IsPlace AreSomeDrillWords ws 1
drill_more ws number spells more = IsPlace-at AreSomeDrillWords ws 1 (omega arith) (begun ws spells more) (λ less. none ws more)
  where
    begun : (ws : List (List ℕ)) → SpellsDrill (word_at ws 0) number → 1 < length ws → SomeListBegins AreSomeDrillWords ws 1
    begun [] spells more = absurd (omega arith)
    begun (w ∷ ws) spells more = ([], (number, spells))

    none : (ws : List (List ℕ)) → 1 < length ws → SomeListBegins AreSomeDrillWords ws 2 → ⊥
    none [] more (rest, longer) = absurd (omega arith)
    none (w ∷ []) more (rest, longer) = absurd (omega arith)
    none (w ∷ v ∷ ws) more (rest, (number, longer)) = absurd longer

-- the words stand for a number exactly where the only one spells it
pub drill_alone : (ws : List (List ℕ)) (number : ℕ) → AreDrillWords ws number → (length ws ≡ 1) × SpellsDrill (word_at ws 0) number
drill_alone [] number h = absurd h
drill_alone (w ∷ []) number h = (refl, h)
drill_alone (w ∷ v ∷ ws) number h = absurd h

pub drill_is : (ws : List (List ℕ)) (number : ℕ) → SpellsDrill (word_at ws 0) number → length ws ≤ 1 → AreDrillWords ws number
drill_is [] number spells few = absurd (none_missing number spells)
drill_is (w ∷ []) number spells few = spells
drill_is (w ∷ v ∷ ws) number spells few = absurd (omega arith)

-- a word spells one number
spelled-once : (word : List ℕ) (a b : ℕ) → SpellsDrill word a → SpellsDrill word b → a ≡ b
spelled-once word a b one other = same_Some a b (sym one.spelled ∙ other.spelled)

same_drill : (a b : ℕ) → ◌≡◌ {A = Result Command Misread} (Ok (Drill a)) (Ok (Drill b)) → a ≡ b
same_drill a b same = cc

-- an answer that gives the number of right words
pub drill_found : (ws : List (List ℕ)) (value : ℕ) → SpellsDrill (word_at ws 0) value → length ws ≤ 1 → (number : ℕ) →
    (◌≡◌ {A = Result Command Misread} (Ok (Drill value)) (Ok (Drill number))) ↔ AreDrillWords ws number
drill_found ws value spells few number = (
  (λ same. subst (AreDrillWords ws) (same_drill value number same) (drill_is ws value spells few)),
  (λ are. ap (λ n. Ok (Drill n)) (spelled-once (word_at ws 0) value number spells (drill_alone ws number are).1)),
)
