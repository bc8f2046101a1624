-- Which words of `check` are wrong: no list of its words begins with them and the words before.
use Rattle.std.proofs.Common.{◌≡◌, ◌↔◌, ℕ, ◌<◌, ◌≤◌, List, [], ◌∷◌, length, Result, Ok, Some, IsTrue, codes, refl, arith, sym, ap, subst, ◌∙◌}
use Rattle.std.proofs.lemmas.Option.{same_Some}
use Rattle.idx_text.specs.Number.{number_of}
use Rattle.idx_words.specs.declared.command.Command.{Command}
use Rattle.idx_words.specs.declared.command.Command.TheVariants.{Check}
use Rattle.idx_words.specs.declared.misread.Misread.{Misread}
use Rattle.idx_words.specs.CheckGrammar.{AreCheckWords, AreSomeCheckWords}
use Rattle.idx_words.specs.PathWord.{is_path}
use Rattle.idx_words.specs.Place.{SomeListBegins, IsPlace}
use Rattle.idx_words.specs.WordAt.{word_at}
use Rattle.idx_words.proofs.CutLemmas.{number_some}
use Rattle.idx_words.proofs.PathLemmas.{path_r, path_some}
use Rattle.idx_words.proofs.PlaceLemmas.{IsPlace-at, IsPlace-first}
use Rattle.idx_words.proofs.WitnessLemmas.{number_0}

-- some list begins with no words
pub check_goes_on : (ws : List (List ℕ)) → SomeListBegins AreSomeCheckWords ws 0
check_goes_on ws = (codes "r" ∷ codes "0" ∷ [], (0, (path_r, number_0)))

-- the first word is missing, or no path
pub check_first : (ws : List (List ℕ)) → (IsTrue (is_path (word_at ws 0)) → ⊥) → IsPlace AreSomeCheckWords ws 0
check_first ws wrong = IsPlace-first AreSomeCheckWords ws (none ws wrong)
  where
    none : (ws : List (List ℕ)) → (IsTrue (is_path (word_at ws 0)) → ⊥) → 0 < length ws → SomeListBegins AreSomeCheckWords ws 1 → ⊥
    none [] wrong some (rest, longer) = absurd (omega arith)
    none (w ∷ ws) wrong some ([], (time, longer)) = absurd longer
    none (w ∷ ws) wrong some (r ∷ [], (time, longer)) = wrong longer.0
    none (w ∷ ws) wrong some (r ∷ s ∷ rest, (time, longer)) = absurd longer

-- the first word is a path, so there is one
one_word : (ws : List (List ℕ)) → IsTrue (is_path (word_at ws 0)) → 1 ≤ length ws
one_word [] path = absurd (path_some [] path refl)
one_word (w ∷ ws) path = omega arith

-- the second word is missing, or no number
pub check_second : (ws : List (List ℕ)) → IsTrue (is_path (word_at ws 0)) → ((time : ℕ) → number_of (word_at ws 1) ≡ Some time → ⊥) → IsPlace AreSomeCheckWords ws 1
check_second ws path wrong = IsPlace-at AreSomeCheckWords ws 1 (one_word ws path) (begun ws path) (none ws wrong)
  where
    begun : (ws : List (List ℕ)) → IsTrue (is_path (word_at ws 0)) → SomeListBegins AreSomeCheckWords ws 1
    begun [] path = absurd (path_some [] path refl)
    begun (w ∷ ws) path = (codes "0" ∷ [], (0, (path, number_0)))

    none : (ws : List (List ℕ)) → ((time : ℕ) → number_of (word_at ws 1) ≡ Some time → ⊥) → 1 < length ws → SomeListBegins AreSomeCheckWords ws 2 → ⊥
    none [] wrong more (rest, longer) = absurd (omega arith)
    none (w ∷ []) wrong more (rest, longer) = absurd (omega arith)
    none (w ∷ v ∷ ws) wrong more ([], (time, longer)) = wrong time longer.1
    none (w ∷ v ∷ ws) wrong more (r ∷ rest, (time, longer)) = absurd longer

-- there is a word more
pub check_more : (ws : List (List ℕ)) (time : ℕ) → IsTrue (is_path (word_at ws 0)) → number_of (word_at ws 1) ≡ Some time → 2 < length ws → IsPlace AreSomeCheckWords ws 2
check_more ws time path number more = IsPlace-at AreSomeCheckWords ws 2 (omega arith) (begun ws path number more) (λ less. none ws more)
  where
    begun : (ws : List (List ℕ)) → IsTrue (is_path (word_at ws 0)) → number_of (word_at ws 1) ≡ Some time → 2 < length ws → SomeListBegins AreSomeCheckWords ws 2
    begun [] path number more = absurd (omega arith)
    begun (w ∷ []) path number more = absurd (omega arith)
    begun (w ∷ v ∷ ws) path number more = ([], (time, (path, number)))

    none : (ws : List (List ℕ)) → 2 < length ws → SomeListBegins AreSomeCheckWords ws 3 → ⊥
    none [] more (rest, longer) = absurd (omega arith)
    none (w ∷ []) more (rest, longer) = absurd (omega arith)
    none (w ∷ v ∷ []) more (rest, longer) = absurd (omega arith)
    none (w ∷ v ∷ u ∷ ws) more (rest, (time, longer)) = absurd longer

-- the words stand for a step exactly where there are two, which are right
pub check_alone : (ws : List (List ℕ)) (time : ℕ) → AreCheckWords ws time → (length ws ≡ 2) × IsTrue (is_path (word_at ws 0)) × (number_of (word_at ws 1) ≡ Some time)
check_alone [] time h = absurd h
check_alone (w ∷ []) time h = absurd h
check_alone (w ∷ v ∷ []) time h = (refl, h.0, h.1)
check_alone (w ∷ v ∷ u ∷ ws) time h = absurd h

check_is : (ws : List (List ℕ)) (time : ℕ) → IsTrue (is_path (word_at ws 0)) → number_of (word_at ws 1) ≡ Some time → length ws ≤ 2 → AreCheckWords ws time
check_is [] time path number few = absurd (path_some [] path refl)
check_is (w ∷ []) time path number few = absurd (number_some [] time number refl)
check_is (w ∷ v ∷ []) time path number few = (path, number)
check_is (w ∷ v ∷ u ∷ ws) time path number few = absurd (omega arith)

same_check : (a b : ℕ) → ◌≡◌ {A = Result Command Misread} (Ok (Check a)) (Ok (Check b)) → a ≡ b
same_check a b same = cc

-- an answer that gives the step of right words
pub check_found : (ws : List (List ℕ)) (value : ℕ) → IsTrue (is_path (word_at ws 0)) → number_of (word_at ws 1) ≡ Some value → length ws ≤ 2 → (time : ℕ) →
    (◌≡◌ {A = Result Command Misread} (Ok (Check value)) (Ok (Check time))) ↔ AreCheckWords ws time
check_found ws value path number few time = (
  (λ same. subst (AreCheckWords ws) (same_check value time same) (check_is ws value path number few)),
  (λ are. ap (λ n. Ok (Check n)) (same_Some value time (sym number ∙ (check_alone ws time are).2))),
)
