-- Words that are right or wrong by their places alone, with the words of another grammar behind them: the place of a fault is that
-- of the first wrong one.
use Rattle.std.proofs.Common.{◌≡◌, ◌↔◌, ℕ, zero, suc, ◌+◌, ◌<◌, List, [], ◌∷◌, drop, length, Option, Some, None, IsTrue, refl, ap, subst, arith}
use Rattle.std.specs.List.{slice_index_or}
use Rattle.std.specs.Option.{is_some}
use Rattle.std.proofs.lemmas.Bool.{false≢true}
use Rattle.idx_words.specs.Place.{SomeListBegins}
use Rattle.idx_words.specs.WordAt.{word_at}
use Rattle.idx_words.proofs.PlaceLemmas.{Fault, IsPlace-first, IsPlace-behind, IsPlace-same}

-- a word for each place, right there, and behind them words of another grammar
abbrev pub AreRight : {P : Type 0} → (P → List ℕ → Type 0) → (List (List ℕ) → Type 0) → List P → List (List ℕ) → Type 0
AreRight Right Behind [] ws = Behind ws
AreRight Right Behind (p ∷ places) [] = ⊥
AreRight Right Behind (p ∷ places) (w ∷ ws) = Right p w × AreRight Right Behind places ws

-- one of the places, or another one where there is none
abbrev pub nth : {P : Type 0} → P → List P → ℕ → P
nth other places k = slice_index_or places k other

-- the first so many words are right
abbrev pub AreRightBelow : {P : Type 0} → (P → List ℕ → Type 0) → P → ℕ → List P → List (List ℕ) → Type 0
AreRightBelow Right other n places ws = (k : ℕ) → k < n → Right (nth other places k) (word_at ws k)

-- the empty word is right nowhere
module _ {P : Type 0} (Right : P → List ℕ → Type 0) (Behind : List (List ℕ) → Type 0) (other : P) (empty : (p : P) → ¬ Right p []) where
  all_right : (places : List P) (ws : List (List ℕ)) → AreRightBelow Right other (length places) places ws → Behind (drop (length places) ws) → AreRight Right Behind places ws
  all_right [] ws right behind = behind
  all_right (p ∷ places) [] right behind = absurd (empty p (right 0 (omega arith)))
  all_right (p ∷ places) (w ∷ ws) right behind = (right 0 (omega arith), all_right places ws (λ k less. right (suc k) (omega arith)) behind)

  -- a fault behind a right word
  fault_behind : (p : P) (places : List P) (some : List (List ℕ)) → AreRight Right Behind places some → (w : List ℕ) → Right p w → (ws : List (List ℕ)) (at : ℕ) →
      Fault (AreRight Right Behind places) ws at → Fault (AreRight Right Behind (p ∷ places)) (w ∷ ws) (at + 1)
  fault_behind p places some are w right ws at fault = record {
    place = IsPlace-behind (AreRight Right Behind places) (AreRight Right Behind (p ∷ places)) w ws at (λ list are. (right, are)) (λ list are. are.1) (some, are) fault.place;
    none = λ are. fault.none are.1;
  }

  first_wrong : (places : List P) (some : List (List ℕ)) → AreRight Right Behind places some → (ws : List (List ℕ)) (at : ℕ) →
      AreRightBelow Right other at places ws → at < length places → ¬ Right (nth other places at) (word_at ws at) → Fault (AreRight Right Behind places) ws at
  first_wrong [] some are ws at right less wrong = absurd (omega (arith, less))
  first_wrong (p ∷ places) [] are ws at right less wrong = absurd are
  first_wrong (p ∷ places) (x ∷ xs) are [] zero right less wrong = record {
    place = IsPlace-first (AreRight Right Behind (p ∷ places)) [] (λ within begins. absurd (omega arith));
    none = λ are. are;
  }
  first_wrong (p ∷ places) (x ∷ xs) are (w ∷ ws) zero right less wrong = record {
    place = IsPlace-first (AreRight Right Behind (p ∷ places)) (w ∷ ws) (λ within begins. wrong begins.1.0);
    none = λ are. wrong are.0;
  }
  first_wrong (p ∷ places) (x ∷ xs) are [] (suc at) right less wrong = absurd (empty p (right 0 (omega arith)))
  first_wrong (p ∷ places) (x ∷ xs) are (w ∷ ws) (suc at) right less wrong =
      let next : at + 1 ≡ suc at = omega arith in
      subst (Fault (AreRight Right Behind (p ∷ places)) (w ∷ ws)) next (fault_behind p places xs are.1 w (right 0 (omega arith)) ws at
      (first_wrong places xs are.1 ws at (λ k less. right (suc k) (omega arith)) (omega arith) wrong))

  wrong_behind : (places : List P) (some : List (List ℕ)) → AreRight Right Behind places some → (ws : List (List ℕ)) (at : ℕ) →
      AreRightBelow Right other (length places) places ws → Fault Behind (drop (length places) ws) at → Fault (AreRight Right Behind places) ws (at + length places)
  wrong_behind [] some are ws at right fault = let none : at ≡ at + 0 = omega arith in subst (Fault Behind ws) none fault
  wrong_behind (p ∷ places) [] are ws at right fault = absurd are
  wrong_behind (p ∷ places) (x ∷ xs) are [] at right fault = absurd (empty p (right 0 (omega arith)))
  wrong_behind (p ∷ places) (x ∷ xs) are (w ∷ ws) at right fault =
      let next : at + length places + 1 ≡ at + length (p ∷ places) = omega arith in
      subst (Fault (AreRight Right Behind (p ∷ places)) (w ∷ ws)) next (fault_behind p places xs are.1 w (right 0 (omega arith)) ws (at + length places)
      (wrong_behind places xs are.1 ws at (λ k less. right (suc k) (omega arith)) fault))

  -- The lists of a grammar are those whose words are right at these places, and behind them those of the other, and there is one.
  module _ (places : List P) (G : List (List ℕ) → Type 0) (to : (ws : List (List ℕ)) → G ws → AreRight Right Behind places ws)
      (from : (ws : List (List ℕ)) → AreRight Right Behind places ws → G ws) (some : List (List ℕ)) (are : AreRight Right Behind places some) where
    same : (ws : List (List ℕ)) (at : ℕ) → Fault (AreRight Right Behind places) ws at → Fault G ws at
    same ws at fault = record {
      place = IsPlace-same (AreRight Right Behind places) G ws at from to fault.place;
      none = λ in_grammar. fault.none (to ws in_grammar);
    }

    -- some list begins with no words
    pub goes_on : (ws : List (List ℕ)) → SomeListBegins G ws 0
    goes_on ws = (some, from some are)

    -- the words are right
    pub right_words : (ws : List (List ℕ)) → AreRightBelow Right other (length places) places ws → Behind (drop (length places) ws) → G ws
    right_words ws right behind = from ws (all_right places ws right behind)

    -- the word at a place is the first that is wrong or missing
    pub wrong_word : (ws : List (List ℕ)) (at : ℕ) → AreRightBelow Right other at places ws → at < length places → ¬ Right (nth other places at) (word_at ws at) → Fault G ws at
    wrong_word ws at right less wrong = same ws at (first_wrong places some are ws at right less wrong)

    -- the first that is wrong or missing stands behind the places
    pub wrong_end : (ws : List (List ℕ)) (at : ℕ) → AreRightBelow Right other (length places) places ws → Fault Behind (drop (length places) ws) at → Fault G ws (at + length places)
    wrong_end ws at right fault = same ws (at + length places) (wrong_behind places some are ws at right fault)

-- ---- the places themselves

-- the places follow one another from this one on
abbrev pub Follow : {P : Type 0} → (P → ℕ) → ℕ → List P → Type 0
Follow place_of k [] = Unit {0}
Follow place_of k (p ∷ places) = (place_of p ≡ k) × Follow place_of (k + 1) places

pub placed : {P : Type 0} (place_of : P → ℕ) (other : P) (places : List P) (from : ℕ) → Follow place_of from places → (k : ℕ) → k < length places →
    place_of (nth other places k) ≡ from + k
placed place_of other [] from follow k less = absurd (omega arith)
placed place_of other (p ∷ places) from follow zero less = omega (arith, follow.0)
placed place_of other (p ∷ places) from follow (suc k) less = omega (arith, placed place_of other places (from + 1) follow.1 k (omega arith))

-- ---- values that may be there

-- a value that is there
pub there : {T : Type 0} (found : Option T) → IsTrue (is_some found) → (n : T) × (found ≡ Some n)
there None h = absurd (false≢true h)
there (Some n) h = (n, refl)

-- a reader finds a value exactly where there is one to be found
pub there_is : {T : Type 0} (found : Option T) (P : T → Type 0) → ((v : T) → (found ≡ Some v) ↔ P v) → IsTrue (is_some found) ↔ ((v : T) × P v)
there_is found P h = (
  (λ is. let v = there found is in (v.0, (h v.0).0 v.1)),
  (λ has. ap is_some ((h has.0).1 has.1)),
)
