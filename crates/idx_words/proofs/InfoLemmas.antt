-- Which words of `info` are wrong: no list of its words begins with them and the words before.
use Rattle.std.proofs.Common.{◌≡◌, ℕ, ◌<◌, ◌≤◌, List, [], ◌∷◌, length, IsTrue, codes, refl, arith}
use Rattle.idx_words.specs.PathWord.{is_path}
use Rattle.idx_words.specs.WordAt.{word_at}
use Rattle.idx_words.specs.Place.{SomeListBegins, IsPlace}
use Rattle.idx_words.specs.Words.{AreInfoWords}
use Rattle.idx_words.proofs.PathLemmas.{path_some, path_r}
use Rattle.idx_words.proofs.PlaceLemmas.{IsPlace-at, IsPlace-first}

-- some list begins with no words
pub info_goes_on : (ws : List (List ℕ)) → SomeListBegins AreInfoWords ws 0
info_goes_on ws = (codes "r" ∷ [], path_r)

-- the first word is missing, or no path
pub info_first : (ws : List (List ℕ)) → (IsTrue (is_path (word_at ws 0)) → ⊥) → IsPlace AreInfoWords ws 0
info_first ws wrong = IsPlace-first AreInfoWords ws (none ws wrong)
  where
    none : (ws : List (List ℕ)) → (IsTrue (is_path (word_at ws 0)) → ⊥) → 0 < length ws → SomeListBegins AreInfoWords ws 1 → ⊥
    none [] wrong some (rest, longer) = absurd (omega arith)
    none (w ∷ ws) wrong some ([], longer) = wrong longer
    none (w ∷ ws) wrong some (r ∷ rest, longer) = absurd longer

-- there is a word more
pub info_more : (ws : List (List ℕ)) → IsTrue (is_path (word_at ws 0)) → 1 < length ws → IsPlace AreInfoWords ws 1
info_more ws path more = IsPlace-at AreInfoWords ws 1 (omega arith) (begun ws path more) (λ less. none ws more)
  where
    begun : (ws : List (List ℕ)) → IsTrue (is_path (word_at ws 0)) → 1 < length ws → SomeListBegins AreInfoWords ws 1
    begun [] path more = absurd (omega arith)
    begun (w ∷ ws) path more = ([], path)

    none : (ws : List (List ℕ)) → 1 < length ws → SomeListBegins AreInfoWords ws 2 → ⊥
    none [] more (rest, longer) = absurd (omega arith)
    none (w ∷ []) more (rest, longer) = absurd (omega arith)
    none (w ∷ v ∷ ws) more (rest, longer) = absurd longer

pub info_alone : (ws : List (List ℕ)) → AreInfoWords ws → (length ws ≡ 1) × IsTrue (is_path (word_at ws 0))
info_alone [] h = absurd h
info_alone (w ∷ []) h = (refl, h)
info_alone (w ∷ v ∷ ws) h = absurd h

-- so the words are those of `info`
pub info_is : (ws : List (List ℕ)) → IsTrue (is_path (word_at ws 0)) → length ws ≤ 1 → AreInfoWords ws
info_is [] path few = absurd (path_some [] path refl)
info_is (w ∷ []) path few = path
info_is (w ∷ v ∷ ws) path few = absurd (omega arith)
