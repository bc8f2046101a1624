-- Words that are paths.
use Rattle.std.proofs.Common.{◌≡◌, ℕ, List, [], ◌∷◌, IsTrue, codes, refl}
use Rattle.std.proofs.lemmas.Bool.{false≢true}
use Rattle.idx_words.specs.PathWord.{is_path}

-- one of them
pub path_r : IsTrue (is_path (codes "r"))
unfolding is_path
path_r = refl

-- the empty word is none
pub path_some : (word : List ℕ) → IsTrue (is_path word) → word ≡ [] → ⊥
unfolding is_path
path_some [] h e = false≢true h
path_some (b ∷ bs) h e = cc
