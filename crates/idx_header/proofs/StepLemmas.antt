-- The steps that the words of a text spell: more than four words tell no more than four.
use Rattle.std.proofs.Common.{◌≡◌, ℕ, List, [], ◌∷◌, length, take, map, get_or, Bor, None, refl, arith}
use Rattle.idx_header.specs.Time.{steps_of_words}

pub four_tell : (words : List (List ℕ)) → steps_of_words words ≡ steps_of_words (take 4 words)
four_tell [] = refl
four_tell (a ∷ []) = refl
four_tell (a ∷ b ∷ []) = refl
four_tell (a ∷ b ∷ c ∷ []) = refl
four_tell (a ∷ b ∷ c ∷ d ∷ more) = refl

pub three_alone : (words : List (List ℕ)) → (length words ≡ 3 → ⊥) → steps_of_words words ≡ None
three_alone [] other = refl
three_alone (a ∷ []) other = refl
three_alone (a ∷ b ∷ []) other = refl
three_alone (a ∷ b ∷ c ∷ []) other = absurd (other refl)
three_alone (a ∷ b ∷ c ∷ d ∷ more) other = refl

pub three : (xs : List (Bor (List ℕ))) (d e f : Bor (List ℕ)) → length xs ≡ 3 →
    map (λ r. r.now) xs ≡ (get_or xs 0 d).now ∷ (get_or xs 1 e).now ∷ (get_or xs 2 f).now ∷ []
three [] d e f h = absurd (omega arith)
three (a ∷ []) d e f h = absurd (omega arith)
three (a ∷ b ∷ []) d e f h = absurd (omega arith)
three (a ∷ b ∷ c ∷ []) d e f h = refl
three (a ∷ b ∷ c ∷ x ∷ xs) d e f h = absurd (omega arith)
