-- The blanks at the end of a text.
use Rattle.std.proofs.Common.{◌≡◌, true, false, ℕ, ◌-◌, ◌≤◌, List, [], ◌∷◌, ◌++◌, length, take, get_or, refl, sym, ap, ◌∙◌, arith}
use native.Mathlib.Numerals.{unary_clauses}
use Rattle.idx_text.specs.Numbers.{is_blank}
use Rattle.idx_text.specs.Trim.{before_rest, to_last_word}

-- a blank at the end goes
to_last_word-blank : (xs : List ℕ) (b : ℕ) → is_blank b ≡ true → to_last_word (xs ++ b ∷ []) ≡ to_last_word xs
to_last_word-blank [] b here = rw here refl
to_last_word-blank (x ∷ xs) b here = ap (before_rest x) (to_last_word-blank xs b here)

before_rest-push : (x b : ℕ) (xs : List ℕ) → before_rest x (xs ++ b ∷ []) ≡ x ∷ xs ++ b ∷ []
before_rest-push x b [] = refl
before_rest-push x b (y ∷ ys) = refl

-- where the last byte is no blank, all stays
to_last_word-word : (xs : List ℕ) (b : ℕ) → is_blank b ≡ false → to_last_word (xs ++ b ∷ []) ≡ xs ++ b ∷ []
to_last_word-word [] b here = rw here refl
to_last_word-word (x ∷ xs) b here = ap (before_rest x) (to_last_word-word xs b here) ∙ before_rest-push x b xs

pub split_last : (xs : List ℕ) → 1 ≤ length xs → xs ≡ take (length xs - 1) xs ++ get_or xs (length xs - 1) 0 ∷ []
split_last [] some = absurd (omega arith)
split_last (x ∷ []) some = refl
split_last (x ∷ y ∷ ys) some = simp unary_clauses (ap (λ t. x ∷ t) (simp unary_clauses at (split_last (y ∷ ys) (omega arith))))

pub blank_dropped : (xs : List ℕ) → 1 ≤ length xs → is_blank (get_or xs (length xs - 1) 0) ≡ true →
    to_last_word (take (length xs - 1) xs) ≡ to_last_word xs
blank_dropped xs some here =
    let front = take (length xs - 1) xs in
    sym (ap to_last_word (split_last xs some) ∙ to_last_word-blank front _ here)

pub word_kept : (xs : List ℕ) → 1 ≤ length xs → is_blank (get_or xs (length xs - 1) 0) ≡ false → xs ≡ to_last_word xs
word_kept xs some here =
    let front = take (length xs - 1) xs in
    let whole = split_last xs some in
    whole ∙ sym (ap to_last_word whole ∙ to_last_word-word front _ here)
