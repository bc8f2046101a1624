-- Numbers one after another.
use Rattle.std.proofs.Common.{◌≡◌, ℕ, zero, suc, ◌+◌, ◌-◌, ◌<◌, List, [], ◌∷◌, ◌++◌, ap, ◌∙◌, arith}
use Rattle.std.specs.List.{range_with_len}

-- so many numbers, and so many more
pub range_split : (a n m : ℕ) → range_with_len a (n + m) ≡ range_with_len a n ++ range_with_len (a + n) m
range_split a zero m =
    let here : a ≡ a + 0 = omega arith in
    let none : 0 + m ≡ m = omega arith in
    ap (range_with_len a) none ∙ ap (λ k. range_with_len k m) here
range_split a (suc n) m =
    let many : suc n + m ≡ suc (n + m) = omega arith in
    let there : (a + 1) + n ≡ a + suc n = omega arith in
    ap (range_with_len a) many ∙ ap (λ (l : List ℕ). a ∷ l) (range_split (a + 1) n m ∙ ap (λ k. range_with_len (a + 1) n ++ range_with_len k m) there)

-- one number more
pub range_more : (a n : ℕ) → range_with_len a (n + 1) ≡ range_with_len a n ++ (a + n) ∷ []
range_more a n = range_split a n 1

-- one of the numbers, with those before it and those behind it
pub range_at : (a n many : ℕ) → n < many → range_with_len a many ≡ range_with_len a n ++ (a + n) ∷ range_with_len ((a + n) + 1) (many - n - 1)
range_at a n many below =
    let rest : many ≡ n + suc (many - n - 1) = omega (arith, below) in
    ap (range_with_len a) rest ∙ range_split a n (suc (many - n - 1))
