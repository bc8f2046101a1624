-- How many of a rising list of numbers, those that pass a test, lie below a bound.
use Rattle.std.proofs.Common.{◌≡◌, ◌≢◌, ℕ, zero, suc, ◌+◌, ◌<◌, ◌≤◌, Bool, true, false, List, [], ◌∷◌, ◌++◌, length, get_or, take, refl, sym, ap, ◌∙◌, ⊎_elim, arith, add-one, length-append}
use Rattle.std.specs.Prelude.{filter, if◌then◌else◌}
use Rattle.std.proofs.lemmas.Bool.{cases_Bool, cases_lt, false≢true}
use Rattle.std.proofs.lemmas.List.{take_more}
use Rattle.std.proofs.lemmas.List.Elements.{filter-append}

-- how many numbers below a bound pass the test
abbrev pub count_below : (ℕ → Bool) → ℕ → ℕ
count_below t zero = 0
count_below t (suc n) = count_below t n + (if t n then 1 else 0)

length-filter_one : {X : Type 0} (p : X → Bool) (x : X) → length (filter p (x ∷ [])) ≡ (if p x then 1 else 0)
length-filter_one p x = ⊎_elim
    (λ (yes : p x ≡ true). rw yes refl)
    (λ (no : p x ≡ false). rw no refl)
    (cases_Bool (p x))

-- the same as the front of a list that passes
pub length-filter_take : {X : Type 0} (p : X → Bool) (xs : List X) (d : X) (n : ℕ) → n ≤ length xs → length (filter p (take n xs)) ≡ count_below (λ k. p (get_or xs k d)) n
length-filter_take p xs d zero within = refl
length-filter_take p xs d (suc n) within =
    let front : take (suc n) xs ≡ take n xs ++ get_or xs n d ∷ [] = ap (λ k. take k xs) (sym (add-one n)) ∙ take_more xs n d (omega arith) in
    ap (λ ys. length (filter p ys)) front
    ∙ ap length (filter-append p (take n xs) (get_or xs n d ∷ []))
    ∙ length-append (filter p (take n xs)) (filter p (get_or xs n d ∷ []))
    ∙ ap (λ k. length (filter p (take n xs)) + k) (length-filter_one p (get_or xs n d))
    ∙ ap (λ k. k + (if p (get_or xs n d) then 1 else 0)) (length-filter_take p xs d n (omega arith))

-- of the numbers below an end, those that pass are so many, given in rising order
pub record AreMembers (t : ℕ → Bool) (m : ℕ → ℕ) (n end : ℕ) : Type 0 where
  pub hit : (j : ℕ) → j < n → t (m j) ≡ true
  pub only : (x : ℕ) → x < end → t x ≡ true → (j : ℕ) × (j < n) × (x ≡ m j)
  pub rising : (i j : ℕ) → i < j → j < n → m i < m j

-- a member is not below an earlier one
not_below : (t : ℕ → Bool) (m : ℕ → ℕ) (n end i j : ℕ) → AreMembers t m n end → i ≤ j → j < n → m i ≤ m j
not_below t m n end i j are le within = ⊎_elim
    (λ (less : i < j). let up : m i < m j = are.rising i j less within in omega arith)
    (λ (most : j ≤ i). let same : i ≡ j = omega arith in omega (arith, ap m same))
    (cases_lt i j)

-- where the first j of them are below a bound, j are counted
pub count_below-members : (t : ℕ → Bool) (m : ℕ → ℕ) (n end : ℕ) → AreMembers t m n end → (x j : ℕ) → x ≤ end → j ≤ n → ((i : ℕ) → i < j → m i < x) → ((i : ℕ) → j ≤ i → i < n → x ≤ m i) → count_below t x ≡ j
count_below-members t m n end are zero zero within few low high = refl
count_below-members t m n end are zero (suc j) within few low high = let none : m 0 < 0 = low 0 (omega arith) in absurd (omega arith)
count_below-members t m n end are (suc x) j within few low high = ⊎_elim
    (λ (yes : t x ≡ true).
    let at = are.only x (omega arith) yes in
    let i : ℕ = at.0 in
    let small : i < n = at.1 in
    let is : x ≡ m i = at.2 in
    let before : i < j = ⊎_elim
    (λ (h : i < j). h)
    (λ (h : j ≤ i). let up : suc x ≤ m i = high i h small in absurd (omega arith))
    (cases_lt i j) in
    let last : j ≤ suc i = ⊎_elim
    (λ (h : suc i < j). let down : m (suc i) < suc x = low (suc i) h in let up : m i < m (suc i) = are.rising i (suc i) (omega arith) (omega arith) in absurd (omega arith))
    (λ (h : j ≤ suc i). h)
    (cases_lt (suc i) j) in
    let rest : count_below t x ≡ i = count_below-members t m n end are x i (omega arith) (omega arith)
    (λ k h. let up : m k < m i = are.rising k i h small in omega arith)
    (λ k h w. let up : m i ≤ m k = not_below t m n end i k are h w in omega arith) in
    ap (λ b. count_below t x + (if b then 1 else 0)) yes ∙ omega arith)
    (λ (no : t x ≡ false).
    let rest : count_below t x ≡ j = count_below-members t m n end are x j (omega arith) few
    (λ k h.
    let less : m k < suc x = low k h in
    let other : m k ≢ x = λ e. false≢true (sym no ∙ ap t (sym e) ∙ are.hit k (omega arith)) in
    omega arith)
    (λ k h w. let up : suc x ≤ m k = high k h w in omega arith) in
    ap (λ b. count_below t x + (if b then 1 else 0)) no ∙ omega arith)
    (cases_Bool (t x))
