-- A cycle of a permutation: how far one is on the way along it and against it.
use Rattle.std.proofs.Common.{◌≡◌, ◌≢◌, ℕ, zero, suc, ◌+◌, ◌-◌, ◌<◌, ◌≤◌, ◌⊎◌, refl, sym, ap, ◌∙◌, inl, inr, ⊎_elim, arith, subst}
use Rattle.std.proofs.lemmas.Bool.{cases_eq, cases_lt, eq-eqb, ne_eqb}
use Rattle.std.specs.Prelude.{if◌then◌else◌, ◌==◌}

-- so many steps
abbrev pub steps : (ℕ → ℕ) → ℕ → ℕ → ℕ
steps f zero x = x
steps f (suc k) x = f (steps f k x)

steps-first : (f : ℕ → ℕ) (k x : ℕ) → steps f k (f x) ≡ f (steps f k x)
steps-first f zero x = refl
steps-first f (suc k) x = ap f (steps-first f k x)

steps-add : (f : ℕ → ℕ) (a b x : ℕ) → steps f (a + b) x ≡ steps f a (steps f b x)
steps-add f zero b x = ap (λ n. steps f n x) (let h : 0 + b ≡ b = omega arith in h)
steps-add f (suc a) b x = ap (λ n. steps f n x) (let h : suc a + b ≡ suc (a + b) = omega arith in h) ∙ ap f (steps-add f a b x)

-- two maps of the numbers below an end, each of which takes the other back
pub record AreBack (end : ℕ) (f r : ℕ → ℕ) : Type 0 where
  pub into : (i : ℕ) → i < end → f i < end
  pub back_into : (i : ℕ) → i < end → r i < end
  pub back : (i : ℕ) → i < end → r (f i) ≡ i
  pub forth : (i : ℕ) → i < end → f (r i) ≡ i

pub AreBack-other : (end : ℕ) (f r : ℕ → ℕ) → AreBack end f r → AreBack end r f
AreBack-other end f r are = record { into = are.back_into; back_into = are.into; back = are.forth; forth = are.back }

pub steps-lt : (end : ℕ) (f r : ℕ → ℕ) → AreBack end f r → (k x : ℕ) → x < end → steps f k x < end
steps-lt end f r are zero x small = small
steps-lt end f r are (suc k) x small = are.into (steps f k x) (steps-lt end f r are k x small)

steps-back : (end : ℕ) (f r : ℕ → ℕ) → AreBack end f r → (k x : ℕ) → x < end → steps r k (steps f k x) ≡ x
steps-back end f r are zero x small = refl
steps-back end f r are (suc k) x small =
    sym (steps-first r k (f (steps f k x))) ∙ ap (steps r k) (are.back (steps f k x) (steps-lt end f r are k x small)) ∙ steps-back end f r are k x small

-- as many steps lead back to the start as lie between two equal places
steps-between : (end : ℕ) (f r : ℕ → ℕ) → AreBack end f r → (i k s : ℕ) → s < end → steps f i s ≡ steps f (i + k) s → steps f k s ≡ s
steps-between end f r are i k s small same =
    sym (steps-back end f r are i (steps f k s) (steps-lt end f r are k s small)) ∙ ap (steps r i) (sym (steps-add f i k s)) ∙ ap (steps r i) (sym same) ∙ steps-back end f r are i s small

-- and as many against the way
round-back : (end : ℕ) (f r : ℕ → ℕ) → AreBack end f r → (k s : ℕ) → s < end → steps f k s ≡ s → steps r k s ≡ s
round-back end f r are k s small round = ap (steps r k) (sym round) ∙ steps-back end f r are k s small

same_from : (end : ℕ) (f r : ℕ → ℕ) → AreBack end f r → (i k s : ℕ) → s < end → steps f i s ≡ steps f (i + k) s → steps r i s ≡ steps r (i + k) s
same_from end f r are i k s small same =
    let round : steps r k s ≡ s = round-back end f r are k s small (steps-between end f r are i k s small same) in
    sym (steps-add r i k s ∙ ap (steps r i) round)

-- what is equal ahead is equal behind
pub same_behind : (end : ℕ) (f r : ℕ → ℕ) → AreBack end f r → (i j s : ℕ) → s < end → steps f i s ≡ steps f j s → steps r i s ≡ steps r j s
same_behind end f r are i j s small same = ⊎_elim
    (λ (less : i < j).
    let is : i + (j - i) ≡ j = omega arith in
    subst (λ n. steps r i s ≡ steps r n s) is (same_from end f r are i (j - i) s small (subst (λ n. steps f i s ≡ steps f n s) (sym is) same)))
    (λ (most : j ≤ i).
    let is : j + (i - j) ≡ i = omega arith in
    sym (subst (λ n. steps r j s ≡ steps r n s) is (same_from end f r are j (i - j) s small (subst (λ n. steps f j s ≡ steps f n s) (sym is) (sym same)))))
    (cases_lt i j)

-- where one place ahead is another one behind, it is so the other way round
pub same_across : (end : ℕ) (f r : ℕ → ℕ) → AreBack end f r → (i j s : ℕ) → s < end → steps f i s ≡ steps r j s → steps r i s ≡ steps f j s
same_across end f r are i j s small same =
    let order : i + j ≡ j + i = omega arith in
    let round : steps f (i + j) s ≡ s = ap (λ n. steps f n s) order ∙ steps-add f j i s ∙ ap (steps f j) same ∙ steps-back end r f (AreBack-other end f r are) j s small in
    ap (steps r i) (sym round ∙ steps-add f i j s) ∙ steps-back end f r are i (steps f j s) (steps-lt end f r are j s small)

-- ---- numbers that differ and lie below an end are no more than it

abbrev IsApart : (ℕ → ℕ) → ℕ → Type 0
IsApart f n = (i j : ℕ) → i < n → j < n → f i ≡ f j → i ≡ j

-- the map without one value: in its place stands the last one
abbrev without : (ℕ → ℕ) → ℕ → ℕ → ℕ → ℕ
without f value last i = if f i == value then f last else f i

without_cases : (f : ℕ → ℕ) (value last i : ℕ) → ((f i ≡ value) × (without f value last i ≡ f last)) ⊎ ((f i ≢ value) × (without f value last i ≡ f i))
without_cases f value last i = ⊎_elim
    (λ (same : f i ≡ value). inl (same, rw (eq-eqb (f i) value same) refl))
    (λ (other : f i ≢ value). inr (other, rw (ne_eqb (f i) value other) refl))
    (cases_eq (f i) value)

without-lt : (f : ℕ → ℕ) (n m i : ℕ) → ((k : ℕ) → k < suc n → f k < suc m) → IsApart f (suc n) → i < n → without f m n i < m
without-lt f n m i into one within =
    let small : f i < suc m = into i (omega arith) in
    let last : f n < suc m = into n (omega arith) in ⊎_elim
    (λ (hit : (f i ≡ m) × (without f m n i ≡ f n)). ⊎_elim
    (λ (same : f n ≡ m). let equal : i ≡ n = one i n (omega arith) (omega arith) (hit.0 ∙ sym same) in absurd (omega arith))
    (λ (other : f n ≢ m). omega (arith, hit.1))
    (cases_eq (f n) m))
    (λ (off : (f i ≢ m) × (without f m n i ≡ f i)). omega (arith, off.0, off.1))
    (without_cases f m n i)

without-apart : (f : ℕ → ℕ) (n m : ℕ) → IsApart f (suc n) → IsApart (without f m n) n
without-apart f n m one i j in_i in_j same = ⊎_elim
    (λ (hit : (f i ≡ m) × (without f m n i ≡ f n)). ⊎_elim
    (λ (hit' : (f j ≡ m) × (without f m n j ≡ f n)). one i j (omega arith) (omega arith) (hit.0 ∙ sym hit'.0))
    (λ (off : (f j ≢ m) × (without f m n j ≡ f j)). let equal : n ≡ j = one n j (omega arith) (omega arith) (sym hit.1 ∙ same ∙ off.1) in absurd (omega arith))
    (without_cases f m n j))
    (λ (off : (f i ≢ m) × (without f m n i ≡ f i)). ⊎_elim
    (λ (hit : (f j ≡ m) × (without f m n j ≡ f n)). let equal : i ≡ n = one i n (omega arith) (omega arith) (sym off.1 ∙ same ∙ hit.1) in absurd (omega arith))
    (λ (off' : (f j ≢ m) × (without f m n j ≡ f j)). one i j (omega arith) (omega arith) (sym off.1 ∙ same ∙ off'.1))
    (without_cases f m n j))
    (without_cases f m n i)

-- the pigeonhole principle
are_few : (n m : ℕ) (f : ℕ → ℕ) → ((k : ℕ) → k < n → f k < m) → IsApart f n → n ≤ m
are_few zero m f into one = omega arith
are_few (suc n) zero f into one = let none : f n < 0 = into n (omega arith) in absurd (omega arith)
are_few (suc n) (suc m) f into one = let few : n ≤ m = are_few n m (without f m n) (λ i within. without-lt f n m i into one within) (without-apart f n m one) in omega arith

-- ---- a cycle is no longer than there are numbers

pub record IsRound (f r : ℕ → ℕ) (s end long : ℕ) : Type 0 where
  pub some : 1 ≤ long
  pub few : long ≤ end
  pub ahead : steps f long s ≡ s
  pub behind : steps r long s ≡ s

return_within : (f : ℕ → ℕ) (s most : ℕ) → ((k : ℕ) × (1 ≤ k) × (k ≤ most) × (steps f k s ≡ s)) ⊎ ((k : ℕ) → 1 ≤ k → k ≤ most → steps f k s ≢ s)
return_within f s zero = inr (λ k some few same. omega arith)
return_within f s (suc most) = ⊎_elim
    (λ (found : (k : ℕ) × (1 ≤ k) × (k ≤ most) × (steps f k s ≡ s)). inl (found.0, found.1, omega (arith, found.2), found.3))
    (λ (none : (k : ℕ) → 1 ≤ k → k ≤ most → steps f k s ≢ s). ⊎_elim
    (λ (here : steps f (suc most) s ≡ s). inl (suc most, omega arith, omega arith, here))
    (λ (off : steps f (suc most) s ≢ s). inr (λ k some few same. ⊎_elim
    (λ (less : k < suc most). none k some (omega arith) same)
    (λ (at : suc most ≤ k). let is : suc most ≡ k = omega arith in off (ap (λ n. steps f n s) is ∙ same))
    (cases_lt k (suc most))))
    (cases_eq (steps f (suc most) s) s))
    (return_within f s most)

pub round_of : (end : ℕ) (f r : ℕ → ℕ) → AreBack end f r → (s : ℕ) → s < end → (long : ℕ) × IsRound f r s end long
round_of end f r are s small = ⊎_elim
    (λ (found : (k : ℕ) × (1 ≤ k) × (k ≤ end) × (steps f k s ≡ s)). (found.0, record { some = found.1; few = found.2; ahead = found.3; behind = round-back end f r are found.0 s small found.3 }))
    (λ (none : (k : ℕ) → 1 ≤ k → k ≤ end → steps f k s ≢ s).
    let apart : (i j : ℕ) → i < j → j < suc end → steps f i s ≢ steps f j s = λ i j less within same.
    let is : i + (j - i) ≡ j = omega arith in
    none (j - i) (omega arith) (omega arith) (steps-between end f r are i (j - i) s small (subst (λ n. steps f i s ≡ steps f n s) (sym is) same)) in
    let one : (i j : ℕ) → i < suc end → j < suc end → steps f i s ≡ steps f j s → i ≡ j = λ i j in_i in_j same. ⊎_elim
    (λ (less : i < j). absurd (apart i j less in_j same))
    (λ (most : j ≤ i). ⊎_elim (λ (less : j < i). absurd (apart j i less in_i (sym same))) (λ (rest : i ≤ j). let h : i ≡ j = omega arith in h) (cases_lt j i))
    (cases_lt i j) in
    let few : suc end ≤ end = are_few (suc end) end (λ k. steps f k s) (λ k within. steps-lt end f r are k s small) one in
    absurd (omega arith))
    (return_within f s end)

-- each place on the way is one of the first
pub early : (f r : ℕ → ℕ) (s end long : ℕ) → IsRound f r s end long → (i : ℕ) → (j : ℕ) × (j < long) × (steps f i s ≡ steps f j s) × (steps r i s ≡ steps r j s)
early f r s end long round zero = (0, round.some, refl, refl)
early f r s end long round (suc i) =
    let found : (j : ℕ) × (j < long) × (steps f i s ≡ steps f j s) × (steps r i s ≡ steps r j s) = early f r s end long round i in
    ⊎_elim
    (λ (less : suc found.0 < long). (suc found.0, less, ap f found.2, ap r found.3))
    (λ (most : long ≤ suc found.0).
    let is : suc found.0 ≡ long = omega (arith, found.1) in
    (0, round.some, ap f found.2 ∙ ap (λ n. steps f n s) is ∙ round.ahead, ap r found.3 ∙ ap (λ n. steps r n s) is ∙ round.behind))
    (cases_lt (suc found.0) long)

-- each place on the way has one before it
pub one_before : (f r : ℕ → ℕ) (s end long : ℕ) → IsRound f r s end long → (i : ℕ) → (k : ℕ) × (steps f i s ≡ steps f (suc k) s) × (steps r i s ≡ steps r (suc k) s)
one_before f r s end long round zero =
    let is : suc (long - 1) ≡ long = omega (arith, round.some) in
    (long - 1, sym (ap (λ n. steps f n s) is ∙ round.ahead), sym (ap (λ n. steps r n s) is ∙ round.behind))
one_before f r s end long round (suc i) = (i, refl, refl)
