-- What filters, maps and ranges contain.
use Rattle.std.proofs.Common.{◌≡◌, ℕ, zero, suc, ◌+◌, ◌<◌, subst, Bool, true, false, cond, List, [], ◌∷◌, map, refl, sym, ap, ◌∙◌, arith, inl, inr, ◌⊎◌, ⊎_elim, zero-add}
use Rattle.std.specs.Prelude.{filter, Contains}
use Rattle.std.specs.List.{range_with_len}
use Rattle.std.proofs.lemmas.List.Elements.{All-contains}
use Rattle.std.proofs.lemmas.List.FromFn.{length-range_with_len, get_or-range_with_len}
use Rattle.idx_pieces.proofs.IdLemmas.{range_below}

here : {X : Type 0} → (x : X) (xs : List X) → Contains (x ∷ xs) x
here x xs = (0, omega arith, refl)

there : {X : Type 0} → (x y : X) (xs : List X) → Contains xs y → Contains (x ∷ xs) y
there x y xs at = (suc at.0, omega (arith, at.1), at.2)

cases_of : {X : Type 0} → (x y : X) (xs : List X) → Contains (x ∷ xs) y → (x ≡ y) ⊎ Contains xs y
cases_of x y xs (zero, h, e) = inl e
cases_of x y xs (suc k, h, e) = inr (k, omega (arith, h), e)

pub filter_in : {X : Type 0} → (p : X → Bool) (xs : List X) (y : X) → Contains xs y → p y ≡ true → Contains (filter p xs) y
filter_in p [] y at passes = absurd (omega (arith, at.1))
filter_in {X} p (x ∷ xs) y at passes =
    ⊎_elim (λ same. first same) (λ more. later (filter_in p xs y more passes) (p x) refl) (cases_of x y xs at)
  where
    first : x ≡ y → Contains (filter p (x ∷ xs)) y
    first same =
        let is : p x ≡ true = ap p same ∙ passes in
        let P : X → Type 0 = λ z. Contains (filter p (x ∷ xs)) z in
        subst P same (subst (λ (t : Bool). Contains (cond t (x ∷ filter p xs) (filter p xs)) x) (sym is) (here x (filter p xs)))

    later : Contains (filter p xs) y → (t : Bool) → p x ≡ t → Contains (filter p (x ∷ xs)) y
    later more true is = subst (λ (t : Bool). Contains (cond t (x ∷ filter p xs) (filter p xs)) y) (sym is) (there x y (filter p xs) more)
    later more false is = subst (λ (t : Bool). Contains (cond t (x ∷ filter p xs) (filter p xs)) y) (sym is) more

pub filter_out : {X : Type 0} → (p : X → Bool) (xs : List X) (y : X) → Contains (filter p xs) y → Contains xs y × (p y ≡ true)
filter_out p [] y at = absurd (omega (arith, at.1))
filter_out {X} p (x ∷ xs) y at = by_test (filter_out p xs y) (p x) refl
  where
    by_test : (Contains (filter p xs) y → Contains xs y × (p y ≡ true)) → (t : Bool) → p x ≡ t → Contains (x ∷ xs) y × (p y ≡ true)
    by_test more true is =
        let found : Contains (x ∷ filter p xs) y = subst (λ (t : Bool). Contains (cond t (x ∷ filter p xs) (filter p xs)) y) is at in
        ⊎_elim
        (λ same. (subst (λ (z : X). Contains (x ∷ xs) z) same (here x xs), subst (λ (z : X). p z ≡ true) same is))
        (λ rest. let back = more rest in (there x y xs back.0, back.1))
        (cases_of x y (filter p xs) found)
    by_test more false is =
        let back = more (subst (λ (t : Bool). Contains (cond t (x ∷ filter p xs) (filter p xs)) y) is at) in
        (there x y xs back.0, back.1)

pub map_in : {X Y : Type 0} → (f : X → Y) (xs : List X) (x : X) → Contains xs x → Contains (map f xs) (f x)
map_in f [] x at = absurd (omega (arith, at.1))
map_in {X} {Y} f (y ∷ xs) x at =
    ⊎_elim (λ same. subst (λ (z : X). Contains (map f (y ∷ xs)) (f z)) same (here (f y) (map f xs))) (λ more. there (f y) (f x) (map f xs) (map_in f xs x more)) (cases_of y x xs at)

pub map_out : {X Y : Type 0} → (f : X → Y) (xs : List X) (y : Y) → Contains (map f xs) y → (x : X) × (Contains xs x × (f x ≡ y))
map_out f [] y at = absurd (omega (arith, at.1))
map_out f (x ∷ xs) y at =
    ⊎_elim (λ same. (x, (here x xs, same))) (λ more. let back = map_out f xs y more in (back.0, (there x back.0 xs back.1.0, back.1.1))) (cases_of (f x) y (map f xs) at)

pub range_in : (n k : ℕ) → k < n → Contains (range_with_len 0 n) k
range_in n k h = (k, omega (arith, length-range_with_len 0 n), get_or-range_with_len 0 n k k h ∙ zero-add k)

pub range_out : (n k : ℕ) → Contains (range_with_len 0 n) k → k < n
range_out n k at = omega (arith, All-contains (λ (x : ℕ). x < 0 + n) (range_with_len 0 n) k (range_below 0 n) at)
