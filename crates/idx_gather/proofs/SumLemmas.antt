-- Sums over lists, and over numbers of which each comes once.
use Rattle.std.proofs.Common.{◌≡◌, ℕ, zero, suc, ◌+◌, ◌*◌, ◌<◌, ◌≤◌, Bool, true, false, cond, List, [], ◌∷◌, length, take, get_or, refl, sym, ap, ◌∙◌, arith, eq-eqb, eqb-true, ne_eqb}
use Rattle.std.specs.Prelude.{◌==◌, ◌||◌, All, Contains}
use Rattle.std.specs.List.{list_any, sum_by}
use Rattle.std.proofs.lemmas.List.{take_all}
use Rattle.std.proofs.lemmas.List.Elements.{All-contains, All-head, All-tail}
use Rattle.std.proofs.lemmas.List.Folds.{list_any_more}
use Rattle.std.proofs.lemmas.List.Sums.{sum_by-cons, sum_by_more}
use Rattle.idx_ranks.proofs.ListLemmas.{Rises}

-- ---- sums of the same, of sums and of products

pub sum_same : {X : Type 0} (f g : X → ℕ) (xs : List X) → All (λ x. f x ≡ g x) xs → sum_by f xs ≡ sum_by g xs
sum_same f g [] all = refl
sum_same f g (x ∷ xs) all =
    omega (arith, sum_by-cons f x xs, sum_by-cons g x xs, All-head (λ y. f y ≡ g y) x xs all, sum_same f g xs (All-tail (λ y. f y ≡ g y) x xs all))

pub sum_plus : {X : Type 0} (f g : X → ℕ) (xs : List X) → sum_by (λ x. f x + g x) xs ≡ sum_by f xs + sum_by g xs
sum_plus f g [] = refl
sum_plus f g (x ∷ xs) = omega (arith, sum_by-cons (λ y. f y + g y) x xs, sum_by-cons f x xs, sum_by-cons g x xs, sum_plus f g xs)

times_plus : (n a b : ℕ) → n * (a + b) ≡ n * a + n * b
times_plus n a b = omega arith

pub sum_times : {X : Type 0} (n : ℕ) (f : X → ℕ) (xs : List X) → sum_by (λ x. n * f x) xs ≡ n * sum_by f xs
sum_times n f [] = omega arith
sum_times n f (x ∷ xs) =
    sum_by-cons (λ y. n * f y) x xs
    ∙ ap (λ (k : ℕ). n * f x + k) (sum_times n f xs)
    ∙ sym (ap (λ (k : ℕ). n * k) (sum_by-cons f x xs) ∙ times_plus n (f x) (sum_by f xs))

pub sum_none : {X : Type 0} (f : X → ℕ) (xs : List X) → All (λ x. f x ≡ 0) xs → sum_by f xs ≡ 0
sum_none f [] all = refl
sum_none f (x ∷ xs) all =
    omega (arith, sum_by-cons f x xs, All-head (λ y. f y ≡ 0) x xs all, sum_none f xs (All-tail (λ y. f y ≡ 0) x xs all))

-- ---- sums over numbers that rise

module _ (f : ℕ → ℕ) where
  -- what a number has where it is this one
  abbrev pub only : ℕ → ℕ → ℕ
  only x y = cond (x == y) (f y) 0

  only_other : (x y : ℕ) → (x ≡ y → ⊥) → only x y ≡ 0
  only_other x y other = ap (λ (b : Bool). cond b (f y) 0) (ne_eqb x y other)

  only_itself : (x y : ℕ) → x ≡ y → only x y ≡ f x
  only_itself x y same = ap (λ (b : Bool). cond b (f y) 0) (eq-eqb x y same) ∙ ap f (sym same)

  -- one of them has a share of the sum, once
  pub sum_only : (x : ℕ) (ys : List ℕ) → Rises ys → Contains ys x → sum_by (only x) ys ≡ f x
  sum_only x [] rises at = absurd (omega (arith, at.1))
  sum_only x (y ∷ ys) rises (zero, inside, same) =
      let is : y ≡ x = same in
      let here : only x y ≡ f x = only_itself x y (sym is) in
      let rest : sum_by (only x) ys ≡ 0 = sum_none (only x) ys (λ k d lt. only_other x (get_or ys k d) (λ e. absurd (omega (arith, rises.0 k d lt, is, e)))) in
      omega (arith, sum_by-cons (only x) y ys, here, rest)
  sum_only x (y ∷ ys) rises (suc k, inside, same) =
      let at : Contains ys x = (k, omega (arith, inside), same) in
      let above : y < x = All-contains (λ z. y < z) ys x rises.0 at in
      let here : only x y ≡ 0 = only_other x y (λ e. absurd (omega (arith, above, e))) in
      omega (arith, sum_by-cons (only x) y ys, here, sum_only x ys rises.1 at)

  module _ {X : Type 0} (key : X → ℕ) (ys : List ℕ) (rises : Rises ys) where
    -- some of these has this number
    abbrev pub has : List X → ℕ → Bool
    has xs y = list_any (λ x. key x == y) xs

    abbrev taken : List X → ℕ → ℕ
    taken xs y = cond (has xs y) (f y) 0

    apart : (v : ℕ) (a b : Bool) → (b ≡ true → a ≡ false) → cond (a || b) v 0 ≡ cond a v 0 + cond b v 0
    apart v true true other = let wrong : true ≡ false = other refl in absurd (cc)
    apart v true false other = omega arith
    apart v false true other = omega arith
    apart v false false other = omega arith

    one_more : (xs : List X) (i : ℕ) (d : X) → i < length xs → Contains ys (key (get_or xs i d)) → has (take i xs) (key (get_or xs i d)) ≡ false →
        sum_by (taken (take (i + 1) xs)) ys ≡ sum_by (taken (take i xs)) ys + f (key (get_or xs i d))
    one_more xs i d lt among new =
        let x : ℕ = key (get_or xs i d) in
        sum_same (taken (take (i + 1) xs)) (λ y. taken (take i xs) y + only x y) ys (λ k e within. each (get_or ys k e))
        ∙ sum_plus (taken (take i xs)) (only x) ys
        ∙ ap (λ (k : ℕ). sum_by (taken (take i xs)) ys + k) (sum_only x ys rises among)
      where
        each : (y : ℕ) → taken (take (i + 1) xs) y ≡ taken (take i xs) y + only (key (get_or xs i d)) y
        each y =
            ap (λ (b : Bool). cond b (f y) 0) (list_any_more (λ z. key z == y) xs i d lt)
            ∙ apart (f y) (has (take i xs) y) (key (get_or xs i d) == y)
            (λ is. ap (has (take i xs)) (sym (eqb-true (key (get_or xs i d)) y is)) ∙ new)

    module _ (xs : List X) (d : X) (among : All (λ x. Contains ys (key x)) xs)
        (new : (i : ℕ) → i < length xs → has (take i xs) (key (get_or xs i d)) ≡ false) where
      so_far : (n : ℕ) → n ≤ length xs → sum_by (λ x. f (key x)) (take n xs) ≡ sum_by (taken (take n xs)) ys
      so_far zero few = sym (sum_none (λ y. 0) ys (λ k e lt. refl))
      so_far (suc n) few =
          let next : suc n ≡ n + 1 = omega arith in
          let lt : n < length xs = omega (arith, few) in
          ap (λ (k : ℕ). sum_by (λ x. f (key x)) (take k xs)) next
          ∙ sum_by_more (λ x. f (key x)) xs n d lt
          ∙ ap (λ (k : ℕ). k + f (key (get_or xs n d))) (so_far n (omega (arith, few)))
          ∙ sym (one_more xs n d lt (among n d lt) (new n lt))
          ∙ ap (λ (k : ℕ). sum_by (taken (take k xs)) ys) (sym next)

      -- where each of the rising numbers is had, and by one, the sum over those that have them is that over the numbers
      pub sum_had : All (λ y. has xs y ≡ true) ys → sum_by (λ x. f (key x)) xs ≡ sum_by f ys
      sum_had all =
          let whole : take (length xs) xs ≡ xs = take_all (length xs) xs (omega arith) in
          ap (sum_by (λ x. f (key x))) (sym whole)
          ∙ so_far (length xs) (omega arith)
          ∙ ap (λ (zs : List X). sum_by (taken zs) ys) whole
          ∙ sum_same (taken xs) f ys (λ k e lt. ap (λ (b : Bool). cond b (f (get_or ys k e)) 0) (all k e lt))
