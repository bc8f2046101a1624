-- What changes to lists keep.
use Rattle.std.proofs.Common.{◌≡◌, ℕ, zero, suc, ◌+◌, inl, inr, Bool, true, false, not, ◌&&◌, ◌||◌, cond, nat_eq, List, [], ◌∷◌, ◌++◌, map, take, get_or, filter, find, slice_get, slice_set, Some, None, refl, sym, ap, ◌∙◌, subst, add-one}
use Rattle.std.specs.List.{AllByRecursion, list_all}
use Rattle.std.specs.Cmp.{IsEquivalence}
use Rattle.std.specs.Cmp.Derive.{both_true}
use Rattle.std.proofs.lemmas.Bool.{eqb-true, eq-eqb, false≢true}
use Rattle.std.proofs.lemmas.Cmp.{nat_eq_equiv}
use Rattle.std.proofs.lemmas.Option.{same_Some}
use Rattle.std.proofs.lemmas.List.Folds.{list_any-append}
use Rattle.idx_events.specs.Lists.{has, has_pair, pair_eq, joined, AnyOf, change_first}

pub both : (a b : Bool) → (a && b) ≡ true → (a ≡ true) × (b ≡ true)
both true true h = (refl, refl)
both true false h = (refl, h)
both false b h = absurd (false≢true h)

pub not-true : (a : Bool) → not a ≡ true → a ≡ false
not-true true h = absurd (false≢true h)
not-true false h = refl

pub clash : {b : Bool} → b ≡ true → b ≡ false → ⊥
clash t f = false≢true (sym f ∙ t)

pub or-left : (a b : Bool) → a ≡ true → (a || b) ≡ true
or-left a b h = ap (λ c. c || b) h

module _ {X : Type 0} where
  pub no_Some : {P : Type 0} (x : X) → None ≡ Some x → P
  no_Some x h = cc

  pub Each-weaker : (P Q : X → Type 0) → ((x : X) → P x → Q x) → (xs : List X) → AllByRecursion P xs → AllByRecursion Q xs
  Each-weaker P Q f [] a = tt
  Each-weaker P Q f (x ∷ xs) a = (f x a.0, Each-weaker P Q f xs a.1)

  pub Each-always : (P : X → Type 0) → ((x : X) → P x) → (xs : List X) → AllByRecursion P xs
  Each-always P f [] = tt
  Each-always P f (x ∷ xs) = (f x, Each-always P f xs)

  pub Each-both : (P Q R : X → Type 0) → ((x : X) → P x → Q x → R x) → (xs : List X) → AllByRecursion P xs → AllByRecursion Q xs → AllByRecursion R xs
  Each-both P Q R f [] a b = tt
  Each-both P Q R f (x ∷ xs) a b = (f x a.0 b.0, Each-both P Q R f xs a.1 b.1)

  pub Each-append : (P : X → Type 0) → (xs ys : List X) → AllByRecursion P xs → AllByRecursion P ys → AllByRecursion P (xs ++ ys)
  Each-append P [] ys a b = b
  Each-append P (x ∷ xs) ys a b = (a.0, Each-append P xs ys a.1 b)

  pub Each-snoc : (P : X → Type 0) → (xs : List X) (y : X) → AllByRecursion P xs → P y → AllByRecursion P (xs ++ y ∷ [])
  Each-snoc P xs y a b = Each-append P xs (y ∷ []) a (b, tt)

  pub Each-left : (P : X → Type 0) → (xs ys : List X) → AllByRecursion P (xs ++ ys) → AllByRecursion P xs
  Each-left P [] ys a = tt
  Each-left P (x ∷ xs) ys a = (a.0, Each-left P xs ys a.1)

  pub Each-right : (P : X → Type 0) → (xs ys : List X) → AllByRecursion P (xs ++ ys) → AllByRecursion P ys
  Each-right P [] ys a = a
  Each-right P (x ∷ xs) ys a = Each-right P xs ys a.1

  pub Each-take : (P : X → Type 0) → (n : ℕ) (xs : List X) → AllByRecursion P xs → AllByRecursion P (take n xs)
  Each-take P zero xs a = tt
  Each-take P (suc n) [] a = tt
  Each-take P (suc n) (x ∷ xs) a = (a.0, Each-take P n xs a.1)

  pub Each-filter : (P : X → Type 0) (test : X → Bool) → (xs : List X) → AllByRecursion P xs → AllByRecursion P (filter test xs)
  Each-filter P test [] a = tt
  Each-filter P test (x ∷ xs) a = elim (test x) as (λ b. AllByRecursion P (cond b (x ∷ filter test xs) (filter test xs))) [
    | true ↦ (a.0, Each-filter P test xs a.1)
    | false ↦ Each-filter P test xs a.1
  ]

  pub Each-at : (P : X → Type 0) → (xs : List X) (n : ℕ) (x : X) → AllByRecursion P xs → slice_get xs n ≡ Some x → P x
  Each-at P [] n x a h = no_Some x h
  Each-at P (y ∷ ys) zero x a h = subst P (same_Some y x h) a.0
  Each-at P (y ∷ ys) (suc n) x a h = Each-at P ys n x a.1 h

  pub Each-or : (P : X → Type 0) (d : X) → P d → (xs : List X) (n : ℕ) → AllByRecursion P xs → P (get_or xs n d)
  Each-or P d p [] n a = p
  Each-or P d p (x ∷ xs) zero a = a.0
  Each-or P d p (x ∷ xs) (suc n) a = Each-or P d p xs n a.1

  pub Each-set : (P : X → Type 0) → (xs : List X) (n : ℕ) (x : X) → AllByRecursion P xs → P x → AllByRecursion P (slice_set xs n x)
  Each-set P [] n x a p = tt
  Each-set P (y ∷ ys) zero x a p = (p, a.1)
  Each-set P (y ∷ ys) (suc n) x a p = (a.0, Each-set P ys n x a.1 p)

  pub all-weaker : (p q : X → Bool) → ((x : X) → p x ≡ true → q x ≡ true) → (xs : List X) → list_all p xs ≡ true → list_all q xs ≡ true
  all-weaker p q f [] h = refl
  all-weaker p q f (x ∷ xs) h = let hs = both (p x) (list_all p xs) h in both_true (f x hs.0) (all-weaker p q f xs hs.1)

  -- the first that passes a test, and the list with that one changed
  module _ (test : X → Bool) where
    pub found-passes : (xs : List X) (x : X) → find test xs ≡ Some x → test x ≡ true
    found-passes [] x h = no_Some x h
    found-passes (y ∷ ys) x h = (elim (test y) as (λ b. test y ≡ b → cond b (Some y) (find test ys) ≡ Some x → test x ≡ true) [
      | true ↦ λ e k. subst (λ z. test z ≡ true) (same_Some y x k) e
      | false ↦ λ e k. found-passes ys x k
    ]) refl h

    pub Each-found : (P : X → Type 0) → (xs : List X) (x : X) → AllByRecursion P xs → find test xs ≡ Some x → P x
    Each-found P [] x a h = no_Some x h
    Each-found P (y ∷ ys) x a h = (elim (test y) as (λ b. cond b (Some y) (find test ys) ≡ Some x → P x) [
      | true ↦ λ k. subst P (same_Some y x k) a.0
      | false ↦ λ k. Each-found P ys x a.1 k
    ]) h

    module _ (f : X → X) where
      pub Each-change : (P : X → Type 0) → (xs : List X) (x : X) → AllByRecursion P xs → find test xs ≡ Some x → P (f x) → AllByRecursion P (change_first test f xs)
      Each-change P [] x a h p = tt
      Each-change P (y ∷ ys) x a h p = (elim (test y) as (λ b. cond b (Some y) (find test ys) ≡ Some x → AllByRecursion P (cond b (f y ∷ ys) (y ∷ change_first test f ys))) [
        | true ↦ λ k. (subst (λ z. P (f z)) (sym (same_Some y x k)) p, a.1)
        | false ↦ λ k. (a.0, Each-change P ys x a.1 k p)
      ]) h

      pub map-change : {Y : Type 0} (g : X → Y) → (xs : List X) (x : X) → find test xs ≡ Some x → g (f x) ≡ g x → map g (change_first test f xs) ≡ map g xs
      map-change g [] x h p = refl
      map-change g (y ∷ ys) x h p = (elim (test y) as (λ b. cond b (Some y) (find test ys) ≡ Some x → map g (cond b (f y ∷ ys) (y ∷ change_first test f ys)) ≡ map g (y ∷ ys)) [
        | true ↦ λ k. ap (λ z. z ∷ map g ys) (subst (λ z. g (f z) ≡ g z) (sym (same_Some y x k)) p)
        | false ↦ λ k. ap (λ l. g y ∷ l) (map-change g ys x k p)
      ]) h

      pub AnyOf-change : (P Q : X → Type 0) → (xs : List X) (x : X) → AnyOf P xs → find test xs ≡ Some x → (P x → Q (f x)) → ((y : X) → P y → Q y) → AnyOf Q (change_first test f xs)
      AnyOf-change P Q [] x a h p q = a
      AnyOf-change P Q (y ∷ ys) x a h p q = (elim (test y) as (λ b. cond b (Some y) (find test ys) ≡ Some x → AnyOf Q (cond b (f y ∷ ys) (y ∷ change_first test f ys))) [
        | true ↦ λ k. elim a [
          | inl here ↦ inl (subst (λ z. P z → Q (f z)) (sym (same_Some y x k)) p here)
          | inr there ↦ inr (AnyOf-weaker ys there)
        ]
        | false ↦ λ k. elim a [
          | inl here ↦ inl (q y here)
          | inr there ↦ inr (AnyOf-change P Q ys x there k p q)
        ]
      ]) h
        where
          AnyOf-weaker : (zs : List X) → AnyOf P zs → AnyOf Q zs
          AnyOf-weaker [] b = b
          AnyOf-weaker (z ∷ zs) b = elim b [ inl here ↦ inl (q z here) | inr there ↦ inr (AnyOf-weaker zs there) ]

  pub AnyOf-each : (P Q R : X → Type 0) → ((x : X) → P x → Q x → R x) → (xs : List X) → AnyOf P xs → AllByRecursion Q xs → AnyOf R xs
  AnyOf-each P Q R f [] a b = a
  AnyOf-each P Q R f (x ∷ xs) a b = elim a [ inl here ↦ inl (f x here b.0) | inr there ↦ inr (AnyOf-each P Q R f xs there b.1) ]

  -- one of a list is one of those that pass a test
  pub AnyOf-filter : (P : X → Type 0) (test : X → Bool) → (xs : List X) → AnyOf P (filter test xs) → AnyOf (λ x. (test x ≡ true) × P x) xs
  AnyOf-filter P test [] a = a
  AnyOf-filter P test (x ∷ xs) a = (elim (test x) as (λ b. test x ≡ b → AnyOf P (cond b (x ∷ filter test xs) (filter test xs)) → AnyOf (λ y. (test y ≡ true) × P y) (x ∷ xs)) [
    | true ↦ λ e k. elim k [ inl here ↦ inl (e, here) | inr there ↦ inr (AnyOf-filter P test xs there) ]
    | false ↦ λ e k. inr (AnyOf-filter P test xs k)
  ]) refl a

  -- what stands at a place and passes a test is one of those that pass it
  pub AnyOf-at : (test : X → Bool) → (xs : List X) (n : ℕ) (x : X) → slice_get xs n ≡ Some x → test x ≡ true → AnyOf (λ y. y ≡ x) (filter test xs)
  AnyOf-at test [] n x h t = no_Some x h
  AnyOf-at test (y ∷ ys) zero x h t = subst (λ z. AnyOf (λ w. w ≡ x) (filter test (z ∷ ys))) (sym (same_Some y x h)) (rw t (inl refl))
  AnyOf-at test (y ∷ ys) (suc n) x h t = elim (test y) as (λ b. AnyOf (λ w. w ≡ x) (cond b (y ∷ filter test ys) (filter test ys))) [
    | true ↦ inr (AnyOf-at test ys n x h t)
    | false ↦ AnyOf-at test ys n x h t
  ]

  -- nothing passes
  pub filter-none : (test : X → Bool) → (xs : List X) → AllByRecursion (λ x. test x ≡ false) xs → filter test xs ≡ []
  filter-none test [] a = refl
  filter-none test (x ∷ xs) a = ap (λ b. cond b (x ∷ filter test xs) (filter test xs)) a.0 ∙ filter-none test xs a.1

  -- a change of one that passes neither before nor after changes nothing of those that pass
  pub filter-change : (test : X → Bool) (f : X → X) (p : X → Bool) → (xs : List X) (x : X) → find test xs ≡ Some x → p x ≡ false → p (f x) ≡ false → filter p (change_first test f xs) ≡ filter p xs
  filter-change test f p [] x h was is = refl
  filter-change test f p (y ∷ ys) x h was is = (elim (test y) as (λ b. cond b (Some y) (find test ys) ≡ Some x → filter p (cond b (f y ∷ ys) (y ∷ change_first test f ys)) ≡ filter p (y ∷ ys)) [
    | true ↦ λ k.
        ap (λ b. cond b (f y ∷ filter p ys) (filter p ys)) (subst (λ z. p (f z) ≡ false) (sym (same_Some y x k)) is)
        ∙ sym (ap (λ b. cond b (y ∷ filter p ys) (filter p ys)) (subst (λ z. p z ≡ false) (sym (same_Some y x k)) was))
    | false ↦ λ k. ap (λ l. cond (p y) (y ∷ l) l) (filter-change test f p ys x k was is)
  ]) h

  pub map-agree : {Y : Type 0} (f g : X → Y) (xs : List X) → AllByRecursion (λ x. f x ≡ g x) xs → map f xs ≡ map g xs
  map-agree f g [] a = refl
  map-agree f g (x ∷ xs) a = ap (λ y. y ∷ map f xs) a.0 ∙ ap (λ l. g x ∷ l) (map-agree f g xs a.1)

  pub filter-agree : (p q : X → Bool) (xs : List X) → AllByRecursion (λ x. p x ≡ q x) xs → filter p xs ≡ filter q xs
  filter-agree p q [] a = refl
  filter-agree p q (x ∷ xs) a = ap (λ b. cond b (x ∷ filter p xs) (filter p xs)) a.0 ∙ ap (λ l. cond (q x) (x ∷ l) l) (filter-agree p q xs a.1)

module _ {X Y : Type 0} (f : X → Y) where
  pub Each-map : (P : Y → Type 0) → (xs : List X) → AllByRecursion (λ x. P (f x)) xs → AllByRecursion P (map f xs)
  Each-map P [] a = tt
  Each-map P (x ∷ xs) a = (a.0, Each-map P xs a.1)

  pub AnyOf-unmap : (P : Y → Type 0) → (xs : List X) → AnyOf P (map f xs) → AnyOf (λ x. P (f x)) xs
  AnyOf-unmap P [] a = a
  AnyOf-unmap P (x ∷ xs) a = elim a [ inl here ↦ inl here | inr there ↦ inr (AnyOf-unmap P xs there) ]

  pub Each-unmap : (P : Y → Type 0) → (xs : List X) → AllByRecursion P (map f xs) → AllByRecursion (λ x. P (f x)) xs
  Each-unmap P [] a = tt
  Each-unmap P (x ∷ xs) a = (a.0, Each-unmap P xs a.1)

  pub map-map : {Z : Type 0} (g : Y → Z) (xs : List X) → map g (map f xs) ≡ map (λ x. g (f x)) xs
  map-map g [] = refl
  map-map g (x ∷ xs) = ap (λ l. g (f x) ∷ l) (map-map g xs)

pub pair_eq-same : (a b : ℕ × ℕ) → pair_eq a b ≡ true → a ≡ b
pair_eq-same a b h =
    let hs = both (nat_eq a.0 b.0) (nat_eq a.1 b.1) h in
    let first : a.0 ≡ b.0 = eqb-true a.0 b.0 hs.0 in
    let second : a.1 ≡ b.1 = eqb-true a.1 b.1 hs.1 in
    ap (λ n. (n, a.1)) first ∙ ap (λ n. (b.0, n)) second

pub pair_laws : IsEquivalence pair_eq
pair_laws = record {
  refl = λ a. both_true (eq-eqb a.0 a.0 refl) (eq-eqb a.1 a.1 refl);
  symm = λ x y. ap (λ b. b && nat_eq x.1 y.1) (nat_eq_equiv.symm x.0 y.0) ∙ ap (λ b. nat_eq y.0 x.0 && b) (nat_eq_equiv.symm x.1 y.1);
  congr = λ x y z same. ap (λ p. pair_eq p z) (pair_eq-same x y same);
}

pub has_pair-more : (p : ℕ × ℕ) (ps qs : List (ℕ × ℕ)) → has_pair p ps ≡ true → has_pair p (ps ++ qs) ≡ true
has_pair-more p ps qs h = list_any-append (pair_eq p) ps qs ∙ or-left (has_pair p ps) (has_pair p qs) h

or-false : (b : Bool) → (b || false) ≡ b
or-false true = refl
or-false false = refl

pub has_pair-snoc : (p q : ℕ × ℕ) (ps : List (ℕ × ℕ)) → has_pair p (ps ++ q ∷ []) ≡ (has_pair p ps || pair_eq p q)
has_pair-snoc p q ps = list_any-append (pair_eq p) ps (q ∷ []) ∙ ap (λ b. has_pair p ps || b) (or-false (pair_eq p q))

-- ---- which numbers stand in a list

pub has-append : (b : ℕ) (xs ys : List ℕ) → has b (xs ++ ys) ≡ (has b xs || has b ys)
has-append b xs ys = list_any-append (nat_eq b) xs ys

or-and : (u v w : Bool) → (v ≡ true → w ≡ true) → (v || (u && w)) ≡ ((v || u) && w)
or-and u true w f = sym (f refl)
or-and u false w f = refl

or-skip : (u v w : Bool) → (v ≡ true → w ≡ false) → (u && w) ≡ ((v || u) && w)
or-skip true true w f = refl
or-skip false true w f = sym (f refl)
or-skip u false w f = refl

pub has-filter : (b : ℕ) (p : ℕ → Bool) (xs : List ℕ) → has b (filter p xs) ≡ (has b xs && p b)
has-filter b p [] = refl
has-filter b p (x ∷ xs) = (elim (p x) as (λ u. p x ≡ u → has b (cond u (x ∷ filter p xs) (filter p xs)) ≡ ((nat_eq b x || has b xs) && p b)) [
  | true ↦ λ e. ap (λ c. nat_eq b x || c) (has-filter b p xs) ∙ or-and (has b xs) (nat_eq b x) (p b) (λ k. ap p (eqb-true b x k) ∙ e)
  | false ↦ λ e. has-filter b p xs ∙ or-skip (has b xs) (nat_eq b x) (p b) (λ k. ap p (eqb-true b x k) ∙ e)
]) refl

or-assoc : (a b c : Bool) → ((a || b) || c) ≡ (a || (b || c))
or-assoc true b c = refl
or-assoc false b c = refl

has_joined : (b : ℕ) (n : ℕ) (rs : List (List ℕ)) → has b (joined (take (suc n) rs)) ≡ (has b (joined (take n rs)) || has b (get_or rs n []))
has_joined b zero [] = refl
has_joined b (suc n) [] = refl
has_joined b zero (r ∷ rs) = has-append b r [] ∙ or-false (has b r)
has_joined b (suc n) (r ∷ rs) =
    has-append b r (joined (take (suc n) rs)) ∙ ap (λ c. has b r || c) (has_joined b n rs)
    ∙ sym (or-assoc (has b r) (has b (joined (take n rs))) (has b (get_or rs n [])))
    ∙ ap (λ c. c || has b (get_or rs n [])) (sym (has-append b r (joined (take n rs))))

pub has-joined_more : (b : ℕ) (n : ℕ) (rs : List (List ℕ)) → has b (joined (take (n + 1) rs)) ≡ (has b (joined (take n rs)) || has b (get_or rs n []))
has-joined_more b n rs = rw add-one (has_joined b n rs)

pub has-snoc : (b n : ℕ) (xs : List ℕ) → has b (xs ++ n ∷ []) ≡ (has b xs || nat_eq b n)
has-snoc b n xs = has-append b xs (n ∷ []) ∙ ap (λ c. has b xs || c) (or-false (nat_eq b n))

pub none-there : (xs : List ℕ) → ((b : ℕ) → has b xs ≡ false) → xs ≡ []
none-there [] h = refl
none-there (x ∷ xs) h = absurd (clash (or-left (nat_eq x x) (has x xs) (eq-eqb x x refl)) (h x))

or-right : (a b : Bool) → b ≡ true → (a || b) ≡ true
or-right true b h = refl
or-right false b h = h

pub Each-itself : (xs : List ℕ) → AllByRecursion (λ b. has b xs ≡ true) xs
Each-itself [] = tt
Each-itself (x ∷ xs) =
    (or-left (nat_eq x x) (has x xs) (eq-eqb x x refl), Each-weaker (λ b. has b xs ≡ true) (λ b. has b (x ∷ xs) ≡ true) (λ b. or-right (nat_eq b x) (has b xs)) xs (Each-itself xs))

-- a list that a filter made, made again by what stands in it
pub filter-again : (p : ℕ → Bool) (xs : List ℕ) → filter p xs ≡ filter (λ b. has b (filter p xs)) xs
filter-again p xs = filter-agree p (λ b. has b (filter p xs)) xs
    (Each-weaker (λ b. has b xs ≡ true) (λ b. p b ≡ has b (filter p xs)) (λ b h. sym (has-filter b p xs ∙ ap (λ c. c && p b) h)) xs (Each-itself xs))
