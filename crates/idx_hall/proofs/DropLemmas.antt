-- What is left of a cache where the pairs of some keys go behind the others, and are dropped there.
use Rattle.std.proofs.Common.{◌≡◌, ℕ, zero, suc, ◌-◌, ◌+◌, ◌≤◌, Bool, true, false, not, cond, List, [], ◌∷◌, ◌++◌, length, take, filter, refl, sym, ap, ◌∙◌, arith, append_assoc, length-append, Some, reverse, nat_eq}
use Rattle.std.specs.Prelude.{slice_get}
use Rattle.std.specs.List.{IsDistinct, AllByRecursion}
use Rattle.std.proofs.lemmas.Option.{same_Some}
use Rattle.std.specs.Option.{option_map_or}
use Rattle.std.specs.Map.{lookup_entry, remove_entry, keys_of}
use Rattle.std.specs.Cmp.{IsEquivalence}
use Rattle.std.proofs.lemmas.List.{length-reverse, length-take, reverse-append}
use Rattle.std.proofs.lemmas.List.Elements.{filter-append}
use Rattle.std.proofs.lemmas.Map.Keys.{IsDistinct-head, IsDistinct-tail}
use Rattle.std.proofs.lemmas.Map.Made.{IsDistinct-keys_filter}
use Rattle.idx_cache.specs.Cached.{Cached, IsBounded, cached, kept_after_evict, raise_all, raised}
use Rattle.idx_cache.proofs.Lists.{raise_all-append}
use Rattle.idx_hall.proofs.KeyLemmas.{name_laws}
use Rattle.idx_hall.proofs.NewestLemmas.{nothing_at}
use Rattle.idx_hall.specs.Hall.{name_eq, of_other_times}
use Rattle.idx_hall.specs.declared.block_name.BlockName.{BlockName}

length-filter_most : {X : Type 0} (p : X → Bool) (xs : List X) → length (filter p xs) ≤ length xs
length-filter_most p [] = omega arith
length-filter_most p (x ∷ xs) = elim (p x) as (λ b. length (cond b (x ∷ filter p xs) (filter p xs)) ≤ suc (length xs)) [
  | true ↦ omega (arith, length-filter_most p xs)
  | false ↦ omega (arith, length-filter_most p xs)
]

-- a cache stays one without the blocks of a time
pub bounded-others : (time : ℕ) (c : Cached BlockName (List ℕ)) → IsBounded name_eq c → IsBounded name_eq (cached (of_other_times time c.pairs) c.cap)
bounded-others time c b = record {
  apart = IsDistinct-keys_filter name_eq (λ pair. not (nat_eq pair.0.key.time time)) c.pairs b.apart;
  fits = omega (arith, length-filter_most (λ pair. not (nat_eq pair.0.key.time time)) c.pairs, b.fits);
  some = b.some;
}

length-filter_more : {X : Type 0} (p : X → Bool) (x : X) (xs back : List X) → length (filter p back) ≡ length (filter p xs) → length (filter p back) + length (filter p (x ∷ [])) ≡ length (filter p (x ∷ xs))
length-filter_more p x xs back same = elim (p x) as (λ b. length (filter p back) + length (cond b (x ∷ []) []) ≡ length (cond b (x ∷ filter p xs) (filter p xs))) [
  | true ↦ omega (arith, same)
  | false ↦ omega (arith, same)
]

length-filter_reverse : {X : Type 0} (p : X → Bool) (xs : List X) → length (filter p (reverse xs)) ≡ length (filter p xs)
length-filter_reverse p [] = refl
length-filter_reverse p (x ∷ xs) =
    ap (λ l. length (filter p l)) (reverse-append (x ∷ []) xs)
    ∙ (ap length (filter-append p (reverse xs) (x ∷ []))
    ∙ (length-append (filter p (reverse xs)) (filter p (x ∷ []))
    ∙ length-filter_more p x xs (reverse xs) (length-filter_reverse p xs)))

take_whole : {X : Type 0} (xs : List X) → take (length xs) xs ≡ xs
take_whole [] = refl
take_whole (x ∷ xs) = ap (λ l. x ∷ l) (take_whole xs)

take_first : {X : Type 0} (xs ys : List X) → take (length xs) (xs ++ ys) ≡ xs
take_first [] ys = refl
take_first (x ∷ xs) ys = ap (λ l. x ∷ l) (take_first xs ys)

none_before : {K : Type 0} (V : Type 0) (E : K → K → Bool) (ks : List K) → AllByRecursion (λ z. AllByRecursion (λ y. E z y ≡ false) (keys_of {K = K} {X = V} [])) ks
none_before V E [] = tt
none_before V E (z ∷ ks) = (tt, none_before V E ks)

module _ {K V : Type 0} {E : K → K → Bool} (laws : IsEquivalence E) where
  -- no pair has the key
  abbrev Apart : K → List (K × V) → Type 0
  Apart k ps = AllByRecursion (λ z. E k z ≡ false) (keys_of ps)

  apart_both : (k : K) (a b : List (K × V)) → Apart k a → Apart k b → Apart k (a ++ b)
  apart_both k [] b x y = y
  apart_both k (e ∷ a) b x y = (x.0, apart_both k a b x.1 y)

  apart_filter : (k : K) (p : K × V → Bool) (ps : List (K × V)) → Apart k ps → Apart k (filter p ps)
  apart_filter k p [] x = x
  apart_filter k p (e ∷ ps) x = elim (p e) as (λ b. Apart k (cond b (e ∷ filter p ps) (filter p ps))) [
    | true ↦ (x.0, apart_filter k p ps x.1)
    | false ↦ apart_filter k p ps x.1
  ]

  entry_behind : (a : List (K × V)) (x : K × V) (b : List (K × V)) → Apart x.0 a → lookup_entry (E x.0) (a ++ x ∷ b) ≡ Some x
  entry_behind [] x b h = rw (laws.refl x.0) refl
  entry_behind (e ∷ a) x b h = rw h.0 (entry_behind a x b h.1)

  removed_behind : (a : List (K × V)) (x : K × V) (b : List (K × V)) → Apart x.0 a → remove_entry (E x.0) (a ++ x ∷ b) ≡ a ++ b
  removed_behind [] x b h = rw (laws.refl x.0) refl
  removed_behind (e ∷ a) x b h = rw h.0 (ap (λ l. e ∷ l) (removed_behind a x b h.1))

  -- a pair behind those of other keys goes to the front
  raised_behind : (a : List (K × V)) (x : K × V) (b : List (K × V)) → Apart x.0 a → raised E x.0 (a ++ x ∷ b) ≡ x ∷ (a ++ b)
  raised_behind a x b h =
      ap (λ o. option_map_or (λ p. p ∷ remove_entry (E x.0) (a ++ x ∷ b)) o (a ++ x ∷ b)) (entry_behind a x b h)
      ∙ ap (λ l. x ∷ l) (removed_behind a x b h)

  -- no pair of the first list has a key of the second
  abbrev AreApart : List (K × V) → List K → Type 0
  AreApart a ks = AllByRecursion (λ z. Apart z a) ks

  apart_more : (a : List (K × V)) (x : K × V) (ks : List K) → AreApart a ks → AllByRecursion (λ z. E x.0 z ≡ false) ks → AreApart (a ++ x ∷ []) ks
  apart_more a x [] h other = tt
  apart_more a x (z ∷ ks) h other = (apart_both z a (x ∷ []) h.0 (laws.symm z x.0 ∙ other.0, tt), apart_more a x ks h.1 other.1)

  module _ (stays : K → Bool) where
    abbrev kept : List (K × V) → List (K × V)
    kept ps = filter (λ p. stays p.0) ps

    abbrev gone : List (K × V) → List (K × V)
    gone ps = filter (λ p. not (stays p.0)) ps

    sift_first : (x : K × V) (ps before : List (K × V)) → Apart x.0 ps → Apart x.0 before →
        raise_all E (filter stays (x.0 ∷ [])) (kept ps ++ ((before ++ x ∷ []) ++ gone ps)) ≡ kept (x ∷ ps) ++ (before ++ gone (x ∷ ps))
    sift_first x ps before other first = (elim (stays x.0) as (λ b. raise_all E (cond b (x.0 ∷ []) []) (kept ps ++ ((before ++ x ∷ []) ++ gone ps)) ≡ cond b (x ∷ kept ps) (kept ps) ++ (before ++ cond (not b) (x ∷ gone ps) (gone ps))) [
      | true ↦ ap (raised E x.0) (ap (λ l. kept ps ++ l) (append_assoc before (x ∷ []) (gone ps)) ∙ sym (append_assoc (kept ps) before (x ∷ gone ps)))
          ∙ (raised_behind (kept ps ++ before) x (gone ps) (apart_both x.0 (kept ps) before (apart_filter x.0 (λ p. stays p.0) ps other) first)
          ∙ ap (λ l. x ∷ l) (append_assoc (kept ps) before (gone ps)))
      | false ↦ ap (λ l. kept ps ++ l) (append_assoc before (x ∷ []) (gone ps))
    ])

    -- after looks at all keys that stay, from the last to the first, the pairs of the other keys are the last ones
    sifted : (ps before : List (K × V)) → IsDistinct E (keys_of ps) → AreApart before (keys_of ps) → raise_all E (filter stays (reverse (keys_of ps))) (before ++ ps) ≡ kept ps ++ (before ++ gone ps)
    sifted [] before d h = refl
    sifted (x ∷ ps) before d h =
        let names : List K = reverse (keys_of ps) in
        let other : Apart x.0 ps = IsDistinct-head E x.0 (keys_of ps) d in
        ap (λ l. raise_all E (filter stays l) (before ++ x ∷ ps)) (reverse-append (x.0 ∷ []) (keys_of ps))
        ∙ (ap (λ l. raise_all E l (before ++ x ∷ ps)) (filter-append stays names (x.0 ∷ []))
        ∙ (raise_all-append E (filter stays names) (filter stays (x.0 ∷ [])) (before ++ x ∷ ps)
        ∙ (ap (λ l. raise_all E (filter stays (x.0 ∷ [])) (raise_all E (filter stays names) l)) (sym (append_assoc before (x ∷ []) ps))
        ∙ (ap (raise_all E (filter stays (x.0 ∷ []))) (sifted ps (before ++ x ∷ []) (IsDistinct-tail E x.0 (keys_of ps) d) (apart_more before x (keys_of ps) h.1 other))
        ∙ sift_first x ps before other h.0))))

    length_gone : (ps : List (K × V)) → length (filter (λ k. not (stays k)) (keys_of ps)) ≡ length (gone ps)
    length_gone [] = refl
    length_gone (x ∷ ps) = elim (stays x.0) as (λ b. length (cond (not b) (x.0 ∷ filter (λ k. not (stays k)) (keys_of ps)) (filter (λ k. not (stays k)) (keys_of ps))) ≡ length (cond (not b) (x ∷ gone ps) (gone ps))) [
      | true ↦ length_gone ps
      | false ↦ ap suc (length_gone ps)
    ]

    -- and where as many are dropped as there are of them, the others are left in their order
    pub left_after_drop : (ps : List (K × V)) (n : ℕ) → IsDistinct E (keys_of ps) → n ≡ length (filter (λ k. not (stays k)) (reverse (keys_of ps))) → kept_after_evict n (raise_all E (filter stays (reverse (keys_of ps))) ps) ≡ filter (λ p. stays p.0) ps
    left_after_drop ps n d many =
        let count : n ≡ length (gone ps) = many ∙ (length-filter_reverse (λ k. not (stays k)) (keys_of ps) ∙ length_gone ps) in
        ap (kept_after_evict n) (sifted ps [] d (none_before V E (keys_of ps)))
        ∙ (ap (λ m. take m (kept ps ++ gone ps)) {x = length (kept ps ++ gone ps) - n} {y = length (kept ps)} (omega (arith, count, length-append (kept ps) (gone ps)))
        ∙ take_first (kept ps) (gone ps))

-- ---- the loop over the names, from the last to the first

take_one_more : {X : Type 0} (xs : List X) (i : ℕ) (x : X) → slice_get xs i ≡ Some x → take (suc i) xs ≡ take i xs ++ x ∷ []
take_one_more [] i x h = absurd (nothing_at i x h)
take_one_more (y ∷ xs) zero x h = ap (λ z. z ∷ []) (same_Some y x h)
take_one_more (y ∷ xs) (suc i) x h = ap (λ l. y ∷ l) (take_one_more xs i x h)

reverse_one_more : {X : Type 0} (xs : List X) (i : ℕ) (x : X) → slice_get xs i ≡ Some x → reverse (take (suc i) xs) ≡ x ∷ reverse (take i xs)
reverse_one_more xs i x h = ap reverse (take_one_more xs i x h) ∙ reverse-append (take i xs) (x ∷ [])

-- a name is of another time
abbrev pub is_other : ℕ → BlockName → Bool
is_other time name = not (nat_eq name.key.time time)

-- the names below a place, from the last to the first, that are of other times, and how many are of the time
abbrev pub others_below : ℕ → ℕ → List BlockName → List BlockName
others_below time i names = filter (is_other time) (reverse (take i names))

abbrev pub of_time_below : ℕ → ℕ → List BlockName → ℕ
of_time_below time i names = length (filter (λ n. not (is_other time n)) (reverse (take i names)))

module _ (time i : ℕ) (names : List BlockName) (x : BlockName) (at : slice_get names i ≡ Some x) where
  module _ (same : nat_eq x.key.time time ≡ true) where
    pub others_same : others_below time (suc i) names ≡ others_below time i names
    others_same = ap (filter (is_other time)) (reverse_one_more names i x at) ∙ ap (λ b. cond (not b) (x ∷ others_below time i names) (others_below time i names)) same

    pub of_time_one : of_time_below time (suc i) names ≡ suc (of_time_below time i names)
    of_time_one = ap (λ l. length (filter (λ n. not (is_other time n)) l)) (reverse_one_more names i x at)
        ∙ ap (λ b. length (cond (not (not b)) (x ∷ filter (λ n. not (is_other time n)) (reverse (take i names))) (filter (λ n. not (is_other time n)) (reverse (take i names))))) same

  module _ (other : nat_eq x.key.time time ≡ false) where
    pub others_one : others_below time (suc i) names ≡ x ∷ others_below time i names
    others_one = ap (filter (is_other time)) (reverse_one_more names i x at) ∙ ap (λ b. cond (not b) (x ∷ others_below time i names) (others_below time i names)) other

    pub of_time_same : of_time_below time (suc i) names ≡ of_time_below time i names
    of_time_same = ap (λ l. length (filter (λ n. not (is_other time n)) l)) (reverse_one_more names i x at)
        ∙ ap (λ b. length (cond (not (not b)) (x ∷ filter (λ n. not (is_other time n)) (reverse (take i names))) (filter (λ n. not (is_other time n)) (reverse (take i names))))) other

pub few_of_time : (time i : ℕ) (names : List BlockName) → of_time_below time i names ≤ length names
few_of_time time i names = omega (arith, length-filter_most (λ n. not (is_other time n)) (reverse (take i names)), length-reverse (take i names), length-take i names)

-- what is left where the loop went through all names
pub left_of_cache : (time : ℕ) (names : List BlockName) (old : Cached BlockName (List ℕ)) (gone : ℕ) → names ≡ keys_of old.pairs → IsBounded name_eq old → gone ≡ of_time_below time (length names) names
    → kept_after_evict gone (raise_all name_eq (others_below time (length names) names) old.pairs) ≡ of_other_times time old.pairs
left_of_cache time names old gone is ok many =
    let whole : take (length names) names ≡ keys_of old.pairs = take_whole names ∙ is in
    ap (λ l. kept_after_evict gone (raise_all name_eq (filter (is_other time) (reverse l)) old.pairs)) whole
    ∙ left_after_drop name_laws (is_other time) old.pairs gone ok.apart (many ∙ ap (λ l. length (filter (λ n. not (is_other time n)) (reverse l))) whole)
