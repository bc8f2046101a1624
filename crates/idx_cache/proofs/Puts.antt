-- What a put does to the pairs of a packed list of slots.
use Rattle.std.proofs.Common.{◌≡◌, ℕ, suc, ◌-◌, ◌<◌, ◌≤◌, Bool, true, false, cond, List, [], ◌∷◌, ◌++◌, length, take, nat_eq, Option, Some, None, IsSome, refl, sym, ap, ◌∙◌, subst, arith, length-append, slice_get}
use Rattle.std.specs.List.{IsDistinct}
use Rattle.std.specs.Option.{option_flatten, option_map, option_map_or}
use Rattle.std.specs.Map.{lookup, remove_entry, keys_of}
use Rattle.std.specs.Cmp.{IsEquivalence, nat_eq_equiv}
use Rattle.std.proofs.lemmas.Map.Keys.{IsDistinct-head, IsDistinct-tail}
use Rattle.std.proofs.lemmas.Bool.Decides.{nat_tests}
use Rattle.std.proofs.lemmas.Grind.{common_steps}
use Rattle.std.proofs.lemmas.Option.{slice_get_past}
use Rattle.lru.proofs.Pairs.{slice_get-cut}
use Rattle.lru.specs.LruCache.{last_entry}
use Rattle.idx_cache.specs.Cached.{Cached, cached, fallen_out, put_pair}
use Rattle.idx_cache.specs.Slotted.{Slotted, homes, filled, IsPacked, Holds}
use Rattle.idx_cache.proofs.Keyed.{same_lookup, same_remove, lookup_apart, remove_absent}
use Rattle.idx_cache.proofs.SlotKeys.{slot_is, length_filled}
use Rattle.idx_cache.proofs.Ties.{key_of, length_slots, lookup_without}

either : {X : Type 0} (b : Bool) → cond {A = Option X} b None None ≡ None
either true = refl
either false = refl

module _ {X : Type 0} where
  -- a slot after the first is another
  pub later_slot : (s t : ℕ) (d x : X) (l : List (ℕ × X)) → IsDistinct nat_eq (keys_of ((t, d) ∷ l)) → lookup (nat_eq s) l ≡ Some x → nat_eq s t ≡ false
  later_slot s t d x l a h = let gone = lookup_apart (nat_eq t) l (IsDistinct-head nat_eq t (keys_of l) a) in (elim (nat_eq s t) as (λ b. nat_eq s t ≡ b → b ≡ false) [
    | true ↦ λ e. absurd (clash e gone)
    | false ↦ λ e. refl
  ]) refl
    where
      clash : nat_eq s t ≡ true → lookup (nat_eq t) l ≡ None → ⊥
      clash e gone = grind (arith, nat_tests)

  last_at : (x : ℕ × X) (l : List (ℕ × X)) (s : ℕ) → option_map (λ e. e.0) (slice_get (x ∷ l) (length l)) ≡ Some s → (fs : List (ℕ × X)) × (c : X) × (x ∷ l ≡ fs ++ (s, c) ∷ [])
  last_at (t, c) [] s h = let same : t ≡ s = cc in ([], c, ap (λ u. (u, c) ∷ []) same)
  last_at x (y ∷ l) s h = let on = last_at y l s h in (x ∷ on.0, on.1, ap (λ u. x ∷ u) on.2)

  last_split : (l : List (ℕ × X)) (s : ℕ) → option_map (λ e. e.0) (last_entry l) ≡ Some s → (fs : List (ℕ × X)) × (c : X) × (l ≡ fs ++ (s, c) ∷ [])
  last_split [] s h = cc
  last_split (x ∷ l) s h = last_at x l s (subst (λ n. option_map (λ e. e.0) (slice_get (x ∷ l) n) ≡ Some s) {x = suc (length l) - 1} {y = length l} (omega arith) h)

  lookup_last : (fs : List (ℕ × X)) (s : ℕ) (c : X) → IsDistinct nat_eq (keys_of (fs ++ (s, c) ∷ [])) → lookup (nat_eq s) (fs ++ (s, c) ∷ []) ≡ Some c
  lookup_last [] s c d = rw (nat_eq_equiv.refl s) refl
  lookup_last ((t, x) ∷ fs) s c d = let on = lookup_last fs s c (IsDistinct-tail nat_eq t (keys_of (fs ++ (s, c) ∷ [])) d) in rw (later_slot s t x c (fs ++ (s, c) ∷ []) d on) on

  remove_last : (fs : List (ℕ × X)) (s : ℕ) (c : X) → IsDistinct nat_eq (keys_of (fs ++ (s, c) ∷ [])) → remove_entry (nat_eq s) (fs ++ (s, c) ∷ []) ≡ fs
  remove_last [] s c d = rw (nat_eq_equiv.refl s) refl
  remove_last ((t, x) ∷ fs) s c d =
      let d' = IsDistinct-tail nat_eq t (keys_of (fs ++ (s, c) ∷ [])) d in
      rw (later_slot s t x c (fs ++ (s, c) ∷ []) d (lookup_last fs s c d')) (ap (λ l. (t, x) ∷ l) (remove_last fs s c d'))

  not_empty : (l : List X) (x : X) → l ++ x ∷ [] ≡ [] → ⊥
  not_empty [] x e = cc
  not_empty (y ∷ l) x e = cc

  pub whole : (l : List X) (n : ℕ) → length l ≤ n → take n l ≡ l
  whole l n le = grind (arith, common_steps)

  but_last : (l : List X) (x : X) → take (length l) (l ++ x ∷ []) ≡ l
  but_last [] x = refl
  but_last (y ∷ l) x = ap (λ u. y ∷ u) (but_last l x)

-- the last slot, what it holds, and those before it
pub record Last (X : Type 0) (s : ℕ) (es : List (ℕ × X)) : Type 0 where
  pub front : List (ℕ × X)
  pub content : X
  pub parted : es ≡ front ++ (s, content) ∷ []
  pub there : lookup (nat_eq s) es ≡ Some content
  pub rest : remove_entry (nat_eq s) es ≡ front

pub last_slot : {X : Type 0} (s : ℕ) (es : List (ℕ × X)) → option_map (λ e. e.0) (last_entry es) ≡ Some s → IsDistinct nat_eq (keys_of es) → Last X s es
last_slot {X = X} s es last slots =
    let cut = last_split es s last in
    let apart : IsDistinct nat_eq (keys_of (cut.0 ++ (s, cut.1) ∷ [])) = subst (λ (l : List (ℕ × X)). IsDistinct nat_eq (keys_of l)) cut.2 slots in
    record {
      front = cut.0;
      content = cut.1;
      parted = cut.2;
      there = subst (λ (l : List (ℕ × X)). lookup (nat_eq s) l ≡ Some cut.1) (sym cut.2) (lookup_last cut.0 s cut.1 apart);
      rest = subst (λ (l : List (ℕ × X)). remove_entry (nat_eq s) l ≡ cut.0) (sym cut.2) (remove_last cut.0 s cut.1 apart);
    }

module _ {K V : Type 0} where
  pub packed_from_vacant : (es : Slotted K V) → filled es ≡ [] → IsPacked es
  packed_from_vacant [] h = tt
  packed_from_vacant ((s, None) ∷ es) h = h
  packed_from_vacant ((s, Some p) ∷ es) h = cc

  vacant_without : (s : ℕ) (es : Slotted K V) → filled es ≡ [] → filled (remove_entry (nat_eq s) es) ≡ []
  vacant_without s [] h = refl
  vacant_without s ((t, None) ∷ es) h = grind (arith, nat_tests, vacant_without s es)
  vacant_without s ((t, Some p) ∷ es) h = cc

  packed_without : (s : ℕ) (es : Slotted K V) → IsPacked es → IsPacked (remove_entry (nat_eq s) es)
  packed_without s [] h = tt
  packed_without s ((t, None) ∷ es) h = elim (nat_eq s t) as (λ b. IsPacked (cond b es ((t, None) ∷ remove_entry (nat_eq s) es))) [ true ↦ packed_from_vacant es h | false ↦ vacant_without s es h ]
  packed_without s ((t, Some p) ∷ es) h = elim (nat_eq s t) as (λ b. IsPacked (cond b es ((t, Some p) ∷ remove_entry (nat_eq s) es))) [ true ↦ h | false ↦ packed_without s es h ]

  filled_snoc : (fs : Slotted K V) (s : ℕ) (p : K × V) → filled (fs ++ (s, Some p) ∷ []) ≡ filled fs ++ p ∷ []
  filled_snoc [] s p = refl
  filled_snoc ((t, None) ∷ fs) s p = filled_snoc fs s p
  filled_snoc ((t, Some q) ∷ fs) s p = ap (λ l. q ∷ l) (filled_snoc fs s p)

  filled_snoc_none : (fs : Slotted K V) (s : ℕ) → filled (fs ++ (s, None) ∷ []) ≡ filled fs
  filled_snoc_none [] s = refl
  filled_snoc_none ((t, None) ∷ fs) s = filled_snoc_none fs s
  filled_snoc_none ((t, Some q) ∷ fs) s = ap (λ l. q ∷ l) (filled_snoc_none fs s)

  packed_full : (fs : Slotted K V) (s : ℕ) (p : K × V) → IsPacked (fs ++ (s, Some p) ∷ []) → length (filled fs) ≡ length fs
  packed_full [] s p h = refl
  packed_full ((t, None) ∷ fs) s p h = absurd (not_empty (filled fs) p (sym (filled_snoc fs s p) ∙ h))
  packed_full ((t, Some q) ∷ fs) s p h = ap suc (packed_full fs s p h)

  pub put_packed : (k : K) (v : V) (s : ℕ) (es new : Slotted K V) → IsPacked es → new ≡ (s, Some (k, v)) ∷ remove_entry (nat_eq s) es → IsPacked new × (0 < length new)
  put_packed k v s es new p e = subst (λ (l : Slotted K V). IsPacked l × (0 < length l)) (sym e) (packed_without s es p, omega arith)

module _ {K V : Type 0} (E : K → K → Bool) where
  -- the slot of a key holds it
  pub slot_of : (k : K) (s : ℕ) (es : Slotted K V) → lookup (E k) (homes es) ≡ Some s → IsDistinct nat_eq (keys_of es) → Holds E es s k
  slot_of k s [] h d = cc
  slot_of k s ((t, None) ∷ es) h d =
      let on = slot_of k s es h (IsDistinct-tail nat_eq t (keys_of es) d) in
      record { stored = on.stored; value = on.value; same = on.same; there = rw (later_slot s t None (Some (on.stored, on.value)) es d on.there) on.there }
  slot_of k s ((t, Some (j, w)) ∷ es) h d = (elim (E k j) as (λ b. E k j ≡ b → Holds E ((t, Some (j, w)) ∷ es) s k) [
    | true ↦ λ e. record { stored = j; value = w; same = e; there = here (rw e at h) }
    | false ↦ λ e. let on = slot_of k s es (rw e at h) (IsDistinct-tail nat_eq t (keys_of es) d) in
        record { stored = on.stored; value = on.value; same = on.same; there = rw (later_slot s t (Some (j, w)) (Some (on.stored, on.value)) es d on.there) on.there }
  ]) refl
    where
      here : Some t ≡ Some s → lookup (nat_eq s) ((t, Some (j, w)) ∷ es) ≡ Some (Some (j, w))
      here h = let same : t ≡ s = cc in rw (same, nat_eq_equiv.refl s) refl

  -- a key without a slot has no pair
  pub no_pair : (k : K) (es : Slotted K V) → lookup (E k) (homes es) ≡ None → lookup (E k) (filled es) ≡ None
  no_pair k [] h = refl
  no_pair k ((s, None) ∷ es) h = no_pair k es h
  no_pair k ((s, Some p) ∷ es) h = (elim (E k p.0) as (λ b. E k p.0 ≡ b → cond b (Some p.1) (lookup (E k) (filled es)) ≡ None) [
    | true ↦ λ e. let h' = rw e at h in cc
    | false ↦ λ e. no_pair k es (rw e at h)
  ]) refl

  -- the view after a put
  put_view : (k : K) (v : V) (s : ℕ) (es : Slotted K V) → (k, v) ∷ filled (remove_entry (nat_eq s) es) ≡ take (length es) ((k, v) ∷ remove_entry (E k) (filled es)) → suc (length (remove_entry (nat_eq s) es)) ≡ length es →
      (new : Slotted K V) → new ≡ (s, Some (k, v)) ∷ remove_entry (nat_eq s) es → (old : Cached K V) → cached (filled es) (length es) ≡ old → cached (filled new) (length new) ≡ cached (put_pair E old.cap (k, v) old.pairs) old.cap
  put_view k v s es ps n new e old o = subst (λ (x : Cached K V). cached (filled new) (length new) ≡ cached (put_pair E x.cap (k, v) x.pairs) x.cap) o
      (subst (λ (l : Slotted K V). cached (filled l) (length l) ≡ cached (put_pair E (length es) (k, v) (filled es)) (length es)) (sym e)
      (ap (λ l. cached l (suc (length (remove_entry (nat_eq s) es)))) ps ∙ ap (λ m. cached (take (length es) ((k, v) ∷ remove_entry (E k) (filled es))) m) n))

  last_pairs : (k : K) (v : V) (s : ℕ) (fs : Slotted K V) (c : Option (K × V)) → IsPacked (fs ++ (s, c) ∷ []) → lookup (E k) (homes (fs ++ (s, c) ∷ [])) ≡ None → (k, v) ∷ filled fs ≡ take (length (fs ++ (s, c) ∷ [])) ((k, v) ∷ remove_entry (E k) (filled (fs ++ (s, c) ∷ [])))
  last_pairs k v s fs None packed gone =
      let none : lookup (E k) (filled (fs ++ (s, None) ∷ [])) ≡ None = no_pair k (fs ++ (s, None) ∷ []) gone in
      rw (remove_absent (E k) (filled (fs ++ (s, None) ∷ [])) none, filled_snoc_none fs s)
      (sym (whole ((k, v) ∷ filled fs) (length (fs ++ (s, None) ∷ [])) (omega (arith, length_filled fs, length-append fs ((s, None) ∷ [])))))
  last_pairs k v s fs (Some p) packed gone =
      let none : lookup (E k) (filled (fs ++ (s, Some p) ∷ [])) ≡ None = no_pair k (fs ++ (s, Some p) ∷ []) gone in
      let n : length (fs ++ (s, Some p) ∷ []) ≡ suc (length (filled fs)) = omega (arith, packed_full fs s p packed, length-append fs ((s, Some p) ∷ [])) in
      rw (remove_absent (E k) (filled (fs ++ (s, Some p) ∷ [])) none, filled_snoc fs s p, n) (ap (λ l. (k, v) ∷ l) (sym (but_last (filled fs) p)))

  -- what the last slot holds has no room any more behind a new pair
  fallen_last : (k : K) (v : V) (s : ℕ) (fs : Slotted K V) (c : Option (K × V)) → IsPacked (fs ++ (s, c) ∷ []) → option_map (λ p. p.1) c ≡ option_map (λ p. p.1) (slice_get ((k, v) ∷ filled (fs ++ (s, c) ∷ [])) (length (fs ++ (s, c) ∷ [])))
  fallen_last k v s fs None packed =
      let n : length (fs ++ (s, None) ∷ []) ≡ suc (length fs) = omega (arith, length-append fs ((s, None) ∷ [])) in
      rw (n, filled_snoc_none fs s, slice_get_past (filled fs) (length fs) (length_filled fs)) refl
  fallen_last k v s fs (Some p) packed =
      let n : length (fs ++ (s, Some p) ∷ []) ≡ suc (length (filled fs)) = omega (arith, packed_full fs s p packed, length-append fs ((s, Some p) ∷ [])) in
      rw (n, filled_snoc fs s p, slice_get-cut (filled fs) p []) refl

module _ {K V : Type 0} {E : K → K → Bool} (laws : IsEquivalence E) where
  -- a put on a key that is there
  pub hit_view : (k : K) (v : V) (s : ℕ) (es : Slotted K V) → lookup (E k) (homes es) ≡ Some s → IsDistinct nat_eq (keys_of es) → IsDistinct E (keys_of (homes es)) →
      (new : Slotted K V) → new ≡ (s, Some (k, v)) ∷ remove_entry (nat_eq s) es → (old : Cached K V) → cached (filled es) (length es) ≡ old → cached (filled new) (length new) ≡ cached (put_pair E old.cap (k, v) old.pairs) old.cap
  hit_view k v s es h slots keys =
      let on = slot_of E k s es h slots in
      let len : suc (length (remove_entry (nat_eq s) es)) ≡ length es = length_slots s (Some (on.stored, on.value)) es on.there in
      let rest : filled (remove_entry (nat_eq s) es) ≡ remove_entry (E k) (filled es) =
      (slot_is laws s on.stored on.value es on.there keys).filled_rest ∙ sym (same_remove (λ x. laws.congr k on.stored x on.same) (filled es)) in
      put_view E k v s es (rw (← rest) (sym (whole ((k, v) ∷ filled (remove_entry (nat_eq s) es)) (length es) (omega (arith, len, length_filled (remove_entry (nat_eq s) es)))))) len

  -- what falls out is the key's value
  pub hit_fallen : (k : K) (v : V) (s : ℕ) (es : Slotted K V) → lookup (E k) (homes es) ≡ Some s → IsDistinct nat_eq (keys_of es) → IsDistinct E (keys_of (homes es)) →
      (old : Cached K V) → cached (filled es) (length es) ≡ old → option_map (λ p. p.1) (option_flatten (lookup (nat_eq s) es)) ≡ fallen_out E old.cap (k, v) old.pairs
  hit_fallen k v s es h slots keys old o =
      let on = slot_of E k s es h slots in
      let value : lookup (E k) (filled es) ≡ Some on.value =
      same_lookup (λ x. laws.congr k on.stored x on.same) (filled es) ∙ (slot_is laws s on.stored on.value es on.there keys).value in
      subst (λ (x : Cached K V). option_map (λ p. p.1) (option_flatten (lookup (nat_eq s) es)) ≡ fallen_out E x.cap (k, v) x.pairs) o (rw (on.there, value) refl)

  -- a put on another key takes the last slot
  module _ (k : K) (v : V) (s : ℕ) (es : Slotted K V) (last : option_map (λ e. e.0) (last_entry es) ≡ Some s) (slots : IsDistinct nat_eq (keys_of es)) (keys : IsDistinct E (keys_of (homes es))) (gone : lookup (E k) (homes es) ≡ None) where
    cut : Last (Option (K × V)) s es
    cut = last_slot s es last slots

    pub miss_present : IsSome (lookup (nat_eq s) es)
    miss_present = rw cut.there refl

    pub miss_fresh : lookup (E k) (homes (remove_entry (nat_eq s) es)) ≡ None
    miss_fresh = lookup_without laws s es keys cut.content cut.there k ∙ still cut.content
      where
        still : (c : Option (K × V)) → option_map_or (λ j. cond (E j k) None (lookup (E k) (homes es))) (key_of c) (lookup (E k) (homes es)) ≡ None
        still None = gone
        still (Some p) = rw gone (either (E p.0 k))

    miss_pairs : IsPacked es → (k, v) ∷ filled (remove_entry (nat_eq s) es) ≡ take (length es) ((k, v) ∷ remove_entry (E k) (filled es))
    miss_pairs packed = rw cut.rest (subst (λ (l : Slotted K V). (k, v) ∷ filled cut.front ≡ take (length l) ((k, v) ∷ remove_entry (E k) (filled l))) (sym cut.parted)
        (last_pairs E k v s cut.front cut.content (subst IsPacked cut.parted packed) (subst (λ (l : Slotted K V). lookup (E k) (homes l) ≡ None) cut.parted gone)))

    pub miss_view : IsPacked es → (new : Slotted K V) → new ≡ (s, Some (k, v)) ∷ remove_entry (nat_eq s) es → (old : Cached K V) → cached (filled es) (length es) ≡ old → cached (filled new) (length new) ≡ cached (put_pair E old.cap (k, v) old.pairs) old.cap
    miss_view packed = put_view E k v s es (miss_pairs packed) (length_slots s cut.content es cut.there)

    pub miss_fallen : IsPacked es → (old : Cached K V) → cached (filled es) (length es) ≡ old → option_map (λ p. p.1) (option_flatten (lookup (nat_eq s) es)) ≡ fallen_out E old.cap (k, v) old.pairs
    miss_fallen packed old o =
        let last_is : option_map (λ p. p.1) cut.content ≡ option_map (λ p. p.1) (slice_get ((k, v) ∷ filled es) (length es)) =
        subst (λ (l : Slotted K V). option_map (λ p. p.1) cut.content ≡ option_map (λ p. p.1) (slice_get ((k, v) ∷ filled l) (length l))) (sym cut.parted) (fallen_last E k v s cut.front cut.content (subst IsPacked cut.parted packed)) in
        subst (λ (x : Cached K V). option_map (λ p. p.1) (option_flatten (lookup (nat_eq s) es)) ≡ fallen_out E x.cap (k, v) x.pairs) o
        (rw (cut.there, no_pair E k es gone) last_is)
