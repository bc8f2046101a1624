-- What holds of the slots and the index after one slot is written or raised.
use Rattle.std.proofs.Common.{◌≡◌, ℕ, suc, ◌+◌, ◌<◌, ◌≤◌, Bool, true, false, cond, List, [], ◌∷◌, length, nat_eq, Option, Some, None, IsSome, IfSome, refl, sym, ap, ◌∙◌, subst, arith}
use Rattle.std.specs.List.{IsDistinct}
use Rattle.std.specs.Option.{option_map, option_map_or, option_to_list, option_flatten}
use Rattle.std.specs.Map.{lookup, lookup_entry, remove_entry, keys_of}
use Rattle.std.specs.Cmp.{IsEquivalence}
use Rattle.std.proofs.lemmas.Map.{lookup-remove_entry}
use Rattle.std.proofs.lemmas.Map.Keys.{IsDistinct-cons}
use Rattle.std.proofs.lemmas.Bool.Decides.{nat_tests}
use Rattle.lru.specs.LruCache.{promoted}
use Rattle.idx_cache.specs.Indexed.{Indexed}
use Rattle.idx_cache.specs.Slotted.{Slotted, homes, IsTied, Holds}
use Rattle.idx_cache.proofs.Keyed.{same_lookup, distinct_remove, absent_all, length_remove}
use Rattle.idx_cache.proofs.SlotKeys.{homes_without_none, slot_is, length_homes}

pub some_of : {X : Type 0} (o : Option X) → IsSome o → (x : X) × (o ≡ Some x)
some_of None p = cc
some_of (Some x) p = (x, refl)

pub entry_of : {X : Type 0} (t : ℕ) (x : X) (l : List (ℕ × X)) → lookup (nat_eq t) l ≡ Some x → lookup_entry (nat_eq t) l ≡ Some (t, x)
entry_of t x [] h = cc
entry_of t x ((u, y) ∷ l) h = grind (arith, nat_tests, entry_of t x l)

pub length_slots : {X : Type 0} (t : ℕ) (x : X) (l : List (ℕ × X)) → lookup (nat_eq t) l ≡ Some x → suc (length (remove_entry (nat_eq t) l)) ≡ length l
length_slots t x l h = omega (arith, length_remove (nat_eq t) x l h)

module _ {K V : Type 0} where
  abbrev pub key_of : Option (K × V) → Option K
  key_of c = option_map (λ p. p.0) c

  pub promoted_is : (s : ℕ) (es : Slotted K V) (c : Option (K × V)) → lookup (nat_eq s) es ≡ Some c → promoted (nat_eq s) es ≡ (s, c) ∷ remove_entry (nat_eq s) es
  promoted_is s es c h = rw (entry_of s c es h) refl

module _ {K : Type 0} {E : K → K → Bool} (laws : IsEquivalence E) where
  -- equal keys are equal to the same keys
  pub same_key : (k j : K) → E k j ≡ true → (q : K) → E q k ≡ E q j
  same_key k j e q = laws.symm q k ∙ laws.congr k j q e ∙ laws.symm j q

  front_found : (q j : K) (s : ℕ) (l : List (K × ℕ)) → lookup (E j) l ≡ Some s → lookup (E q) l ≡ cond (E q j) (Some s) (cond (E j q) None (lookup (E q) l))
  front_found q j s l h = (elim (E q j) as (λ b. E q j ≡ b → lookup (E q) l ≡ cond b (Some s) (cond (E j q) None (lookup (E q) l))) [
    | true ↦ λ e. same_lookup (λ x. laws.congr q j x e) l ∙ h
    | false ↦ λ e. rw (laws.symm j q ∙ e) refl
  ]) refl

module _ {K V : Type 0} {E : K → K → Bool} (laws : IsEquivalence E) where
  module _ (s : ℕ) (es : Slotted K V) (apart : IsDistinct E (keys_of (homes es))) where
    -- the keys without the slot's
    pub lookup_without : (c : Option (K × V)) → lookup (nat_eq s) es ≡ Some c → (q : K) → lookup (E q) (homes (remove_entry (nat_eq s) es)) ≡ option_map_or (λ k. cond (E k q) None (lookup (E q) (homes es))) (key_of c) (lookup (E q) (homes es))
    lookup_without None h q = ap (λ l. lookup (E q) l) (homes_without_none s es h)
    lookup_without (Some (k, v)) h q = ap (λ l. lookup (E q) l) (slot_is laws s k v es h apart).homes_rest ∙ lookup-remove_entry laws (E k) (λ x y e. laws.congr k x y e) q (homes es) apart

    pub apart_without : (c : Option (K × V)) → lookup (nat_eq s) es ≡ Some c → IsDistinct E (keys_of (homes (remove_entry (nat_eq s) es)))
    apart_without None h = subst (λ l. IsDistinct E (keys_of l)) (sym (homes_without_none s es h)) apart
    apart_without (Some (k, v)) h = subst (λ l. IsDistinct E (keys_of l)) (sym (slot_is laws s k v es h apart).homes_rest) (distinct_remove (E k) E (homes es) apart)

    pub length_without : (c : Option (K × V)) → lookup (nat_eq s) es ≡ Some c → length (homes (remove_entry (nat_eq s) es)) + length (option_to_list (key_of c)) ≡ length (homes es)
    length_without None h = omega (arith, ap length (homes_without_none s es h))
    length_without (Some (k, v)) h = let slot = slot_is laws s k v es h apart in omega (arith, ap length slot.homes_rest, length_remove (E k) s (homes es) slot.home)

  -- the slot in front, with its new content
  claimed : (s : ℕ) (es : Slotted K V) (y : Indexed K) → IsTied E es y → (c : Option (K × V)) → IfSome c (λ p. lookup (E p.0) (homes es) ≡ None) → (z : Indexed K) → ((q : K) → lookup (E q) z.entries ≡ option_map_or (λ k. cond (E k q) (Some s) (lookup (E q) y.entries)) (key_of c) (lookup (E q) y.entries)) → length z.entries ≡ length y.entries + length (option_to_list (key_of c)) → suc (length es) ≤ z.room → IsTied E ((s, c) ∷ es) z
  claimed s es y tied None fresh z gets len room = record { apart = tied.apart; found = λ q. gets q ∙ tied.found q; len = omega (arith, tied.len, len); room = room }
  claimed s es y tied (Some p) fresh z gets len room = record {
    apart = IsDistinct-cons E p.0 (keys_of (homes es)) (absent_all (E p.0) (homes es) fresh) tied.apart;
    found = λ q. gets q ∙ rw (laws.symm p.0 q) (ap (λ o. cond (E q p.0) (Some s) o) (tied.found q));
    len = omega (arith, tied.len, len);
    room = room;
  }

  fresh_key : (c : Option (K × V)) (l m : List (K × ℕ)) → IfSome c (λ p. lookup (E p.0) l ≡ None) → ((q : K) → lookup (E q) m ≡ lookup (E q) l) → IfSome (key_of c) (λ k. lookup (E k) m ≡ None)
  fresh_key None l m fresh same = tt
  fresh_key (Some p) l m fresh same = same p.0 ∙ fresh

  -- a write, from what the calls say
  module _ (s : ℕ) (es : Slotted K V) (x : Indexed K) (tied : IsTied E es x) (present : IsSome (lookup (nat_eq s) es)) (old : Option K) (was : old ≡ option_map (λ p. p.0) (option_flatten (lookup (nat_eq s) es))) where
    held : (c : Option (K × V)) × (lookup (nat_eq s) es ≡ Some c)
    held = some_of (lookup (nat_eq s) es) present

    old_is : old ≡ key_of held.0
    old_is = was ∙ ap (λ o. option_map (λ p. p.0) (option_flatten o)) held.1

    release_present : (c : Option (K × V)) → lookup (nat_eq s) es ≡ Some c → IfSome (key_of c) (λ k. IsSome (lookup (E k) x.entries))
    release_present None h = tt
    release_present (Some (k, v)) h = rw (tied.found k, (slot_is laws s k v es h tied.apart).home) refl

    pub write_present : IfSome old (λ k. IsSome (lookup (E k) x.entries))
    write_present = rw old_is (release_present held.0 held.1)

    pub write_length : suc (length (remove_entry (nat_eq s) es)) ≡ length es
    write_length = length_slots s held.0 es held.1

    module _ (y : Indexed K)
        (gets : (q : K) → lookup (E q) y.entries ≡ option_map_or (λ k. cond (E k q) None (lookup (E q) x.entries)) old (lookup (E q) x.entries))
        (len : length y.entries + length (option_to_list old) ≡ length x.entries) (room : y.room ≡ x.room) where
      gets_held : (q : K) → lookup (E q) y.entries ≡ option_map_or (λ k. cond (E k q) None (lookup (E q) x.entries)) (key_of held.0) (lookup (E q) x.entries)
      gets_held = subst (λ (o : Option K). (q : K) → lookup (E q) y.entries ≡ option_map_or (λ k. cond (E k q) None (lookup (E q) x.entries)) o (lookup (E q) x.entries)) old_is gets

      len_held : length y.entries + length (option_to_list (key_of held.0)) ≡ length x.entries
      len_held = subst (λ (o : Option K). length y.entries + length (option_to_list o) ≡ length x.entries) old_is len

      released : IsTied E (remove_entry (nat_eq s) es) y
      released = record {
        apart = apart_without s es tied.apart held.0 held.1;
        found = λ q. gets_held q ∙ ap (λ o. option_map_or (λ k. cond (E k q) None o) (key_of held.0) o) (tied.found q) ∙ sym (lookup_without s es tied.apart held.0 held.1 q);
        len = omega (arith, tied.len, len_held, length_without s es tied.apart held.0 held.1);
        room = omega (arith, tied.room, room, write_length);
      }

      pub write_room : length y.entries < y.room
      write_room = omega (arith, tied.room, room, write_length, length_homes (remove_entry (nat_eq s) es), released.len)

      pub write_fresh : (c : Option (K × V)) → IfSome c (λ p. lookup (E p.0) (homes (remove_entry (nat_eq s) es)) ≡ None) → IfSome (key_of c) (λ k. lookup (E k) y.entries ≡ None)
      write_fresh c fresh = fresh_key c (homes (remove_entry (nat_eq s) es)) y.entries fresh released.found

      pub write_claimed : (c : Option (K × V)) → IfSome c (λ p. lookup (E p.0) (homes (remove_entry (nat_eq s) es)) ≡ None) → (z : Indexed K) → ((q : K) → lookup (E q) z.entries ≡ option_map_or (λ k. cond (E k q) (Some s) (lookup (E q) y.entries)) (key_of c) (lookup (E q) y.entries)) → length z.entries ≡ length y.entries + length (option_to_list (key_of c)) → z.room ≡ y.room → IsTied E ((s, c) ∷ remove_entry (nat_eq s) es) z
      write_claimed c fresh z gets' len' room' = claimed s (remove_entry (nat_eq s) es) y released c fresh z gets' len' (omega (arith, write_length, tied.room, room, room'))

  -- a key's slot in front, with an equal key and any value
  pub renewed : (s : ℕ) (es : Slotted K V) (x : Indexed K) → IsTied E es x → (k : K) (v : V) → Holds E es s k → IsTied E ((s, Some (k, v)) ∷ remove_entry (nat_eq s) es) x
  renewed s es x tied k v on =
      let j = on.stored in
      let without = lookup_without s es tied.apart (Some (j, on.value)) on.there in
      let gone : lookup (E k) (homes (remove_entry (nat_eq s) es)) ≡ None = without k ∙ rw (laws.symm j k ∙ on.same) refl in
      record {
        apart = IsDistinct-cons E k (keys_of (homes (remove_entry (nat_eq s) es))) (absent_all (E k) (homes (remove_entry (nat_eq s) es)) gone) (apart_without s es tied.apart (Some (j, on.value)) on.there);
        found = λ q. tied.found q ∙ front_found laws q j s (homes es) (slot_is laws s j on.value es on.there tied.apart).home
            ∙ ap (λ b. cond b (Some s) (cond (E j q) None (lookup (E q) (homes es)))) (sym (same_key laws k j on.same q)) ∙ ap (λ o. cond (E q k) (Some s) o) (sym (without q));
        len = omega (arith, tied.len, length_without s es tied.apart (Some (j, on.value)) on.there);
        room = omega (arith, tied.room, length_slots s (Some (j, on.value)) es on.there);
      }

  -- a slot that goes to the front as it is
  tied_front : (s : ℕ) (es : Slotted K V) (x : Indexed K) → IsTied E es x → (c : Option (K × V)) → lookup (nat_eq s) es ≡ Some c → IsTied E ((s, c) ∷ remove_entry (nat_eq s) es) x
  tied_front s es x tied None h = record {
    apart = apart_without s es tied.apart None h;
    found = λ q. tied.found q ∙ sym (lookup_without s es tied.apart None h q);
    len = omega (arith, tied.len, length_without s es tied.apart None h);
    room = omega (arith, tied.room, length_slots s None es h);
  }
  tied_front s es x tied (Some (k, v)) h = renewed s es x tied k v (record { stored = k; value = v; same = laws.refl k; there = h })

  pub raised_tied : (s : ℕ) (es : Slotted K V) (x : Indexed K) → IsTied E es x → IsSome (lookup (nat_eq s) es) → IsTied E (promoted (nat_eq s) es) x
  raised_tied s es x tied present =
      let held = some_of (lookup (nat_eq s) es) present in
      subst (λ (l : Slotted K V). IsTied E l x) (sym (promoted_is s es held.0 held.1)) (tied_front s es x tied held.0 held.1)
