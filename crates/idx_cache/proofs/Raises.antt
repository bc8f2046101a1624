-- What a look and a touch find, and what a touch does to the pairs.
use Rattle.std.proofs.Common.{◌≡◌, ℕ, suc, ◌<◌, Bool, true, false, ◌∷◌, length, nat_eq, Some, None, IsSome, is_some, refl, sym, ap, ◌∙◌, subst}
use Rattle.std.specs.List.{IsDistinct}
use Rattle.std.specs.Option.{option_map, option_flatten}
use Rattle.std.specs.Map.{lookup, remove_entry, keys_of}
use Rattle.std.specs.Cmp.{IsEquivalence}
use Rattle.lru.specs.LruCache.{promoted}
use Rattle.idx_cache.specs.Cached.{Cached, cached, found, raised}
use Rattle.idx_cache.specs.Slotted.{Slotted, homes, filled, IsPacked, Holds}
use Rattle.idx_cache.proofs.Keyed.{same_lookup, same_entry, same_remove, no_entry}
use Rattle.idx_cache.proofs.SlotKeys.{slot_is, Slot}
use Rattle.idx_cache.proofs.Ties.{length_slots, promoted_is}
use Rattle.idx_cache.proofs.Puts.{slot_of, no_pair, put_packed}

module _ {K V : Type 0} {E : K → K → Bool} (laws : IsEquivalence E) (k : K) where
  module _ (s : ℕ) (es : Slotted K V) (h : lookup (E k) (homes es) ≡ Some s) (slots : IsDistinct nat_eq (keys_of es)) (keys : IsDistinct E (keys_of (homes es))) where
    on : Holds E es s k
    on = slot_of E k s es h slots

    slot : Slot laws s on.stored on.value es
    slot = slot_is laws s on.stored on.value es on.there keys

    same : (x : K) → E k x ≡ E on.stored x
    same x = laws.congr k on.stored x on.same

    value : lookup (E k) (filled es) ≡ Some on.value
    value = same_lookup same (filled es) ∙ slot.value

    pub touch_present : IsSome (lookup (nat_eq s) es)
    touch_present = rw on.there refl

    pub peek_value : option_map (λ p. p.1) (option_flatten (lookup (nat_eq s) es)) ≡ lookup (E k) (filled es)
    peek_value = rw (on.there, value) refl

    pub touch_found : (old : Cached K V) → cached (filled es) (length es) ≡ old → true ≡ is_some (found E k old.pairs)
    touch_found old o = subst (λ (x : Cached K V). true ≡ is_some (lookup (E k) x.pairs)) o (rw value refl)

    pub touch_packed : IsPacked es → (new : Slotted K V) → new ≡ promoted (nat_eq s) es → IsPacked new × (0 < length new)
    touch_packed p new e = put_packed on.stored on.value s es new p (e ∙ promoted_is s es (Some (on.stored, on.value)) on.there)

    pairs : (on.stored, on.value) ∷ filled (remove_entry (nat_eq s) es) ≡ raised E k (filled es)
    pairs = rw (same_entry same (filled es), slot.entry, same_remove same (filled es), slot.filled_rest) refl

    pub touch_view : (new : Slotted K V) → new ≡ promoted (nat_eq s) es → (old : Cached K V) → cached (filled es) (length es) ≡ old → cached (filled new) (length new) ≡ cached (raised E k old.pairs) old.cap
    touch_view new e old o = subst (λ (x : Cached K V). cached (filled new) (length new) ≡ cached (raised E k x.pairs) x.cap) o
        (subst (λ (l : Slotted K V). cached (filled l) (length l) ≡ cached (raised E k (filled es)) (length es)) (sym (e ∙ promoted_is s es (Some (on.stored, on.value)) on.there))
        (ap (λ l. cached l (suc (length (remove_entry (nat_eq s) es)))) pairs ∙ ap (λ m. cached (raised E k (filled es)) m) (length_slots s (Some (on.stored, on.value)) es on.there)))

module _ {K V : Type 0} (E : K → K → Bool) (k : K) (es : Slotted K V) (h : lookup (E k) (homes es) ≡ None) (old : Cached K V) (o : cached (filled es) (length es) ≡ old) where
  pub miss_lookup : None ≡ found E k old.pairs
  miss_lookup = subst (λ (x : Cached K V). None ≡ lookup (E k) x.pairs) o (sym (no_pair E k es h))

  pub miss_found : false ≡ is_some (found E k old.pairs)
  miss_found = ap is_some miss_lookup

  pub miss_order : old ≡ cached (raised E k old.pairs) old.cap
  miss_order = rw (no_entry (E k) old.pairs (sym miss_lookup)) refl
