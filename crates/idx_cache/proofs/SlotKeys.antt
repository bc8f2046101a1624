-- What the removal of one slot does to the keys and the pairs.
use Rattle.std.proofs.Common.{◌≡◌, ℕ, ◌<◌, ◌≤◌, Bool, true, false, [], ◌∷◌, length, nat_eq, Option, Some, None, refl, sym, ap, ◌∙◌, subst, arith}
use Rattle.std.specs.List.{IsDistinct, AllByRecursion}
use Rattle.std.specs.Map.{lookup, lookup_entry, remove_entry, keys_of}
use Rattle.std.specs.Cmp.{IsEquivalence}
use Rattle.std.proofs.lemmas.Map.Keys.{IsDistinct-head, IsDistinct-tail}
use Rattle.std.proofs.lemmas.Bool.Decides.{nat_tests}
use Rattle.idx_cache.specs.Cached.{cached, IsBounded}
use Rattle.idx_cache.specs.Slotted.{Slotted, homes, filled}

module _ {K V : Type 0} where
  pub keys_filled : (es : Slotted K V) → keys_of (filled es) ≡ keys_of (homes es)
  keys_filled [] = refl
  keys_filled ((s, None) ∷ es) = keys_filled es
  keys_filled ((s, Some p) ∷ es) = ap (λ l. p.0 ∷ l) (keys_filled es)

  pub length_homes_filled : (es : Slotted K V) → length (homes es) ≡ length (filled es)
  length_homes_filled [] = refl
  length_homes_filled ((s, None) ∷ es) = length_homes_filled es
  length_homes_filled ((s, Some p) ∷ es) = omega (arith, length_homes_filled es)

  pub length_homes : (es : Slotted K V) → length (homes es) ≤ length es
  length_homes [] = omega arith
  length_homes ((s, None) ∷ es) = omega (arith, length_homes es)
  length_homes ((s, Some p) ∷ es) = omega (arith, length_homes es)

  pub length_filled : (es : Slotted K V) → length (filled es) ≤ length es
  length_filled es = omega (arith, length_homes es, length_homes_filled es)

  pub bounded : (E : K → K → Bool) (es : Slotted K V) → IsDistinct E (keys_of (homes es)) → 0 < length es → IsBounded E (cached (filled es) (length es))
  bounded E es keys some = record { apart = subst (λ l. IsDistinct E l) (sym (keys_filled es)) keys; fits = length_filled es; some = some }

module _ {K V : Type 0} (s : ℕ) where
  pub homes_without_none : (es : Slotted K V) → lookup (nat_eq s) es ≡ Some None → homes (remove_entry (nat_eq s) es) ≡ homes es
  homes_without_none [] h = cc
  homes_without_none ((t, None) ∷ es) h = grind (arith, nat_tests, homes_without_none es)
  homes_without_none ((t, Some p) ∷ es) h = grind (arith, nat_tests, homes_without_none es)

module _ {K V : Type 0} {E : K → K → Bool} (laws : IsEquivalence E) (s : ℕ) (k : K) (v : V) where
  abbrev Holding : Slotted K V → Type 0
  Holding es = lookup (nat_eq s) es ≡ Some (Some (k, v))

  home_listed : (P : K → Type 0) (es : Slotted K V) → Holding es → AllByRecursion P (keys_of (homes es)) → P k
  home_listed P [] h a = cc
  home_listed P ((t, d) ∷ es) h a = (elim (nat_eq s t) as (λ b. nat_eq s t ≡ b → P k) [
    | true ↦ λ e. here d (rw e at h) a
    | false ↦ λ e. home_listed P es (rw e at h) (rest d a)
  ]) refl
    where
      here : (d : Option (K × V)) → Some d ≡ Some (Some (k, v)) → AllByRecursion P (keys_of (homes ((t, d) ∷ es))) → P k
      here None h a = cc
      here (Some p) h a = let same : p ≡ (k, v) = cc in subst (λ (x : K × V). P x.0) same a.0

      rest : (d : Option (K × V)) → AllByRecursion P (keys_of (homes ((t, d) ∷ es))) → AllByRecursion P (keys_of (homes es))
      rest None a = a
      rest (Some p) a = a.1

  homes_head : (t : ℕ) (j : K) (w : V) (es : Slotted K V) → Holding es → IsDistinct E (keys_of (homes ((t, Some (j, w)) ∷ es))) → E k j ≡ false
  homes_head t j w es h d = laws.symm k j ∙ home_listed (λ y. E j y ≡ false) es h (IsDistinct-head E j (keys_of (homes es)) d)

  -- all that the slot's key gives
  pub record Slot (es : Slotted K V) : Type 0 where
    pub homes_rest : homes (remove_entry (nat_eq s) es) ≡ remove_entry (E k) (homes es)
    pub filled_rest : filled (remove_entry (nat_eq s) es) ≡ remove_entry (E k) (filled es)
    pub home : lookup (E k) (homes es) ≡ Some s
    pub value : lookup (E k) (filled es) ≡ Some v
    pub entry : lookup_entry (E k) (filled es) ≡ Some (k, v)

  pub slot_is : (es : Slotted K V) → Holding es → IsDistinct E (keys_of (homes es)) → Slot es
  slot_is [] h d = cc
  slot_is ((t, None) ∷ es) h d = (elim (nat_eq s t) as (λ b. nat_eq s t ≡ b → Slot ((t, None) ∷ es)) [
    | true ↦ λ e. let h' = rw e at h in cc
    | false ↦ λ e. let on = slot_is es (rw e at h) d in
        record { homes_rest = rw e on.homes_rest; filled_rest = rw e on.filled_rest; home = on.home; value = on.value; entry = on.entry }
  ]) refl
  slot_is ((t, Some (j, w)) ∷ es) h d = (elim (nat_eq s t) as (λ b. nat_eq s t ≡ b → Slot ((t, Some (j, w)) ∷ es)) [
    | true ↦ λ e. here e (rw e at h)
    | false ↦ λ e. later e (rw e at h) (slot_is es (rw e at h) (IsDistinct-tail E j (keys_of (homes es)) d))
  ]) refl
    where
      here : nat_eq s t ≡ true → ◌≡◌ {A = Option (Option (K × V))} (Some (Some (j, w))) (Some (Some (k, v))) → Slot ((t, Some (j, w)) ∷ es)
      here e h =
          let same_pair : ◌≡◌ {A = K × V} (j, w) (k, v) = cc in
          let key : j ≡ k = ap (λ (p : K × V). p.0) same_pair in
          let value : w ≡ v = ap (λ (p : K × V). p.1) same_pair in
          let slot : t ≡ s = grind (arith, nat_tests) in
          let same : E k j ≡ true = rw key (laws.refl k) in
          record { homes_rest = rw (e, same) refl; filled_rest = rw (e, same) refl; home = rw same (ap Some slot); value = rw same (ap Some value); entry = rw same (rw (key, value) refl) }

      later : nat_eq s t ≡ false → Holding es → Slot es → Slot ((t, Some (j, w)) ∷ es)
      later e h on =
          let other : E k j ≡ false = homes_head t j w es h d in
          record {
            homes_rest = rw (e, other) (ap (λ l. (j, t) ∷ l) on.homes_rest);
            filled_rest = rw (e, other) (ap (λ l. (j, w) ∷ l) on.filled_rest);
            home = rw other on.home;
            value = rw other on.value;
            entry = rw other on.entry;
          }
