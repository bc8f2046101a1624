-- The slots of a new cache.
use Rattle.std.proofs.Common.{◌≡◌, ℕ, ◌+◌, ◌-◌, ◌<◌, ◌≤◌, List, [], ◌∷◌, ◌++◌, length, take, nat_eq, Option, None, refl, sym, ap, subst, arith, Bool, length-append}
use Rattle.std.specs.List.{IsDistinct}
use Rattle.std.specs.Map.{lookup, lookup_entry, keys_of}
use Rattle.std.proofs.lemmas.Bool.{ne_eqb}
use Rattle.lru.specs.LruCache.{lru_cache, put_entries}
use Rattle.idx_cache.specs.Indexed.{Indexed, indexed}
use Rattle.idx_cache.specs.Slotted.{homes, filled, placed, IsVacant, IsWithin, IsTied}
use Rattle.idx_cache.proofs.Placed.{content_push, length_placed}
use Rattle.idx_cache.proofs.Puts.{whole}

no_key : {K : Type 0} (E : K → K → Bool) → IsDistinct E (keys_of {K = K} {X = ℕ} [])
unfolding IsDistinct
no_key E = tt

module _ {U : Type 0} where
  no_below : (i : ℕ) (es : List (ℕ × U)) → IsWithin i es → lookup_entry (nat_eq i) es ≡ None
  no_below i [] a = refl
  no_below i (e ∷ es) a = rw (ne_eqb i e.0 (let less : e.0 < i = a.0 in λ same. omega arith)) (no_below i es a.1)

  still_below : (i : ℕ) (es : List (ℕ × U)) → IsWithin i es → IsWithin (i + 1) es
  still_below i [] a = tt
  still_below i (e ∷ es) a = (let less : e.0 < i = a.0 in omega arith, still_below i es a.1)

  pub vacant_first : {X : Type 0} → IsVacant {U = U} {X = X} [] [] 0
  vacant_first = record { slots = refl; room = refl; below = tt; none = λ s. refl }

  pub vacant_more : {X : Type 0} (cs : List (Option X)) (es : List (ℕ × U)) (u : U) (i n : ℕ) → IsVacant cs es i → i < n → IsVacant (cs ++ None ∷ []) (put_entries nat_eq (lru_cache es n) i u) (i + 1)
  vacant_more cs es u i n v lt =
      let all : take (n - 1) es ≡ es = whole es (n - 1) (omega (arith, v.slots)) in
      let e : put_entries nat_eq (lru_cache es n) i u ≡ (i, u) ∷ es = rw (no_below i es v.below) (ap (λ (l : List (ℕ × U)). (i, u) ∷ l) all) in
      subst (λ (l : List (ℕ × U)). IsVacant (cs ++ None ∷ []) l (i + 1)) (sym e)
      record { slots = omega (arith, v.slots); room = omega (arith, v.room, length-append cs (None ∷ [])); below = (omega arith, still_below i es v.below); none = λ s. content_push cs s (v.none s) }

  module _ {K V : Type 0} (cs : List (Option (K × V))) where
    no_home : (es : List (ℕ × U)) (n : ℕ) → IsVacant cs es n → homes (placed cs es) ≡ []
    no_home es n v = by es
      where
        by : (es : List (ℕ × U)) → homes (placed cs es) ≡ []
        by [] = refl
        by (e ∷ es) = rw (v.none e.0) (by es)

    pub vacant_filled : (es : List (ℕ × U)) (n : ℕ) → IsVacant cs es n → filled (placed cs es) ≡ []
    vacant_filled es n v = by es
      where
        by : (es : List (ℕ × U)) → filled (placed cs es) ≡ []
        by [] = refl
        by (e ∷ es) = rw (v.none e.0) (by es)

    pub vacant_tied : (E : K → K → Bool) (es : List (ℕ × U)) (i : ℕ) (x : Indexed K) (room : ℕ) → IsVacant cs es i → x ≡ indexed [] room → i ≤ room → IsTied E (placed cs es) x
    vacant_tied E es i x room v e le = subst (λ (y : Indexed K). IsTied E (placed cs es) y) (sym e) record {
      apart = subst (λ (l : List (K × ℕ)). IsDistinct E (keys_of l)) (sym (no_home es i v)) (no_key E);
      found = λ q. subst (λ (l : List (K × ℕ)). None ≡ lookup (E q) l) (sym (no_home es i v)) refl;
      len = ap length (sym (no_home es i v));
      room = omega (arith, length_placed cs es, v.slots, le);
    }
