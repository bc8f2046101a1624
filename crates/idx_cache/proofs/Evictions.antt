-- What an eviction leaves: of the slots, of the index and of the pairs.
use Rattle.std.proofs.Common.{Option, set, nat_eq, ◌≤◌, ◌≡◌, ℕ, zero, suc, ◌-◌, ◌<◌, Bool, true, false, cond, List, [], ◌∷◌, length, take, filter, is_some, Some, None, refl, sym, ap, ◌∙◌, subst, arith}
use Rattle.std.specs.List.{IsDistinct, AllByRecursion}
use Rattle.std.specs.Map.{lookup, remove_entry, keys_of}
use Rattle.std.specs.Cmp.{IsEquivalence}
use Rattle.std.proofs.lemmas.Map.{lookup-remove_entry}
use Rattle.std.proofs.lemmas.Map.Keys.{IsDistinct-head, IsDistinct-tail}
use Rattle.std.proofs.lemmas.Map.Entries.{lookup-filter-values, option_filter}
use Rattle.std.proofs.lemmas.Map.Made.{IsDistinct-keys_filter}
use Rattle.idx_cache.specs.Cached.{Cached, cached, kept_after_evict}
use Rattle.idx_cache.specs.Indexed.{Indexed}
use Rattle.idx_cache.specs.Slotted.{Slotted, homes, filled, placed, content_at, contents_emptied, IsPacked, IsTied, IsWithin, emptied}
use Rattle.idx_cache.proofs.Keyed.{as_equal, lookup_apart, distinct_remove, length_remove}
use Rattle.idx_cache.proofs.Placed.{set_apart}
use Rattle.idx_cache.proofs.Puts.{packed_from_vacant}
use Rattle.std.proofs.lemmas.List.{length-set}

module _ {K V : Type 0} where
  none_kept : (es : Slotted K V) → filled (emptied 0 es) ≡ []
  none_kept [] = refl
  none_kept (e ∷ es) = none_kept es

  vacant_emptied : (n : ℕ) (es : Slotted K V) → filled es ≡ [] → filled (emptied n es) ≡ []
  vacant_emptied n [] h = refl
  vacant_emptied zero (e ∷ es) h = none_kept es
  vacant_emptied (suc n) ((s, None) ∷ es) h = vacant_emptied n es h
  vacant_emptied (suc n) ((s, Some p) ∷ es) h = cc

  pub filled_emptied : (n : ℕ) (es : Slotted K V) → IsPacked es → filled (emptied n es) ≡ take n (filled es)
  filled_emptied zero es h = none_kept es
  filled_emptied (suc n) [] h = refl
  filled_emptied (suc n) ((s, None) ∷ es) h = rw (h, vacant_emptied n es h) refl
  filled_emptied (suc n) ((s, Some p) ∷ es) h = ap (λ l. p ∷ l) (filled_emptied n es h)

  pub length_emptied : (n : ℕ) (es : Slotted K V) → length (emptied n es) ≡ length es
  length_emptied n [] = refl
  length_emptied zero (e ∷ es) = ap suc (length_emptied zero es)
  length_emptied (suc n) (e ∷ es) = ap suc (length_emptied n es)

  pub packed_emptied : (n : ℕ) (es : Slotted K V) → IsPacked es → IsPacked (emptied n es)
  packed_emptied zero es h = packed_from_vacant (emptied zero es) (none_kept es)
  packed_emptied (suc n) [] h = tt
  packed_emptied (suc n) ((s, None) ∷ es) h = vacant_emptied n es h
  packed_emptied (suc n) ((s, Some p) ∷ es) h = packed_emptied n es h

  pub evict_packed : (n : ℕ) (es new : Slotted K V) → IsPacked es → 0 < length es → new ≡ emptied n es → IsPacked new × (0 < length new)
  evict_packed n es new p some e = subst (λ (l : Slotted K V). IsPacked l × (0 < length l)) (sym e) (packed_emptied n es p, omega (arith, length_emptied n es))

  pub evict_view : (m n : ℕ) (es new : Slotted K V) → IsPacked es → new ≡ emptied m es → m ≡ length (filled es) - n → (old : Cached K V) → cached (filled es) (length es) ≡ old → cached (filled new) (length new) ≡ cached (kept_after_evict n old.pairs) old.cap
  evict_view m n es new p e d old o = subst (λ (x : Cached K V). cached (filled new) (length new) ≡ cached (take (length x.pairs - n) x.pairs) x.cap) o
      (subst (λ (l : Slotted K V). cached (filled l) (length l) ≡ cached (take (length (filled es) - n) (filled es)) (length es)) (sym e)
      (ap (λ l. cached l (length (emptied m es))) (filled_emptied m es p) ∙ ap (λ k. cached (take m (filled es)) k) (length_emptied m es) ∙ ap (λ k. cached (take k (filled es)) (length es)) d))

  -- the homes of the slots that are still filled
  filter_homes : (p : ℕ → Bool) (n : ℕ) (es : Slotted K V) → AllByRecursion (λ e. p e.0 ≡ is_some e.1) (emptied n es) → filter (λ e. p e.1) (homes es) ≡ homes (emptied n es)
  filter_homes p n [] a = refl
  filter_homes p zero ((s, None) ∷ es) a = filter_homes p zero es a.1
  filter_homes p zero ((s, Some q) ∷ es) a = rw a.0 (filter_homes p zero es a.1)
  filter_homes p (suc n) ((s, None) ∷ es) a = filter_homes p n es a.1
  filter_homes p (suc n) ((s, Some q) ∷ es) a = rw a.0 (ap (λ l. (q.0, s) ∷ l) (filter_homes p n es a.1))

module _ {K X : Type 0} {E : K → K → Bool} (laws : IsEquivalence E) where
  rest_same : (x : K × X) (xs ys : List (K × X)) → IsDistinct E (keys_of (x ∷ xs)) → IsDistinct E (keys_of ys) → ((q : K) → lookup (E q) (x ∷ xs) ≡ lookup (E q) ys) → (q : K) → lookup (E q) xs ≡ lookup (E q) (remove_entry (E x.0) ys)
  rest_same x xs ys d c same q =
      let gets = lookup-remove_entry laws (E x.0) (λ a b e. laws.congr x.0 a b e) q ys c in
      (elim (E x.0 q) as (λ b. E x.0 q ≡ b → lookup (E q) xs ≡ lookup (E q) (remove_entry (E x.0) ys)) [
        | true ↦ λ e. lookup_apart (E q) xs (as_equal laws x.0 q e (keys_of xs) (IsDistinct-head E x.0 (keys_of xs) d)) ∙ ap (λ b. cond b None (lookup (E q) ys)) (sym e) ∙ sym gets
        | false ↦ λ e. ap (λ b. cond b (Some x.1) (lookup (E q) xs)) (sym (laws.symm q x.0 ∙ e)) ∙ same q ∙ ap (λ b. cond b None (lookup (E q) ys)) (sym e) ∙ sym gets
      ]) refl

  -- two lists of keys that differ, in which a look finds the same, are equally long
  same_length : (xs ys : List (K × X)) → IsDistinct E (keys_of xs) → IsDistinct E (keys_of ys) → ((q : K) → lookup (E q) xs ≡ lookup (E q) ys) → length xs ≡ length ys
  same_length [] [] d c same = refl
  same_length [] (y ∷ ys) d c same = let clash : None ≡ Some y.1 = same y.0 ∙ ap (λ b. cond b (Some y.1) (lookup (E y.0) ys)) (laws.refl y.0) in cc
  same_length (x ∷ xs) ys d c same =
      let there : lookup (E x.0) ys ≡ Some x.1 = sym (same x.0) ∙ ap (λ b. cond b (Some x.1) (lookup (E x.0) xs)) (laws.refl x.0) in
      omega (arith, length_remove (E x.0) x.1 ys there, same_length xs (remove_entry (E x.0) ys) (IsDistinct-tail E x.0 (keys_of xs) d) (distinct_remove (E x.0) E ys c) (rest_same x xs ys d c same))

-- an index that keeps what is still filled
pub emptied_tied : {K V : Type 0} {E : K → K → Bool} → IsEquivalence E → (p : ℕ → Bool) (n : ℕ) (es : Slotted K V) (x y : Indexed K) → IsTied E es x → IsDistinct E (keys_of x.entries) → AllByRecursion (λ e. p e.0 ≡ is_some e.1) (emptied n es) → y.entries ≡ filter (λ e. p e.1) x.entries → y.room ≡ x.room → IsTied E (emptied n es) y
emptied_tied {K = K} {E = E} laws p n es x y tied apart a e room =
    let kept = filter_homes p n es a in
    let homes_apart : IsDistinct E (keys_of (homes (emptied n es))) = subst (λ (l : List (K × ℕ)). IsDistinct E (keys_of l)) kept (IsDistinct-keys_filter E (λ h. p h.1) (homes es) tied.apart) in
    let entries_apart : IsDistinct E (keys_of y.entries) = subst (λ (l : List (K × ℕ)). IsDistinct E (keys_of l)) (sym e) (IsDistinct-keys_filter E (λ h. p h.1) x.entries apart) in
    let found : (q : K) → lookup (E q) y.entries ≡ lookup (E q) (homes (emptied n es)) = λ q.
    ap (λ (l : List (K × ℕ)). lookup (E q) l) e ∙ lookup-filter-values laws p q x.entries apart ∙ ap (option_filter p) (tied.found q) ∙ sym (lookup-filter-values laws p q (homes es) tied.apart) ∙ ap (λ (l : List (K × ℕ)). lookup (E q) l) kept in
    record { apart = homes_apart; found = found; len = same_length laws y.entries (homes (emptied n es)) entries_apart homes_apart found; room = omega (arith, length_emptied n es, tied.room, room) }

-- what is left of an eviction on its way through the order
pub record Emptying (K V U : Type 0) (left : ℕ) (rest : List (ℕ × U)) (cs last : List (Option (K × V))) : Type 0 where
  pub same : contents_emptied left rest cs ≡ last
  pub within : IsWithin (length cs) rest
  pub packed : IsPacked (placed cs rest)
  pub apart : IsDistinct nat_eq (keys_of rest)

module _ {K V : Type 0} where
  packed_tail : (s : ℕ) (c : Option (K × V)) (es : Slotted K V) → IsPacked ((s, c) ∷ es) → IsPacked es
  packed_tail s None es h = packed_from_vacant es h
  packed_tail s (Some p) es h = h

  set_none : (cs : List (Option (K × V))) (s : ℕ) → s < length cs → content_at cs s ≡ None → set cs s None ≡ cs
  set_none [] s lt h = absurd (omega arith)
  set_none (c ∷ cs) zero lt h = rw h refl
  set_none (c ∷ cs) (suc s) lt h = ap (λ l. c ∷ l) (set_none cs s (omega arith) h)

module _ {K V U : Type 0} where
  pub emptying_skip : (left : ℕ) (e : ℕ × U) (rest : List (ℕ × U)) (cs last : List (Option (K × V))) → Emptying K V U left (e ∷ rest) cs last → 0 < left → Emptying K V U (left - 1) rest cs last
  emptying_skip zero e rest cs last t some = absurd (omega arith)
  emptying_skip (suc left) e rest cs last t some = subst (λ n. Emptying K V U n rest cs last) {x = left} {y = suc left - 1} (omega arith)
      record { same = t.same; within = t.within.1; packed = packed_tail e.0 (content_at cs e.0) (placed cs rest) t.packed; apart = IsDistinct-tail nat_eq e.0 (keys_of rest) t.apart }

  pub emptying_next : (left : ℕ) (e : ℕ × U) (rest : List (ℕ × U)) (cs last : List (Option (K × V))) → Emptying K V U left (e ∷ rest) cs last → left ≤ 0 → Emptying K V U left rest (set cs e.0 None) last
  emptying_next zero e rest cs last t none = record {
    same = t.same;
    within = subst (λ n. IsWithin n rest) (sym (length-set cs e.0 None)) t.within.1;
    packed = subst (λ (l : Slotted K V). IsPacked l) (sym (set_apart e.0 cs None rest (IsDistinct-head nat_eq e.0 (keys_of rest) t.apart))) (packed_tail e.0 (content_at cs e.0) (placed cs rest) t.packed);
    apart = IsDistinct-tail nat_eq e.0 (keys_of rest) t.apart;
  }
  emptying_next (suc left) e rest cs last t none = absurd (omega arith)

  none_left : (cs : List (Option (K × V))) (es : List (ℕ × U)) → IsWithin (length cs) es → filled (placed cs es) ≡ [] → contents_emptied 0 es cs ≡ cs
  none_left cs [] w h = refl
  none_left cs (e ∷ es) w h = (elim (content_at cs e.0) as (λ c. content_at cs e.0 ≡ c → contents_emptied 0 es (set cs e.0 None) ≡ cs) [
    | None ↦ λ is. rw (set_none cs e.0 w.0 is) (none_left cs es w.1 (rw is at h))
    | Some p ↦ λ is. let h' = rw is at h in cc
  ]) refl

  pub emptying_end : (left : ℕ) (e : ℕ × U) (rest : List (ℕ × U)) (cs last : List (Option (K × V))) → Emptying K V U left (e ∷ rest) cs last → left ≤ 0 → content_at cs e.0 ≡ None → cs ≡ last
  emptying_end zero e rest cs last t none empty = sym (none_left cs (e ∷ rest) t.within (rw empty (rw empty at t.packed))) ∙ t.same
  emptying_end (suc left) e rest cs last t none empty = absurd (omega arith)
