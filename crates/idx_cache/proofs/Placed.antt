-- What the order of the slots and their contents say together.
use Rattle.std.proofs.Common.{◌≡◌, ℕ, zero, suc, ◌-◌, ◌<◌, Bool, true, false, cond, List, [], ◌∷◌, ◌++◌, length, nat_eq, set, Option, Some, None, IsSome, is_some, refl, sym, ap, ◌∙◌, subst, arith, append_assoc, slice_get}
use Rattle.std.specs.List.{IsDistinct, AllByRecursion}
use Rattle.std.specs.Option.{option_map, option_map_or, option_flatten}
use Rattle.std.specs.Map.{lookup, lookup_entry, remove_entry, keys_of}
use Rattle.std.specs.Cmp.{nat_eq_equiv}
use Rattle.std.proofs.lemmas.Bool.Decides.{nat_tests}
use Rattle.std.proofs.lemmas.List.{length-set}
use Rattle.std.proofs.lemmas.Map.Keys.{IsDistinct-head, IsDistinct-tail}
use Rattle.lru.specs.LruCache.{promoted, last_entry}
use Rattle.idx_cache.specs.Slotted.{content_at, filled, placed, contents_emptied, emptied, IsWithin}
use Rattle.idx_cache.proofs.Keyed.{all_remove, others_apart}
use Rattle.idx_cache.proofs.Ties.{some_of, entry_of}

module _ {X : Type 0} where
  content_set_same : (cs : List (Option X)) (s : ℕ) (c : Option X) → s < length cs → content_at (set cs s c) s ≡ c
  content_set_same [] s c lt = absurd (omega arith)
  content_set_same (d ∷ cs) zero c lt = refl
  content_set_same (d ∷ cs) (suc s) c lt = content_set_same cs s c (omega arith)

  content_set_none : (cs : List (Option X)) (s : ℕ) → content_at (set cs s None) s ≡ None
  content_set_none [] s = refl
  content_set_none (d ∷ cs) zero = refl
  content_set_none (d ∷ cs) (suc s) = content_set_none cs s

  other_content : (cs : List (Option X)) (s t : ℕ) (c : Option X) → (s ≡ t → ⊥) → content_at (set cs s c) t ≡ content_at cs t
  other_content [] s t c ne = refl
  other_content (d ∷ cs) zero zero c ne = absurd (ne refl)
  other_content (d ∷ cs) zero (suc t) c ne = refl
  other_content (d ∷ cs) (suc s) zero c ne = refl
  other_content (d ∷ cs) (suc s) (suc t) c ne = other_content cs s t c (λ e. ne (ap suc e))

  content_set_other : (cs : List (Option X)) (s t : ℕ) (c : Option X) → nat_eq s t ≡ false → content_at (set cs s c) t ≡ content_at cs t
  content_set_other cs s t c other = other_content cs s t c (λ e. clash e)
    where
      clash : s ≡ t → ⊥
      clash e = grind (arith, nat_tests)

  pub content_push : (cs : List (Option X)) (s : ℕ) → content_at cs s ≡ None → content_at (cs ++ None ∷ []) s ≡ None
  content_push [] zero h = refl
  content_push [] (suc s) h = refl
  content_push (c ∷ cs) zero h = h
  content_push (c ∷ cs) (suc s) h = content_push cs s h

module _ {U : Type 0} where
  -- a slot of the order is within the contents
  pub within_of : (P : ℕ → Type 0) (s : ℕ) (es : List (ℕ × U)) → AllByRecursion P (keys_of es) → IsSome (lookup (nat_eq s) es) → P s
  within_of P s [] a h = cc
  within_of P s (e ∷ es) a h = (elim (nat_eq s e.0) as (λ b. nat_eq s e.0 ≡ b → P s) [
    | true ↦ λ b. subst P (slot_is b) a.0
    | false ↦ λ b. within_of P s es a.1 (rw b at h)
  ]) refl
    where
      slot_is : nat_eq s e.0 ≡ true → e.0 ≡ s
      slot_is b = grind (arith, nat_tests)

  pub promoted_within : (P : ℕ → Type 0) (s : ℕ) (es : List (ℕ × U)) → AllByRecursion P (keys_of es) → IsSome (lookup (nat_eq s) es) → AllByRecursion P (keys_of (promoted (nat_eq s) es))
  promoted_within P s es a h =
      let held = some_of (lookup (nat_eq s) es) h in
      rw (entry_of s held.0 es held.1) (within_of P s es a h, all_remove (nat_eq s) P es a)

module _ {U X : Type 0} where
  pub keys_placed : (cs : List (Option X)) (es : List (ℕ × U)) → keys_of (placed cs es) ≡ keys_of es
  keys_placed cs [] = refl
  keys_placed cs (e ∷ es) = ap (λ l. e.0 ∷ l) (keys_placed cs es)

  pub length_placed : (cs : List (Option X)) (es : List (ℕ × U)) → length (placed cs es) ≡ length es
  length_placed cs [] = refl
  length_placed cs (e ∷ es) = ap suc (length_placed cs es)

  pub apart_placed : (cs : List (Option X)) (es : List (ℕ × U)) → IsDistinct nat_eq (keys_of es) → (now : List (ℕ × Option X)) → placed cs es ≡ now → IsDistinct nat_eq (keys_of now)
  apart_placed cs es d now e = subst (λ (l : List (ℕ × Option X)). IsDistinct nat_eq (keys_of l)) e (subst (λ l. IsDistinct nat_eq l) (sym (keys_placed cs es)) d)

  pub present_placed : (s : ℕ) (cs : List (Option X)) (es : List (ℕ × U)) → IsSome (lookup (nat_eq s) (placed cs es)) → IsSome (lookup (nat_eq s) es)
  present_placed s cs [] h = h
  present_placed s cs (e ∷ es) h = (elim (nat_eq s e.0) as (λ b. nat_eq s e.0 ≡ b → IsSome (cond b (Some e.1) (lookup (nat_eq s) es))) [
    | true ↦ λ b. refl
    | false ↦ λ b. present_placed s cs es (rw b at h)
  ]) refl

  -- what a slot of the order holds
  pub lookup_placed : (s : ℕ) (cs : List (Option X)) (es : List (ℕ × U)) → IsSome (lookup (nat_eq s) (placed cs es)) → lookup (nat_eq s) (placed cs es) ≡ Some (content_at cs s)
  lookup_placed s cs [] h = cc
  lookup_placed s cs (e ∷ es) h = (elim (nat_eq s e.0) as (λ b. nat_eq s e.0 ≡ b → cond b (Some (content_at cs e.0)) (lookup (nat_eq s) (placed cs es)) ≡ Some (content_at cs s)) [
    | true ↦ λ b. let same : e.0 ≡ s = slot_is b in ap (λ t. Some (content_at cs t)) same
    | false ↦ λ b. lookup_placed s cs es (rw b at h)
  ]) refl
    where
      slot_is : nat_eq s e.0 ≡ true → e.0 ≡ s
      slot_is b = grind (arith, nat_tests)

  pub content_placed : (s : ℕ) (cs : List (Option X)) (es : List (ℕ × U)) (now : List (ℕ × Option X)) → placed cs es ≡ now → IsSome (lookup (nat_eq s) now) → content_at cs s ≡ option_flatten (lookup (nat_eq s) now)
  content_placed s cs es now e h = subst (λ (l : List (ℕ × Option X)). IsSome (lookup (nat_eq s) l) → content_at cs s ≡ option_flatten (lookup (nat_eq s) l)) e (λ p. sym (ap option_flatten (lookup_placed s cs es p))) h

  -- what a slot of the order holds, by the order
  pub held_placed : (s : ℕ) (cs : List (Option X)) (es : List (ℕ × U)) → IsSome (lookup (nat_eq s) es) → content_at cs s ≡ option_flatten (lookup (nat_eq s) (placed cs es))
  held_placed s cs es h = content_placed s cs es (placed cs es) refl (still es h)
    where
      still : (es : List (ℕ × U)) → IsSome (lookup (nat_eq s) es) → IsSome (lookup (nat_eq s) (placed cs es))
      still [] h = h
      still (e ∷ es) h = (elim (nat_eq s e.0) as (λ b. nat_eq s e.0 ≡ b → IsSome (cond b (Some (content_at cs e.0)) (lookup (nat_eq s) (placed cs es)))) [
        | true ↦ λ b. refl
        | false ↦ λ b. still es (rw b at h)
      ]) refl

  remove_placed : (test : ℕ → Bool) (cs : List (Option X)) (es : List (ℕ × U)) → remove_entry test (placed cs es) ≡ placed cs (remove_entry test es)
  remove_placed test cs [] = refl
  remove_placed test cs (e ∷ es) = elim (test e.0) as (λ b. cond b (placed cs es) ((e.0, content_at cs e.0) ∷ remove_entry test (placed cs es)) ≡ placed cs (cond b es (e ∷ remove_entry test es))) [
    | true ↦ refl
    | false ↦ ap (λ l. (e.0, content_at cs e.0) ∷ l) (remove_placed test cs es)
  ]

  entry_placed : (test : ℕ → Bool) (cs : List (Option X)) (es : List (ℕ × U)) → lookup_entry test (placed cs es) ≡ option_map (λ e. (e.0, content_at cs e.0)) (lookup_entry test es)
  entry_placed test cs [] = refl
  entry_placed test cs (e ∷ es) = elim (test e.0) as (λ b. cond b (Some (e.0, content_at cs e.0)) (lookup_entry test (placed cs es)) ≡ option_map (λ e. (e.0, content_at cs e.0)) (cond b (Some e) (lookup_entry test es))) [
    | true ↦ refl
    | false ↦ entry_placed test cs es
  ]

  pub promoted_placed : (test : ℕ → Bool) (cs : List (Option X)) (es : List (ℕ × U)) → placed cs (promoted test es) ≡ promoted test (placed cs es)
  promoted_placed test cs es = rw (entry_placed test cs es, remove_placed test cs es)
      (elim (lookup_entry test es) as (λ o. placed cs (option_map_or (λ e. e ∷ remove_entry test es) o es) ≡ option_map_or (λ e. e ∷ placed cs (remove_entry test es)) (option_map (λ e. (e.0, content_at cs e.0)) o) (placed cs es)) [
        | None ↦ refl
        | Some e ↦ refl
      ])

  pub last_placed : (cs : List (Option X)) (es : List (ℕ × U)) → option_map (λ e. e.0) (last_entry (placed cs es)) ≡ option_map (λ e. e.0) (last_entry es)
  last_placed cs es = ap (λ n. option_map (λ e. e.0) (slice_get (placed cs es) (n - 1))) (length_placed cs es) ∙ slot_at es (length es - 1)
    where
      slot_at : (es : List (ℕ × U)) (i : ℕ) → option_map (λ e. e.0) (slice_get (placed cs es) i) ≡ option_map (λ e. e.0) (slice_get es i)
      slot_at [] i = refl
      slot_at (e ∷ es) zero = refl
      slot_at (e ∷ es) (suc i) = slot_at es i

  pub set_apart : (s : ℕ) (cs : List (Option X)) (c : Option X) (es : List (ℕ × U)) → AllByRecursion (λ y. nat_eq s y ≡ false) (keys_of es) → placed (set cs s c) es ≡ placed cs es
  set_apart s cs c [] a = refl
  set_apart s cs c (e ∷ es) a = rw (content_set_other cs s e.0 c a.0) (ap (λ l. (e.0, content_at cs e.0) ∷ l) (set_apart s cs c es a.1))

  -- a slot that goes to the front with another content
  pub front_placed : (s : ℕ) (cs : List (Option X)) (c : Option X) (es : List (ℕ × U)) → IsWithin (length cs) es → IsDistinct nat_eq (keys_of es) → IsSome (lookup (nat_eq s) es) → placed (set cs s c) (promoted (nat_eq s) es) ≡ (s, c) ∷ remove_entry (nat_eq s) (placed cs es)
  front_placed s cs c es within apart h =
      let held = some_of (lookup (nat_eq s) es) h in
      let rest = set_apart s cs c (remove_entry (nat_eq s) es) (others_apart nat_eq_equiv s es apart) in
      rw (entry_of s held.0 es held.1, remove_placed (nat_eq s) cs es, content_set_same cs s c (within_of (λ y. y < length cs) s es within h)) (ap (λ l. (s, c) ∷ l) rest)

  pub front_within : (s : ℕ) (cs : List (Option X)) (c : Option X) (es : List (ℕ × U)) → IsWithin (length cs) es → IsSome (lookup (nat_eq s) es) → IsWithin (length (set cs s c)) (promoted (nat_eq s) es)
  front_within s cs c es within h = subst (λ n. IsWithin n (promoted (nat_eq s) es)) (sym (length-set cs s c)) (promoted_within (λ y. y < length cs) s es within h)

  kept_content : (n : ℕ) (es : List (ℕ × U)) (cs : List (Option X)) (s : ℕ) → AllByRecursion (λ y. nat_eq s y ≡ false) (keys_of es) → content_at (contents_emptied n es cs) s ≡ content_at cs s
  kept_content n [] cs s a = refl
  kept_content zero (e ∷ es) cs s a = kept_content zero es (set cs e.0 None) s a.1 ∙ content_set_other cs e.0 s None (nat_eq_equiv.symm e.0 s ∙ a.0)
  kept_content (suc n) (e ∷ es) cs s a = kept_content n es cs s a.1

  pub emptied_placed : (n : ℕ) (es : List (ℕ × U)) (cs : List (Option X)) → IsDistinct nat_eq (keys_of es) → placed (contents_emptied n es cs) es ≡ emptied n (placed cs es)
  emptied_placed n [] cs d = refl
  emptied_placed zero (e ∷ es) cs d =
      let head = IsDistinct-head nat_eq e.0 (keys_of es) d in
      rw (kept_content zero es (set cs e.0 None) e.0 head ∙ content_set_none cs e.0, emptied_placed zero es (set cs e.0 None) (IsDistinct-tail nat_eq e.0 (keys_of es) d), set_apart e.0 cs None es head) refl
  emptied_placed (suc n) (e ∷ es) cs d =
      rw (kept_content n es cs e.0 (IsDistinct-head nat_eq e.0 (keys_of es) d)) (ap (λ l. (e.0, content_at cs e.0) ∷ l) (emptied_placed n es cs (IsDistinct-tail nat_eq e.0 (keys_of es) d)))

  pub length_contents : (n : ℕ) (es : List (ℕ × U)) (cs : List (Option X)) → length (contents_emptied n es cs) ≡ length cs
  length_contents n [] cs = refl
  length_contents zero (e ∷ es) cs = length_contents zero es (set cs e.0 None) ∙ length-set cs e.0 None
  length_contents (suc n) (e ∷ es) cs = length_contents n es cs

  -- a slot of the order is filled where its content is there
  pub filled_placed : (cs : List (Option X)) (es : List (ℕ × U)) → AllByRecursion (λ e. is_some (content_at cs e.0) ≡ is_some e.1) (placed cs es)
  filled_placed cs [] = tt
  filled_placed cs (e ∷ es) = (refl, filled_placed cs es)

-- the key of the pair in the first of the slots that are left goes to those before it
pub keys_next : {K V : Type 0} (contents : List (Option (K × V))) (before all : List K) (slot : ℕ) (rest : List (ℕ × Unit {0})) (pair : K × V) → content_at contents slot ≡ Some pair → before ++ keys_of (filled (placed contents ((slot, tt) ∷ rest))) ≡ all → (before ++ pair.0 ∷ []) ++ keys_of (filled (placed contents rest)) ≡ all
keys_next {K} {V} contents before all slot rest pair at is =
    append_assoc before (pair.0 ∷ []) (keys_of (filled (placed contents rest)))
    ∙ (sym (ap (λ (o : Option (K × V)). before ++ keys_of (filled ((slot, o) ∷ placed contents rest))) at) ∙ is)
