-- What looks, puts and evictions do to a list of pairs: for code that goes through a cache in runs.
use Rattle.std.proofs.Common.{◌≡◌, ℕ, zero, suc, ◌+◌, ◌-◌, ◌<◌, ◌≤◌, Bool, true, false, cond, List, [], ◌∷◌, ◌++◌, length, take, All, Some, None, refl, sym, ap, ◌∙◌, subst, arith, inl, inr}
use Rattle.std.specs.List.{IsDistinct, AllByRecursion}
use Rattle.std.specs.Option.{option_map_or}
use Rattle.std.specs.Map.{lookup, lookup_entry, remove_entry, keys_of}
use Rattle.std.specs.Cmp.{IsEquivalence}
use Rattle.std.proofs.lemmas.Bool.{cases_lt}
use Rattle.std.proofs.lemmas.List.{length-take, take-append-le}
use Rattle.std.proofs.lemmas.List.Elements.{All-cons, All-head, All-tail, All-take, All-contains}
use Rattle.std.proofs.lemmas.Map.Keys.{IsDistinct-head, IsDistinct-tail, IsDistinct-cons}
use Rattle.std.proofs.Math.Seq.{take-append-add}
use Rattle.lru.proofs.CallerLemmas.{Contains-lookup}
use Rattle.idx_cache.specs.Cached.{Cached, cached, found, raised, raise_all, put_pair, put_all, kept_after_evict, IsBounded}
use Rattle.idx_cache.proofs.Keyed.{same_lookup, distinct_remove, length_remove, as_equal, others_apart}

-- one test of the keys
module _ {K V : Type 0} (test : K → Bool) where
  entry_found : (ps : List (K × V)) (p : K × V) → lookup_entry test ps ≡ Some p → (test p.0 ≡ true) × (lookup test ps ≡ Some p.1)
  entry_found [] p h = cc
  entry_found (e ∷ ps) p h = (elim (test e.0) as (λ b. test e.0 ≡ b → (test p.0 ≡ true) × (cond b (Some e.1) (lookup test ps) ≡ Some p.1)) [
    | true ↦ λ b. let h' = rw b at h in let same : e ≡ p = cc in (ap (λ (x : K × V). test x.0) (sym same) ∙ b, ap (λ (x : K × V). Some x.1) same)
    | false ↦ λ b. entry_found ps p (rw b at h)
  ]) refl

  lookup_other : (other : K → Bool) → ((x : K) → test x ≡ true → other x ≡ false) → (ps : List (K × V)) → lookup other (remove_entry test ps) ≡ lookup other ps
  lookup_other other apart [] = refl
  lookup_other other apart (e ∷ ps) = (elim (test e.0) as (λ b. test e.0 ≡ b → lookup other (cond b ps (e ∷ remove_entry test ps)) ≡ cond (other e.0) (Some e.1) (lookup other ps)) [
    | true ↦ λ b. rw (apart e.0 b) refl
    | false ↦ λ b. ap (λ o. cond (other e.0) (Some e.1) o) (lookup_other other apart ps)
  ]) refl

  remove_behind : (done ps : List (K × V)) → lookup test done ≡ None → remove_entry test (done ++ ps) ≡ done ++ remove_entry test ps
  remove_behind [] ps h = refl
  remove_behind (e ∷ done) ps h = (elim (test e.0) as (λ b. test e.0 ≡ b → cond b (done ++ ps) (e ∷ remove_entry test (done ++ ps)) ≡ e ∷ (done ++ remove_entry test ps)) [
    | true ↦ λ b. let h' = rw b at h in cc
    | false ↦ λ b. ap (λ l. e ∷ l) (remove_behind done ps (rw b at h))
  ]) refl

  entry_all : (P : K × V → Type 0) (ps : List (K × V)) (p : K × V) → All P ps → lookup_entry test ps ≡ Some p → P p
  entry_all P [] p a h = cc
  entry_all P (e ∷ ps) p a h = (elim (test e.0) as (λ b. test e.0 ≡ b → P p) [
    | true ↦ λ b. let h' = rw b at h in let same : e ≡ p = cc in subst P same (All-head P e ps a)
    | false ↦ λ b. entry_all P ps p (All-tail P e ps a) (rw b at h)
  ]) refl

  all_without : (P : K × V → Type 0) (ps : List (K × V)) → All P ps → All P (remove_entry test ps)
  all_without P [] a = a
  all_without P (e ∷ ps) a = elim (test e.0) as (λ b. All P (cond b ps (e ∷ remove_entry test ps))) [
    | true ↦ All-tail P e ps a
    | false ↦ All-cons P e (remove_entry test ps) (All-head P e ps a) (all_without P ps (All-tail P e ps a))
  ]

  -- what holds of the list and of the list with the found pair in front holds of what a look leaves
  look : (Q : List (K × V) → Type 0) (ps : List (K × V)) → Q ps → ((p : K × V) → lookup_entry test ps ≡ Some p → Q (p ∷ remove_entry test ps)) → Q (option_map_or (λ p. p ∷ remove_entry test ps) (lookup_entry test ps) ps)
  look Q ps same front = (elim (lookup_entry test ps) as (λ o. lookup_entry test ps ≡ o → Q (option_map_or (λ p. p ∷ remove_entry test ps) o ps)) [
    | None ↦ λ e. same
    | Some p ↦ λ e. front p e
  ]) refl

module _ {K V : Type 0} (E : K → K → Bool) where
  -- what holds of each pair holds of each after a look
  pub All-raised : (P : K × V → Type 0) (k : K) (ps : List (K × V)) → All P ps → All P (raised E k ps)
  All-raised P k ps a = look (E k) (All P) ps a (λ p e. All-cons P p (remove_entry (E k) ps) (entry_all (E k) P ps p a e) (all_without (E k) P ps a))

  -- and after many looks
  pub All-raise_all : (P : K × V → Type 0) (ks : List K) (ps : List (K × V)) → All P ps → All P (raise_all E ks ps)
  All-raise_all P [] ps a = a
  All-raise_all P (k ∷ ks) ps a = All-raise_all P ks (raised E k ps) (All-raised P k ps a)

  -- what holds of each pair and of the new one holds of each after a put
  pub All-put_pair : (P : K × V → Type 0) (cap : ℕ) (new : K × V) (ps : List (K × V)) → P new → All P ps → All P (put_pair E cap new ps)
  All-put_pair P cap new ps n a = All-take P cap (new ∷ remove_entry (E new.0) ps) (All-cons P new (remove_entry (E new.0) ps) n (all_without (E new.0) P ps a))

  -- and after many puts
  pub All-put_all : (P : K × V → Type 0) (cap : ℕ) (new ps : List (K × V)) → All P new → All P ps → All P (put_all E cap new ps)
  All-put_all P cap [] ps n a = a
  All-put_all P cap (p ∷ new) ps n a = All-put_all P cap new (put_pair E cap p ps) (All-tail P p new n) (All-put_pair P cap p ps (All-head P p new n) a)

  -- a value that is found stands in a pair with an equal key, of which holds what holds of each
  pub found-holds : (P : K × V → Type 0) (k : K) (ps : List (K × V)) (v : V) → All P ps → found E k ps ≡ Some v → (q : K) × (E k q ≡ true) × P (q, v)
  found-holds P k ps v a h = let on = Contains-lookup (E k) ps v h in (on.0, on.2, All-contains P ps (on.0, v) a on.1)

  -- puts of two lists, one after the other
  pub put_all-append : (cap : ℕ) (xs ys ps : List (K × V)) → put_all E cap (xs ++ ys) ps ≡ put_all E cap ys (put_all E cap xs ps)
  put_all-append cap [] ys ps = refl
  put_all-append cap (x ∷ xs) ys ps = put_all-append cap xs ys (put_pair E cap x ps)

  -- looks at two lists, one after the other
  pub raise_all-append : (xs ys : List K) (ps : List (K × V)) → raise_all E (xs ++ ys) ps ≡ raise_all E ys (raise_all E xs ps)
  raise_all-append [] ys ps = refl
  raise_all-append (x ∷ xs) ys ps = raise_all-append xs ys (raised E x ps)

  -- a look keeps the number of pairs
  pub length-raised : (k : K) (ps : List (K × V)) → length (raised E k ps) ≡ length ps
  length-raised k ps = look (E k) (λ l. length l ≡ length ps) ps refl (λ p e. omega (arith, length_remove (E k) p.1 ps (entry_found (E k) ps p e).1))

  -- and so do many looks
  pub length-raise_all : (ks : List K) (ps : List (K × V)) → length (raise_all E ks ps) ≡ length ps
  length-raise_all [] ps = refl
  length-raise_all (k ∷ ks) ps = length-raise_all ks (raised E k ps) ∙ length-raised k ps

  -- a put leaves at most as many pairs as there may be
  pub length-put_pair : (cap : ℕ) (new : K × V) (ps : List (K × V)) → length (put_pair E cap new ps) ≤ cap
  length-put_pair cap new ps = omega (arith, length-take cap (new ∷ remove_entry (E new.0) ps))

  -- and so do many puts
  pub length-put_all : (cap : ℕ) (new ps : List (K × V)) → length ps ≤ cap → length (put_all E cap new ps) ≤ cap
  length-put_all cap [] ps le = le
  length-put_all cap (p ∷ new) ps le = length-put_all cap new (put_pair E cap p ps) (length-put_pair cap p ps)

-- what holds of each pair holds of each that an eviction leaves
pub All-kept_after_evict : {K V : Type 0} (P : K × V → Type 0) (n : ℕ) (ps : List (K × V)) → All P ps → All P (kept_after_evict n ps)
All-kept_after_evict P n ps a = All-take P (length ps - n) ps a

-- an eviction leaves all pairs but n, or none
pub length-kept_after_evict : {K V : Type 0} (n : ℕ) (ps : List (K × V)) → length (kept_after_evict n ps) ≡ length ps - n
length-kept_after_evict n ps = omega (arith, length-take (length ps - n) ps)

none_distinct : {K : Type 0} (V : Type 0) (E : K → K → Bool) → IsDistinct E (keys_of {K = K} {X = V} [])
unfolding IsDistinct
none_distinct V E = tt

module _ {K V : Type 0} (E : K → K → Bool) where
  all_keys_take : (P : K → Type 0) (n : ℕ) (ps : List (K × V)) → AllByRecursion P (keys_of ps) → AllByRecursion P (keys_of (take n ps))
  all_keys_take P zero ps a = tt
  all_keys_take P (suc n) [] a = a
  all_keys_take P (suc n) (p ∷ ps) a = (a.0, all_keys_take P n ps a.1)

  apart_take : (n : ℕ) (ps : List (K × V)) → IsDistinct E (keys_of ps) → IsDistinct E (keys_of (take n ps))
  apart_take zero ps d = none_distinct V E
  apart_take (suc n) [] d = d
  apart_take (suc n) (p ∷ ps) d = IsDistinct-cons E p.0 (keys_of (take n ps)) (all_keys_take (λ y. E p.0 y ≡ false) n ps (IsDistinct-head E p.0 (keys_of ps) d)) (apart_take n ps (IsDistinct-tail E p.0 (keys_of ps) d))

  -- keys that differ still do after an eviction
  pub apart-evicted : (n : ℕ) (ps : List (K × V)) → IsDistinct E (keys_of ps) → IsDistinct E (keys_of (kept_after_evict n ps))
  apart-evicted n ps d = apart_take (length ps - n) ps d

behind_none : {K : Type 0} (V : Type 0) (E : K → K → Bool) (ks : List K) → AllByRecursion (λ z. lookup {K = K} {X = V} (E z) [] ≡ None) ks
behind_none V E [] = tt
behind_none V E (z ∷ ks) = (refl, behind_none V E ks)

module _ {K V : Type 0} {E : K → K → Bool} (laws : IsEquivalence E) where
  -- keys that differ still do after a look
  pub apart-raised : (k : K) (ps : List (K × V)) → IsDistinct E (keys_of ps) → IsDistinct E (keys_of (raised E k ps))
  apart-raised k ps d = look (E k) (λ l. IsDistinct E (keys_of l)) ps d (λ p e.
      IsDistinct-cons E p.0 (keys_of (remove_entry (E k) ps)) (as_equal laws k p.0 (entry_found (E k) ps p e).0 (keys_of (remove_entry (E k) ps)) (others_apart laws k ps d)) (distinct_remove (E k) E ps d))

  -- and after many looks
  pub apart-raise_all : (ks : List K) (ps : List (K × V)) → IsDistinct E (keys_of ps) → IsDistinct E (keys_of (raise_all E ks ps))
  apart-raise_all [] ps d = d
  apart-raise_all (k ∷ ks) ps d = apart-raise_all ks (raised E k ps) (apart-raised k ps d)

  -- and after a put
  pub apart-put_pair : (cap : ℕ) (new : K × V) (ps : List (K × V)) → IsDistinct E (keys_of ps) → IsDistinct E (keys_of (put_pair E cap new ps))
  apart-put_pair cap new ps d = apart_take E cap (new ∷ remove_entry (E new.0) ps) (IsDistinct-cons E new.0 (keys_of (remove_entry (E new.0) ps)) (others_apart laws new.0 ps d) (distinct_remove (E new.0) E ps d))

  -- and after many puts
  pub apart-put_all : (cap : ℕ) (new ps : List (K × V)) → IsDistinct E (keys_of ps) → IsDistinct E (keys_of (put_all E cap new ps))
  apart-put_all cap [] ps d = d
  apart-put_all cap (p ∷ new) ps d = apart-put_all cap new (put_pair E cap p ps) (apart-put_pair cap p ps d)

  found_front : (q k : K) (ps : List (K × V)) (p : K × V) → lookup_entry (E k) ps ≡ Some p → lookup (E q) (p ∷ remove_entry (E k) ps) ≡ lookup (E q) ps
  found_front q k ps p h =
      let on = entry_found (E k) ps p h in
      (elim (E q p.0) as (λ b. E q p.0 ≡ b → cond b (Some p.1) (lookup (E q) (remove_entry (E k) ps)) ≡ lookup (E q) ps) [
        | true ↦ λ b. sym on.1 ∙ same_lookup (λ x. laws.congr k p.0 x on.0 ∙ sym (laws.congr q p.0 x b)) ps
        | false ↦ λ b. lookup_other (E k) (E q) (λ x e. laws.symm q x ∙ sym (laws.congr k x q e) ∙ laws.congr k p.0 q on.0 ∙ laws.symm p.0 q ∙ b) ps
      ]) refl

  -- a look changes no value
  pub found-raised : (q k : K) (ps : List (K × V)) → found E q (raised E k ps) ≡ found E q ps
  found-raised q k ps = look (E k) (λ l. lookup (E q) l ≡ lookup (E q) ps) ps refl (λ p e. found_front q k ps p e)

  -- and neither do many looks
  pub found-raise_all : (q : K) (ks : List K) (ps : List (K × V)) → found E q (raise_all E ks ps) ≡ found E q ps
  found-raise_all q [] ps = refl
  found-raise_all q (k ∷ ks) ps = found-raise_all q ks (raised E k ps) ∙ found-raised q k ps

  -- no key of the list is found among the pairs
  abbrev Behind : List (K × V) → List K → Type 0
  Behind done ks = AllByRecursion (λ z. lookup (E z) done ≡ None) ks

  behind_more : (y : K × V) (done : List (K × V)) (ks : List K) → AllByRecursion (λ z. E y.0 z ≡ false) ks → Behind done ks → Behind (y ∷ done) ks
  behind_more y done [] a b = tt
  behind_more y done (z ∷ ks) a b = (rw (laws.symm z y.0 ∙ a.0) b.0, behind_more y done ks a.1 b.1)

  put_behind : (cap : ℕ) (y : K × V) (done rest : List (K × V)) → lookup (E y.0) done ≡ None → put_pair E cap y (done ++ rest) ≡ take cap ((y ∷ done) ++ remove_entry (E y.0) rest)
  put_behind cap y done rest h = ap (λ l. take cap (y ∷ l)) (remove_behind (E y.0) done rest h)

  put_last : (cap : ℕ) (y : K × V) (done rest : List (K × V)) → lookup (E y.0) done ≡ None → cap ≡ suc (length done) → put_pair E cap y (done ++ rest) ≡ take cap (y ∷ done)
  put_last cap y done rest h full = put_behind cap y done rest h ∙ take-append-le cap (y ∷ done) (remove_entry (E y.0) rest) (omega arith)

  put_more : (cap : ℕ) (y : K × V) (done rest : List (K × V)) → lookup (E y.0) done ≡ None → suc (length done) ≤ cap → (left : List (K × V)) × (put_pair E cap y (done ++ rest) ≡ (y ∷ done) ++ left)
  put_more cap y done rest h le =
      let other = remove_entry (E y.0) rest in
      let left = take (cap - suc (length done)) other in
      (left, put_behind cap y done rest h ∙ subst (λ n. take n ((y ∷ done) ++ other) ≡ (y ∷ done) ++ left) {x = suc (length done) + (cap - suc (length done))} {y = cap} (omega arith) (take-append-add (y ∷ done) other (cap - suc (length done))))

  fill : (cap : ℕ) (ys done r s : List (K × V)) → length done < cap → cap ≤ length done + length ys → IsDistinct E (keys_of ys) → Behind done (keys_of ys) → put_all E cap ys (done ++ r) ≡ put_all E cap ys (done ++ s)
  fill cap [] done r s lt le d b = absurd (omega arith)
  fill cap (y ∷ ys) done r s lt le d b = elim (cases_lt (suc (length done)) cap) [
    | inl less ↦
        let u = put_more cap y done r b.0 (omega arith) in
        let v = put_more cap y done s b.0 (omega arith) in
        ap (put_all E cap ys) u.1
        ∙ fill cap ys (y ∷ done) u.0 v.0 less (omega arith) (IsDistinct-tail E y.0 (keys_of ys) d) (behind_more y done (keys_of ys) (IsDistinct-head E y.0 (keys_of ys) d) b.1)
        ∙ ap (put_all E cap ys) (sym v.1)
    | inr more ↦ let full : cap ≡ suc (length done) = omega arith in ap (put_all E cap ys) (put_last cap y done r b.0 full ∙ sym (put_last cap y done s b.0 full))
  ]

  -- as many puts as there may be pairs, with keys that differ, leave nothing of what was there
  pub put_all-last : (cap : ℕ) (ys ps qs : List (K × V)) → 0 < cap → cap ≤ length ys → IsDistinct E (keys_of ys) → put_all E cap ys ps ≡ put_all E cap ys qs
  put_all-last cap ys ps qs some le d = fill cap ys [] ps qs some (omega arith) d (behind_none V E (keys_of ys))

  -- and so the puts before them need not be made
  pub put_all-only_last : (cap : ℕ) (xs ys ps : List (K × V)) → 0 < cap → cap ≤ length ys → IsDistinct E (keys_of ys) → put_all E cap (xs ++ ys) ps ≡ put_all E cap ys ps
  put_all-only_last cap xs ys ps some le d = put_all-append E cap xs ys ps ∙ put_all-last cap ys (put_all E cap xs ps) ps some le d

  -- what holds of every cache holds after a look
  pub bounded-raised : (k : K) (c : Cached K V) → IsBounded E c → IsBounded E (cached (raised E k c.pairs) c.cap)
  bounded-raised k c b = record { apart = apart-raised k c.pairs b.apart; fits = omega (arith, length-raised E k c.pairs, b.fits); some = b.some }

  -- after many looks
  pub bounded-raise_all : (ks : List K) (c : Cached K V) → IsBounded E c → IsBounded E (cached (raise_all E ks c.pairs) c.cap)
  bounded-raise_all ks c b = record { apart = apart-raise_all ks c.pairs b.apart; fits = omega (arith, length-raise_all E ks c.pairs, b.fits); some = b.some }

  -- after many puts
  pub bounded-put_all : (new : List (K × V)) (c : Cached K V) → IsBounded E c → IsBounded E (cached (put_all E c.cap new c.pairs) c.cap)
  bounded-put_all new c b = record { apart = apart-put_all c.cap new c.pairs b.apart; fits = length-put_all E c.cap new c.pairs b.fits; some = b.some }

  -- and after an eviction
  pub bounded-evicted : (n : ℕ) (c : Cached K V) → IsBounded E c → IsBounded E (cached (kept_after_evict n c.pairs) c.cap)
  bounded-evicted n c b = record { apart = apart-evicted E n c.pairs b.apart; fits = omega (arith, length-kept_after_evict n c.pairs, b.fits); some = b.some }
