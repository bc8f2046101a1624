-- What one key more of a look finds or misses.
use Rattle.std.proofs.Common.{◌≡◌, ℕ, zero, suc, ◌+◌, ◌<◌, Bool, true, false, List, [], ◌∷◌, ◌++◌, length, take, get_or, Option, Some, None, is_some, refl, sym, ap, ◌∙◌, subst, arith, add-one}
use Rattle.std.proofs.lemmas.Bool.{false≢true}
use Rattle.idx_events.specs.Queries.{hits, misses}

miss : (blocks : List ℕ) (found : List (Option (List ℕ))) (i : ℕ) (x : Option (List ℕ)) → i < length blocks → i < length found → x ≡ get_or found i x → x ≡ None → misses (take (suc i) blocks) (take (suc i) found) ≡ misses (take i blocks) (take i found) ++ get_or blocks i 0 ∷ []
miss [] found i x l m e n = absurd (omega arith)
miss (b ∷ bs) [] i x l m e n = absurd (omega arith)
miss (b ∷ bs) (o ∷ os) zero x l m e n = ap (λ z. misses (b ∷ []) (z ∷ [])) (sym e ∙ n)
miss (b ∷ bs) (None ∷ os) (suc i) x l m e n = ap (λ r. b ∷ r) (miss bs os i x (omega arith) (omega arith) e n)
miss (b ∷ bs) (Some y ∷ os) (suc i) x l m e n = miss bs os i x (omega arith) (omega arith) e n

skip : (blocks : List ℕ) (found : List (Option (List ℕ))) (i : ℕ) (x : Option (List ℕ)) (y : List ℕ) → i < length blocks → i < length found → x ≡ get_or found i x → x ≡ Some y → misses (take (suc i) blocks) (take (suc i) found) ≡ misses (take i blocks) (take i found)
skip [] found i x y l m e n = absurd (omega arith)
skip (b ∷ bs) [] i x y l m e n = absurd (omega arith)
skip (b ∷ bs) (o ∷ os) zero x y l m e n = ap (λ z. misses (b ∷ []) (z ∷ [])) (sym e ∙ n)
skip (b ∷ bs) (None ∷ os) (suc i) x y l m e n = ap (λ r. b ∷ r) (skip bs os i x y (omega arith) (omega arith) e n)
skip (b ∷ bs) (Some z ∷ os) (suc i) x y l m e n = skip bs os i x y (omega arith) (omega arith) e n

hit : (blocks : List ℕ) (found : List (Option (List ℕ))) (i : ℕ) (x : Option (List ℕ)) (y : List ℕ) → i < length blocks → i < length found → x ≡ get_or found i x → x ≡ Some y → hits (take (suc i) blocks) (take (suc i) found) ≡ hits (take i blocks) (take i found) ++ (get_or blocks i 0, y) ∷ []
hit [] found i x y l m e n = absurd (omega arith)
hit (b ∷ bs) [] i x y l m e n = absurd (omega arith)
hit (b ∷ bs) (o ∷ os) zero x y l m e n = ap (λ z. hits (b ∷ []) (z ∷ [])) (sym e ∙ n)
hit (b ∷ bs) (None ∷ os) (suc i) x y l m e n = hit bs os i x y (omega arith) (omega arith) e n
hit (b ∷ bs) (Some z ∷ os) (suc i) x y l m e n = ap (λ r. (b, z) ∷ r) (hit bs os i x y (omega arith) (omega arith) e n)

no-hit : (blocks : List ℕ) (found : List (Option (List ℕ))) (i : ℕ) (x : Option (List ℕ)) → i < length blocks → i < length found → x ≡ get_or found i x → x ≡ None → hits (take (suc i) blocks) (take (suc i) found) ≡ hits (take i blocks) (take i found)
no-hit [] found i x l m e n = absurd (omega arith)
no-hit (b ∷ bs) [] i x l m e n = absurd (omega arith)
no-hit (b ∷ bs) (o ∷ os) zero x l m e n = ap (λ z. hits (b ∷ []) (z ∷ [])) (sym e ∙ n)
no-hit (b ∷ bs) (None ∷ os) (suc i) x l m e n = no-hit bs os i x (omega arith) (omega arith) e n
no-hit (b ∷ bs) (Some z ∷ os) (suc i) x l m e n = ap (λ r. (b, z) ∷ r) (no-hit bs os i x (omega arith) (omega arith) e n)

module _ (blocks : List ℕ) (found : List (Option (List ℕ))) (i : ℕ) (x : Option (List ℕ)) (each : length found ≡ length blocks) (l : i < length blocks) (at : x ≡ get_or found i x) where
  none-is : (o : Option (List ℕ)) → is_some o ≡ false → o ≡ None
  none-is None h = refl
  none-is (Some y) h = absurd (false≢true (sym h))

  some-is : (o : Option (List ℕ)) → is_some o ≡ true → (y : List ℕ) × (o ≡ Some y)
  some-is None h = absurd (false≢true h)
  some-is (Some y) h = (y, refl)

  pub missed-more : is_some x ≡ false → misses (take (i + 1) blocks) (take (i + 1) found) ≡ misses (take i blocks) (take i found) ++ get_or blocks i 0 ∷ []
  missed-more h = rw add-one (miss blocks found i x l (omega arith) at (none-is x h))

  pub missed-same : is_some x ≡ true → misses (take (i + 1) blocks) (take (i + 1) found) ≡ misses (take i blocks) (take i found)
  missed-same h = let y = some-is x h in rw add-one (skip blocks found i x y.0 l (omega arith) at y.1)

  pub hits-more : (y : List ℕ) → x ≡ Some y → hits (take (i + 1) blocks) (take (i + 1) found) ≡ hits (take i blocks) (take i found) ++ (get_or blocks i 0, y) ∷ []
  hits-more y h = rw add-one (hit blocks found i x y l (omega arith) at h)

  pub hits-same : x ≡ None → hits (take (i + 1) blocks) (take (i + 1) found) ≡ hits (take i blocks) (take i found)
  hits-same h = rw add-one (no-hit blocks found i x l (omega arith) at h)
