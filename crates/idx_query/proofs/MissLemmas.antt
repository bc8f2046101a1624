-- The keys of which nothing was found.
use Rattle.std.proofs.Common.{◌≡◌, ℕ, zero, suc, ◌+◌, ◌<◌, ◌≤◌, Bool, cond, List, [], ◌∷◌, length, take, refl, sym, ap, ◌∙◌, subst, Some, None, Option, arith}
use Rattle.std.specs.Prelude.{is_some, option_map, slice_get}
use Rattle.std.proofs.lemmas.Option.{same_Some, slice_get_within}
use Rattle.idx_hall.specs.declared.key.Key.{Key}
use Rattle.idx_query.specs.Rounds.{missed}

-- how often nothing was found
abbrev pub nones : List (Option (List ℕ)) → ℕ
nones [] = 0
nones (None ∷ found) = suc (nones found)
nones (Some bytes ∷ found) = nones found

pub length-missed : (keys : List Key) (found : List (Option (List ℕ))) → length keys ≡ length found → length (missed keys found) ≡ nones found
length-missed [] [] h = refl
length-missed [] (o ∷ found) h = absurd (omega (arith, h))
length-missed (key ∷ keys) [] h = absurd (omega (arith, h))
length-missed (key ∷ keys) (None ∷ found) h = ap suc (length-missed keys found (omega (arith, h)))
length-missed (key ∷ keys) (Some bytes ∷ found) h = length-missed keys found (omega (arith, h))

pub nones-le : (found : List (Option (List ℕ))) → nones found ≤ length found
nones-le [] = omega arith
nones-le (None ∷ found) = let le = nones-le found in omega (arith, le)
nones-le (Some bytes ∷ found) = let le = nones-le found in omega (arith, le)

-- one more was looked at
one_more : (found : List (Option (List ℕ))) (i : ℕ) (o : Option (List ℕ)) → slice_get found i ≡ Some o → nones (take (suc i) found) ≡ cond (is_some o) 0 1 + nones (take i found)
one_more [] i o h = let past : i < 0 = slice_get_within [] i o h in absurd (omega (arith, past))
one_more (None ∷ found) zero o h = subst (λ (p : Option (List ℕ)). 1 ≡ cond (is_some p) 0 1 + 0) (same_Some None o h) refl
one_more (Some bytes ∷ found) zero o h = subst (λ (p : Option (List ℕ)). 0 ≡ cond (is_some p) 0 1 + 0) (same_Some (Some bytes) o h) refl
one_more (None ∷ found) (suc i) o h = let more = one_more found i o h in omega (arith, more)
one_more (Some bytes ∷ found) (suc i) o h = one_more found i o h

pub nones-more : (found : List (Option (List ℕ))) (i : ℕ) (o : Option (List ℕ)) → slice_get found i ≡ Some o → nones (take (i + 1) found) ≡ nones (take i found) + cond (is_some o) 0 1
nones-more found i o h =
    let next : i + 1 ≡ suc i = omega arith in
    let more = one_more found i o h in
    ap (λ n. nones (take n found)) next ∙ omega (arith, more)

-- what is there of an answer is there of what it holds
pub told-some : {A B C : Type 0} (f : B → C) (g : A → B) (o : Option A) → is_some (option_map f (option_map g o)) ≡ is_some o
told-some f g None = refl
told-some f g (Some x) = refl

pub nones-of : (found : List (Option (List ℕ))) (i count new : ℕ) (o : Option (List ℕ)) (some : Bool) → slice_get found i ≡ Some o → is_some o ≡ some → count ≡ nones (take i found) → new ≡ count + cond some 0 1 → new ≡ nones (take (i + 1) found)
nones-of found i count new o some at is so_far added = added ∙ ap (λ n. n + cond some 0 1) so_far ∙ ap (λ s. nones (take i found) + cond s 0 1) (sym is) ∙ sym (nones-more found i o at)
