-- The places of the points that are asked for.
use Rattle.std.proofs.Common.{◌≡◌, ℕ, zero, suc, ◌<◌, Bool, true, false, cond, List, [], ◌∷◌, Option, Some, None, length, filter, take, get_or, refl, sym, ap, ◌∙◌}
use Rattle.std.specs.List.{slice_get}
use Rattle.std.proofs.lemmas.Option.{slice_get-get_or, slice_get_within, same_Some}
use Rattle.idx_geom.specs.Region.{LiesIn, place_of, points}
use Rattle.idx_geom.proofs.PointsLemmas.{LiesIn-slice_get, slice_get-place_of}
use Rattle.idx_hz.specs.Answer.{has_level}
use Rattle.idx_scatter.specs.Asked.{Asked, asked_before, asked_points}

-- what passes a test stands behind all before it that pass
filter-at : {X : Type 0} (f : X → Bool) (xs : List X) (o : ℕ) (x : X) → slice_get xs o ≡ Some x → f x ≡ true → slice_get (filter f xs) (length (filter f (take o xs))) ≡ Some x
filter-at {X = X} f [] o x at passes = let wrong : ◌≡◌ {A = Option X} None (Some x) = at in cc
filter-at f (y ∷ ys) zero x at passes =
    let same : y ≡ x = same_Some y x at in
    ap (λ (b : Bool). slice_get (cond b (y ∷ filter f ys) (filter f ys)) 0) (ap f same ∙ passes) ∙ ap Some same
filter-at f (y ∷ ys) (suc o) x at passes = by_test (f y) (filter-at f ys o x at passes)
  where
    by_test : (b : Bool) → slice_get (filter f ys) (length (filter f (take o ys))) ≡ Some x →
        slice_get (cond b (y ∷ filter f ys) (filter f ys)) (length (cond b (y ∷ filter f (take o ys)) (filter f (take o ys)))) ≡ Some x
    by_test true rest = rest
    by_test false rest = rest

-- where something stands among what passes
pub record IsFrom {X : Type 0} (f : X → Bool) (xs : List X) (i : ℕ) (x : X) : Type 0 where
  pub at : ℕ
  pub stands : slice_get xs at ≡ Some x
  pub passes : f x ≡ true
  pub before : length (filter f (take at xs)) ≡ i

filter-from : {X : Type 0} (f : X → Bool) (xs : List X) (i : ℕ) (x : X) → slice_get (filter f xs) i ≡ Some x → IsFrom f xs i x
filter-from {X = X} f [] i x is = let wrong : ◌≡◌ {A = Option X} None (Some x) = is in cc
filter-from f (y ∷ ys) i x is = by_test (λ i is. filter-from f ys i x is) (f y) refl i is
  where
    by_test : ((i : ℕ) → slice_get (filter f ys) i ≡ Some x → IsFrom f ys i x) → (b : Bool) → f y ≡ b → (i : ℕ) → slice_get (cond b (y ∷ filter f ys) (filter f ys)) i ≡ Some x → IsFrom f (y ∷ ys) i x
    by_test more true yes_y zero is =
        let same : y ≡ x = same_Some y x is in
        record { at = 0; stands = is; passes = sym (ap f same) ∙ yes_y; before = refl }
    by_test more true yes_y (suc i) is =
        let rest = more i is in
        record {
          at = suc rest.at;
          stands = rest.stands;
          passes = rest.passes;
          before = ap (λ (b : Bool). length (cond b (y ∷ filter f (take rest.at ys)) (filter f (take rest.at ys)))) yes_y ∙ ap suc rest.before;
        }
    by_test more false no_y i is =
        let rest = more i is in
        record {
          at = suc rest.at;
          stands = rest.stands;
          passes = rest.passes;
          before = ap (λ (b : Bool). length (cond b (y ∷ filter f (take rest.at ys)) (filter f (take rest.at ys)))) no_y ∙ rest.before;
        }

-- a point that is asked for stands at its place in the answer
pub asked-at : (a : Asked) (p : List ℕ) → LiesIn a.region p → has_level a.mask a.lo a.hi p ≡ true → slice_get (asked_points a) (asked_before a (place_of a.region p)) ≡ Some p
asked-at a p inside asked = filter-at (has_level a.mask a.lo a.hi) (points a.region) (place_of a.region p) p (slice_get-place_of a.region p inside) asked

pub asked-within : (a : Asked) (p : List ℕ) → LiesIn a.region p → has_level a.mask a.lo a.hi p ≡ true → asked_before a (place_of a.region p) < length (asked_points a)
asked-within a p inside asked = slice_get_within (asked_points a) (asked_before a (place_of a.region p)) p (asked-at a p inside asked)

-- what stands at a place of the answer is such a point
pub record IsAskedAt (a : Asked) (i : ℕ) (p : List ℕ) : Type 0 where
  pub inside : LiesIn a.region p
  pub asked : has_level a.mask a.lo a.hi p ≡ true
  pub before : asked_before a (place_of a.region p) ≡ i

pub asked-from : (a : Asked) (i : ℕ) (p : List ℕ) → slice_get (asked_points a) i ≡ Some p → IsAskedAt a i p
asked-from a i p is =
    let from = filter-from (has_level a.mask a.lo a.hi) (points a.region) i p is in
    let there = LiesIn-slice_get a.region from.at p from.stands in
    record { inside = there.0; asked = from.passes; before = ap (asked_before a) there.1 ∙ from.before }

-- the point at a place of the answer
pub asked-get_or : (a : Asked) (i : ℕ) (p : List ℕ) → slice_get (asked_points a) i ≡ Some p → get_or (asked_points a) i [] ≡ p
asked-get_or a i p is = same_Some (get_or (asked_points a) i []) p (sym (slice_get-get_or (asked_points a) i [] (slice_get_within (asked_points a) i p is)) ∙ is)
