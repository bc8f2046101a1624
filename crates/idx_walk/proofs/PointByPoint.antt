-- The answer, point by point.
use Rattle.std.proofs.Common.{◌≡◌, ℕ, ◌+◌, ◌≤◌, Bool, true, false, cond, List, [], ◌∷◌, ◌++◌, length, drop, filter, Some, refl, sym, ap, ◌∙◌, append_assoc, append-nil}
use Rattle.std.specs.List.{flat_map, slice_get}
use Rattle.std.proofs.lemmas.List.{drop_more, drop_all}
use Rattle.std.proofs.lemmas.Option.{slice_get_within, get_or_from_slice_get}
use Rattle.idx_geom.specs.Region.{points}
use Rattle.idx_geom.specs.Volume.{sample_at}
use Rattle.idx_hz.specs.Answer.{has_level}

-- what the points from this place on add to the answer
abbrev pub rest_of_answer : List ℕ → List (ℕ × ℕ) → List (List ℕ) → List (ℕ × ℕ) → ℕ → ℕ → ℕ → List ℕ
rest_of_answer mask es volume bs lo hi place = flat_map (sample_at es volume) (filter (has_level mask lo hi) (drop place (points bs)))

first_point : {X A : Type 0} (f : X → List A) (test : X → Bool) (b : Bool) (x : X) (xs : List X) →
    flat_map f (cond b (x ∷ filter test xs) (filter test xs)) ≡ cond b (f x) [] ++ flat_map f (filter test xs)
first_point f test true x xs = refl
first_point f test false x xs = refl

module _ (mask : List ℕ) (es : List (ℕ × ℕ)) (volume : List (List ℕ)) (bs : List (ℕ × ℕ)) (lo hi : ℕ) where
  more : (place : ℕ) (p : List ℕ) → slice_get (points bs) place ≡ Some p →
      rest_of_answer mask es volume bs lo hi place ≡ cond (has_level mask lo hi p) (sample_at es volume p) [] ++ rest_of_answer mask es volume bs lo hi (place + 1)
  more place p found =
      let here : drop place (points bs) ≡ p ∷ drop (place + 1) (points bs) =
      drop_more (points bs) place p (slice_get_within (points bs) place p found)
      ∙ ap (λ q. q ∷ drop (place + 1) (points bs)) (get_or_from_slice_get (points bs) place p p found) in
      ap (λ left. flat_map (sample_at es volume) (filter (has_level mask lo hi) left)) here
      ∙ first_point (sample_at es volume) (has_level mask lo hi) (has_level mask lo hi p) p (drop (place + 1) (points bs))

  -- one more point goes from the rest to the front
  pub answer-step : (place : ℕ) (p front added : List ℕ) → slice_get (points bs) place ≡ Some p → cond (has_level mask lo hi p) (sample_at es volume p) [] ≡ added →
      (front ++ added) ++ rest_of_answer mask es volume bs lo hi (place + 1) ≡ front ++ rest_of_answer mask es volume bs lo hi place
  answer-step place p front added found is =
      append_assoc front added (rest_of_answer mask es volume bs lo hi (place + 1))
      ∙ sym (ap (λ t. front ++ t) (more place p found ∙ ap (λ t. t ++ rest_of_answer mask es volume bs lo hi (place + 1)) is))

  -- a point without the levels is passed over
  pub answer-skip : (place : ℕ) (p front : List ℕ) → slice_get (points bs) place ≡ Some p → has_level mask lo hi p ≡ false →
      front ++ rest_of_answer mask es volume bs lo hi (place + 1) ≡ front ++ rest_of_answer mask es volume bs lo hi place
  answer-skip place p front found is =
      ap (λ t. t ++ rest_of_answer mask es volume bs lo hi (place + 1)) (sym (append-nil front))
      ∙ answer-step place p front [] found (ap (λ b. cond b (sample_at es volume p) []) is)

  -- behind the last point there is nothing
  pub answer-end : (place : ℕ) (front : List ℕ) → length (points bs) ≤ place → front ++ rest_of_answer mask es volume bs lo hi place ≡ front
  answer-end place front all =
      ap (λ left. front ++ flat_map (sample_at es volume) (filter (has_level mask lo hi) left)) (drop_all place (points bs) all) ∙ append-nil front
