-- The steps of the loops over a region's axes.
use Rattle.std.proofs.Common.{◌≡◌, ℕ, zero, suc, ◌+◌, ◌-◌, ◌*◌, ◌/◌, ◌%◌, ◌^◌, ◌<◌, ◌≤◌, min, max, List, [], ◌∷◌, ◌++◌, length, drop, take, map, set, get_or, refl, sym, ap, ◌∙◌, arith, subst, Option, Some, None, append_assoc}
use Rattle.std.specs.Option.{SomeIff, IfSome}
use Rattle.std.specs.List.{zip}
use Rattle.std.proofs.lemmas.List.{drop_more, drop_all, take_more_set, append-nil, length-take-le, get_or-take, ext_get_or, get_or-map, length-map}
use Rattle.std.proofs.lemmas.List.Elements.{All-head, All-tail, All-from_get_or}
use Rattle.std.proofs.lemmas.List.Edits.{fill_by_more}
use Rattle.std.proofs.lemmas.Nat.{mul-le}
use Rattle.std.proofs.Math.Nat.{mul_comm}
use Rattle.idx_geom.specs.Point.{IsPoint}
use Rattle.idx_geom.specs.Region.{extent, points, IsRegion, LiesIn, place_of, common_bounds, AreEnds, HaveCommonPoint, HasExactly, point_of}
use Rattle.idx_geom.proofs.EndsLemmas.{IsOrdered}
use Rattle.idx_geom.proofs.LiesInLemmas.{place_of-drop, LiesIn-drop, LiesIn-at_axis, length_from_LiesIn, length-common_bounds, get_or-common_bounds, LiesIn-common_bounds, both_from_common_bounds, IsOrdered-from_point, LiesIn-lower_ends, size-common_bounds}
use Rattle.idx_geom.proofs.PointsLemmas.{size, length-points, place_of-lt, LiesIn-point_of}

-- an answer that comes exactly where P holds
pub some_from_SomeIff : {T P : Type 0} (r : Option T) (v : T) → SomeIff r P v → P → r ≡ Some v
some_from_SomeIff None v h p = absurd (h p)
some_from_SomeIff (Some x) v h p = ap Some h.1

pub SomeIff-same : {T P Q : Type 0} (r : Option T) (v w : T) → (P → Q) → (Q → P) → v ≡ w → SomeIff r P v → SomeIff r Q w
SomeIff-same None v w to from same h = λ q. h (from q)
SomeIff-same (Some x) v w to from same h = (to h.0, h.1 ∙ same)

pub IfSome-from_SomeIff : {T : Type 0} (P : Type 0) (r : Option T) (v : T) (Q : T → Type 0) → SomeIff r P v → Q v → IfSome r Q
IfSome-from_SomeIff P None v Q h q = tt
IfSome-from_SomeIff P (Some x) v Q h q = subst Q (sym h.1) q

-- the number of points of the axes from one on
pub size-drop_le : (bs : List (ℕ × ℕ)) (k : ℕ) → IsOrdered bs → size (drop k bs) ≤ size bs
size-drop_le bs zero h = omega arith
size-drop_le [] (suc k) h = omega arith
size-drop_le (b ∷ bs) (suc k) h =
    let rest : IsOrdered bs = All-tail (λ (b : ℕ × ℕ). b.0 ≤ b.1) b bs h in
    let wide : 1 ≤ extent b = omega (arith, All-head (λ (b : ℕ × ℕ). b.0 ≤ b.1) b bs h) in
    omega (arith, size-drop_le bs k rest, mul-le 1 (size bs) (extent b) (size bs) wide (omega arith))

-- a place in fewer axes is small too
pub place_of-small : (bs : List (ℕ × ℕ)) (p : List ℕ) (k : ℕ) → IsRegion bs → LiesIn bs p → place_of (drop k bs) (drop k p) < 2 ^ 40
place_of-small bs p k region h =
    omega (arith, place_of-lt (drop k bs) (drop k p) (LiesIn-drop bs p k h), size-drop_le bs k region.ordered, length-points bs, region.few)

pub place_of-step : (bs : List (ℕ × ℕ)) (p : List ℕ) (k next place x : ℕ) (b : ℕ × ℕ) → LiesIn bs p → k + 1 ≡ next → k < length bs → b ≡ get_or bs k (0, 0) → b.0 ≤ b.1 → x ≡ get_or p k 0 → place ≡ place_of (drop next bs) (drop next p) → place * (b.1 - b.0 + 1) + (x - b.0) ≡ place_of (drop k bs) (drop k p)
place_of-step bs p k next place x b h here inside bounds ordered coordinate so_far =
    let width : b.1 - b.0 + 1 ≡ extent b = omega arith in
    let rest : place ≡ place_of (drop (k + 1) bs) (drop (k + 1) p) = so_far ∙ ap (λ n. place_of (drop n bs) (drop n p)) (sym here) in
    ap (λ n. place * n + (x - b.0)) width
    ∙ omega (arith, place_of-drop bs p (length_from_LiesIn bs p h) k b inside bounds, ap (λ n. extent b * n) rest, mul_comm place (extent b), coordinate)

pub point_of-step : (bs : List (ℕ × ℕ)) (coordinates whole : List ℕ) (k rest : ℕ) (b : ℕ × ℕ) → k < length bs → k < length coordinates → b ≡ get_or bs k (0, 0) → b.0 ≤ b.1 → take k coordinates ++ point_of (drop k bs) rest ≡ whole → take (k + 1) (set coordinates k (b.0 + rest % (b.1 - b.0 + 1))) ++ point_of (drop (k + 1) bs) (rest / (b.1 - b.0 + 1)) ≡ whole
point_of-step bs coordinates whole k rest b inside room bounds ordered so_far =
    let width : b.1 - b.0 + 1 ≡ extent b = omega arith in
    let y = b.0 + rest % (b.1 - b.0 + 1) in
    ap (λ t. t ++ point_of (drop (k + 1) bs) (rest / (b.1 - b.0 + 1))) (take_more_set coordinates k y room)
    ∙ append_assoc (take k coordinates) (y ∷ []) (point_of (drop (k + 1) bs) (rest / (b.1 - b.0 + 1)))
    ∙ ap (λ n. take k coordinates ++ ((b.0 + rest % n) ∷ point_of (drop (k + 1) bs) (rest / n))) width
    ∙ ap (λ c. take k coordinates ++ point_of (c ∷ drop (k + 1) bs) rest) bounds
    ∙ ap (λ cs. take k coordinates ++ point_of cs rest) (sym (drop_more bs k (0, 0) inside))
    ∙ so_far

pub point_of-made : (bs : List (ℕ × ℕ)) (coordinates whole : List ℕ) (n rest : ℕ) → length bs ≤ n → take n coordinates ++ point_of (drop n bs) rest ≡ whole → take n coordinates ≡ whole
point_of-made bs coordinates whole n rest past so_far =
    sym (append-nil (take n coordinates))
    ∙ ap (λ cs. take n coordinates ++ point_of cs rest) (sym (drop_all n bs past))
    ∙ so_far

-- a point of a region is a point
pub IsPoint-from_LiesIn : (bs : List (ℕ × ℕ)) (p : List ℕ) → IsRegion bs → LiesIn bs p → IsPoint p
IsPoint-from_LiesIn bs p region h =
    let same : length p ≡ length bs = length_from_LiesIn bs p h in
    record {
      axes = (omega (arith, region.axes.0), omega (arith, region.axes.1));
      small = All-from_get_or (λ x. x ≤ 2 ^ 40) p 0
          (λ k inside.
          let within : k < length bs = omega arith in
          omega (arith, LiesIn-at_axis bs p h k within, region.small k (0, 0) within));
    }

-- the upper and the lower bounds that two regions have in common
pub lower_common : (as' bs : List (ℕ × ℕ)) → length as' ≡ length bs → (k : ℕ) (a b : ℕ × ℕ) → k < length as' → a ≡ get_or as' k (0, 0) → b ≡ get_or bs k (0, 0) → max a.0 b.0 ≡ (get_or (common_bounds as' bs) k (0, 0)).0
lower_common as' bs same k a b h first second =
    ap (λ c. max c.0 b.0) first ∙ ap (λ c. max (get_or as' k (0, 0)).0 c.0) second ∙ ap (λ c. c.0) (sym (get_or-common_bounds as' bs same k (0, 0) h))

pub upper_common : (as' bs : List (ℕ × ℕ)) → length as' ≡ length bs → (k : ℕ) (a b : ℕ × ℕ) → k < length as' → a ≡ get_or as' k (0, 0) → b ≡ get_or bs k (0, 0) → min a.1 b.1 ≡ (get_or (common_bounds as' bs) k (0, 0)).1
upper_common as' bs same k a b h first second =
    ap (λ c. min c.1 b.1) first ∙ ap (λ c. min (get_or as' k (0, 0)).1 c.1) second ∙ ap (λ c. c.1) (sym (get_or-common_bounds as' bs same k (0, 0) h))

-- one more element of an array of which the front is known
pub known_more : (xs : List ℕ) (k v : ℕ) (f : ℕ → ℕ) → k < length xs → ((i : ℕ) → i < k → get_or xs i 0 ≡ f i) → v ≡ f k → (i : ℕ) → i < k + 1 → get_or (set xs k v) i 0 ≡ f i
known_more xs k v f room so_far here i h =
    ap (λ w. get_or (set xs k w) i 0) here ∙ fill_by_more f xs k 0 room so_far i h

-- the front of an array, once all of it is known
pub known_front : (cs : List (ℕ × ℕ)) (xs : List ℕ) (f : ℕ × ℕ → ℕ) → length cs ≤ length xs → ((k : ℕ) → k < length cs → get_or xs k 0 ≡ f (get_or cs k (0, 0))) → take (length cs) xs ≡ map f cs
known_front cs xs f room known =
    ext_get_or 0 (take (length cs) xs) (map f cs)
    (length-take-le (length cs) xs room ∙ sym (length-map cs f))
    (λ k h.
    let inside : k < length cs = omega (arith, length-take-le (length cs) xs room) in
    get_or-take (length cs) xs k 0 inside ∙ known k inside ∙ sym (get_or-map f cs k (0, 0) 0 inside))

-- bounds are what their ends make
pub zip-ends : (cs : List (ℕ × ℕ)) → zip (map (λ (b : ℕ × ℕ). b.0) cs) (map (λ (b : ℕ × ℕ). b.1) cs) ≡ cs
zip-ends [] = refl
zip-ends (c ∷ cs) = ap (λ t. c ∷ t) (zip-ends cs)

pub IsPoint-lower_common : (as' bs : List (ℕ × ℕ)) → IsRegion as' → IsRegion bs → length as' ≡ length bs → IsPoint (map (λ (b : ℕ × ℕ). b.0) (common_bounds as' bs))
IsPoint-lower_common as' bs first second same =
    let cs = common_bounds as' bs in
    let long : length (map (λ (b : ℕ × ℕ). b.0) cs) ≡ length as' = length-map cs (λ (b : ℕ × ℕ). b.0) ∙ length-common_bounds as' bs same in
    record {
      axes = (omega (arith, long, first.axes.0), omega (arith, long, first.axes.1));
      small = All-from_get_or (λ x. x ≤ 2 ^ 40) (map (λ (b : ℕ × ℕ). b.0) cs) 0
          (λ k h.
          let inside : k < length as' = omega (arith, long) in
          let inside_b : k < length bs = omega arith in
          let inside_c : k < length cs = omega (arith, length-common_bounds as' bs same) in
          let here : get_or (map (λ (b : ℕ × ℕ). b.0) cs) k 0 ≡ max (get_or as' k (0, 0)).0 (get_or bs k (0, 0)).0 =
          get_or-map (λ (b : ℕ × ℕ). b.0) cs k (0, 0) 0 inside_c ∙ ap (λ c. c.0) (get_or-common_bounds as' bs same k (0, 0) inside) in
          omega (arith, here, first.ordered k (0, 0) inside, first.small k (0, 0) inside, second.ordered k (0, 0) inside_b, second.small k (0, 0) inside_b));
    }

pub IsPoint-upper_common : (as' bs : List (ℕ × ℕ)) → IsRegion as' → IsRegion bs → length as' ≡ length bs → IsPoint (map (λ (b : ℕ × ℕ). b.1) (common_bounds as' bs))
IsPoint-upper_common as' bs first second same =
    let cs = common_bounds as' bs in
    let long : length (map (λ (b : ℕ × ℕ). b.1) cs) ≡ length as' = length-map cs (λ (b : ℕ × ℕ). b.1) ∙ length-common_bounds as' bs same in
    record {
      axes = (omega (arith, long, first.axes.0), omega (arith, long, first.axes.1));
      small = All-from_get_or (λ x. x ≤ 2 ^ 40) (map (λ (b : ℕ × ℕ). b.1) cs) 0
          (λ k h.
          let inside : k < length as' = omega (arith, long) in
          let inside_c : k < length cs = omega (arith, length-common_bounds as' bs same) in
          let here : get_or (map (λ (b : ℕ × ℕ). b.1) cs) k 0 ≡ min (get_or as' k (0, 0)).1 (get_or bs k (0, 0)).1 =
          get_or-map (λ (b : ℕ × ℕ). b.1) cs k (0, 0) 0 inside_c ∙ ap (λ c. c.1) (get_or-common_bounds as' bs same k (0, 0) inside) in
          omega (arith, here, first.small k (0, 0) inside));
    }

-- the common part has few points, and its ends make a region exactly where some point lies in both
pub few_common : (as' bs : List (ℕ × ℕ)) → IsRegion as' → length as' ≡ length bs → length (points (common_bounds as' bs)) ≤ 2 ^ 40
few_common as' bs first same =
    omega (arith, length-points (common_bounds as' bs), length-points as', size-common_bounds as' bs same, first.few)

pub AreEnds-from_common : (as' bs : List (ℕ × ℕ)) (lo hi : List ℕ) → length lo ≡ length hi → zip lo hi ≡ common_bounds as' bs → length (points (zip lo hi)) ≤ 2 ^ 40 → HaveCommonPoint as' bs → AreEnds lo hi
AreEnds-from_common as' bs lo hi ends made few common =
    let in_both : LiesIn (common_bounds as' bs) common.0 = LiesIn-common_bounds as' bs common.0 common.1.0 common.1.1 in
    let ordered : IsOrdered (common_bounds as' bs) = IsOrdered-from_point (common_bounds as' bs) common.0 in_both in
    record {
      same_axes = ends;
      ordered = subst IsOrdered (sym made) ordered;
      few = few;
    }

pub HaveCommonPoint-from_ends : (as' bs : List (ℕ × ℕ)) (lo hi : List ℕ) → length as' ≡ length bs → zip lo hi ≡ common_bounds as' bs → AreEnds lo hi → HaveCommonPoint as' bs
HaveCommonPoint-from_ends as' bs lo hi same made ends =
    let ordered : IsOrdered (common_bounds as' bs) = subst IsOrdered made ends.ordered in
    let p = map (λ (b : ℕ × ℕ). b.0) (common_bounds as' bs) in
    (p, both_from_common_bounds as' bs p same (LiesIn-lower_ends (common_bounds as' bs) ordered))

pub HasExactly-common : (as' bs : List (ℕ × ℕ)) → length as' ≡ length bs → HasExactly (common_bounds as' bs) (λ p. LiesIn as' p × LiesIn bs p)
HasExactly-common as' bs same p = (both_from_common_bounds as' bs p same, λ h. LiesIn-common_bounds as' bs p h.0 h.1)

-- what the array of coordinates makes in the end
pub point_of-found : (bs : List (ℕ × ℕ)) (coordinates : List ℕ) (n axis rest place : ℕ) (r : Option (List ℕ)) → IsRegion bs → place < length (points bs) → n ≡ length bs → n ≤ axis → axis ≤ n → take axis coordinates ++ point_of (drop axis bs) rest ≡ point_of bs place → SomeIff r (IsPoint (take n coordinates)) (take n coordinates) → r ≡ Some (point_of bs place)
point_of-found bs coordinates n axis rest place r region within all least most made answer =
    let same : n ≡ axis = omega arith in
    let whole : take n coordinates ≡ point_of bs place =
    ap (λ m. take m coordinates) same ∙ point_of-made bs coordinates (point_of bs place) axis rest (omega arith) made in
    let lies : LiesIn bs (point_of bs place) = LiesIn-point_of bs place (omega (arith, length-points bs)) in
    let point : IsPoint (take n coordinates) = subst IsPoint (sym whole) (IsPoint-from_LiesIn bs (point_of bs place) region lies) in
    some_from_SomeIff r (take n coordinates) answer point ∙ ap Some whole

-- what an array of ends makes, once all of them are known
pub ends-found : (cs : List (ℕ × ℕ)) (xs : List ℕ) (f : ℕ × ℕ → ℕ) (n axis : ℕ) (r : Option (List ℕ)) → IsPoint (map f cs) → length cs ≡ n → n ≤ axis → length cs ≤ length xs → ((k : ℕ) → k < axis → get_or xs k 0 ≡ f (get_or cs k (0, 0))) → SomeIff r (IsPoint (take n xs)) (take n xs) → r ≡ Some (map f cs)
ends-found cs xs f n axis r point all past room known answer =
    let whole : take n xs ≡ map f cs =
    ap (λ m. take m xs) (sym all) ∙ known_front cs xs f room (λ k h. known k (omega arith)) in
    some_from_SomeIff r (take n xs) answer (subst IsPoint (sym whole) point) ∙ ap Some whole
