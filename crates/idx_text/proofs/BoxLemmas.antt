-- The ends of a region one after another, and the region that they make.
use Rattle.std.proofs.Common.{◌≡◌, ℕ, ◌+◌, ◌≤◌, ◌<◌, ◌↔◌, List, [], ◌∷◌, ◌++◌, length, map, drop, get_or, Option, Some, None, IfSome, IfNone, refl, sym, ap, ◌∙◌, arith, subst, length-append}
use Rattle.std.proofs.lemmas.Option.{same_Some}
use Rattle.std.proofs.lemmas.List.{length-map}
use Rattle.std.proofs.lemmas.Slice.Zip.{firsts-zip, seconds-zip}
use Rattle.std.specs.List.{zip}
use Rattle.idx_geom.specs.Point.{IsCoordinates}
use Rattle.idx_geom.specs.Region.{AreEnds, lower_ends, upper_ends}
use Rattle.idx_text.specs.Numbers.{numbers_of}
use Rattle.idx_text.specs.BoxText.{both_ends, SpellsRegion}

length-both_ends : (r : List (ℕ × ℕ)) → length (both_ends r) ≡ length r + length r
length-both_ends [] = refl
length-both_ends (b ∷ bs) = let rest = length-both_ends bs in omega (arith, rest)

-- the ends tell the region
both_ends-once : (r s : List (ℕ × ℕ)) → both_ends r ≡ both_ends s → r ≡ s
both_ends-once [] [] e = refl
both_ends-once [] (b ∷ bs) e = cc
both_ends-once (a ∷ as') [] e = cc
both_ends-once (a ∷ as') (b ∷ bs) e =
    let lo : a.0 ≡ b.0 = cc in
    let hi : a.1 ≡ b.1 = cc in
    let more : both_ends as' ≡ both_ends bs = cc in
    let rest = both_ends-once as' bs more in
    λ i. (lo i, hi i) ∷ rest i

-- one more axis
pub both_ends-push : (los his ns : List ℕ) (lo hi : ℕ) → length los ≡ length his →
    both_ends (zip los his) ++ (lo ∷ hi ∷ ns) ≡ both_ends (zip (los ++ lo ∷ []) (his ++ hi ∷ [])) ++ ns
both_ends-push [] [] ns lo hi e = refl
both_ends-push [] (h ∷ hs) ns lo hi e = absurd (omega arith)
both_ends-push (l ∷ ls) [] ns lo hi e = absurd (omega arith)
both_ends-push (l ∷ ls) (h ∷ hs) ns lo hi e = ap (λ t. l ∷ h ∷ t) (both_ends-push ls hs ns lo hi (omega arith))

-- two more ends of a list make one more axis
pub both_ends-more : (los his rest more ns : List ℕ) → length los ≡ length his → 2 ≤ length rest → more ≡ drop 2 rest →
    both_ends (zip los his) ++ rest ≡ ns → both_ends (zip (los ++ get_or rest 0 0 ∷ []) (his ++ get_or rest 1 0 ∷ [])) ++ more ≡ ns
both_ends-more los his [] more ns same two is e = absurd (omega arith)
both_ends-more los his (lo ∷ []) more ns same two is e = absurd (omega arith)
both_ends-more los his (lo ∷ hi ∷ others) more ns same two is e =
    ap (λ t. both_ends (zip (los ++ lo ∷ []) (his ++ hi ∷ [])) ++ t) is ∙ sym (both_ends-push los his others lo hi same) ∙ e

-- a region has at most five axes, and so ten ends
pub few_ends : (t ns : List ℕ) (r : List (ℕ × ℕ)) → numbers_of t ≡ Some ns → SpellsRegion t r → length ns ≤ 10
few_ends t ns r lists h =
    let same : both_ends r ≡ ns = same_Some _ _ (sym h.numbers ∙ lists) in
    let count : length ns ≡ length r + length r = ap length (sym same) ∙ length-both_ends r in
    let five : length (map (λ (b : ℕ × ℕ). b.0) r) ≤ 5 = h.lower.axes.1 in
    let axes : length (map (λ (b : ℕ × ℕ). b.0) r) ≡ length r = simp length-map in
    omega arith

one_left : (rest : List ℕ) → length rest < 2 → (length rest ≡ 0 → ⊥) → rest ≡ get_or rest 0 0 ∷ []
one_left [] short some = absurd (some refl)
one_left (last ∷ []) short some = refl
one_left (a ∷ b ∷ more) short some = absurd (omega arith)

-- no region has an odd number of ends
pub no_odd_end : (t los his rest ns : List ℕ) (r : List (ℕ × ℕ)) → numbers_of t ≡ Some ns → both_ends (zip los his) ++ rest ≡ ns →
    length rest < 2 → (length rest ≡ 0 → ⊥) → SpellsRegion t r → ⊥
no_odd_end t los his rest ns r lists front short some h =
    let ends : both_ends r ≡ both_ends (zip los his) ++ rest = same_Some _ _ (sym h.numbers ∙ lists) ∙ sym front in
    let count : length (both_ends r) ≡ length (both_ends (zip los his) ++ rest) = ap length ends in
    let parts : length (both_ends (zip los his) ++ rest) ≡ length (both_ends (zip los his)) + length rest = length-append (both_ends (zip los his)) rest in
    let one : length rest ≡ 1 = ap length (one_left rest short some) in
    omega (arith, length-both_ends r, length-both_ends (zip los his))

module _ (t los his : List ℕ) (same : length los ≡ length his) (lists : numbers_of t ≡ Some (both_ends (zip los his))) where
  the_region : (r : List (ℕ × ℕ)) → SpellsRegion t r → r ≡ zip los his
  the_region r h = both_ends-once r (zip los his) (same_Some _ _ (sym h.numbers ∙ lists))

  firsts : lower_ends (zip los his) ≡ los
  firsts = firsts-zip los his (sym same)

  seconds : upper_ends (zip los his) ≡ his
  seconds = seconds-zip los his (sym same)

  areEnds : {a b c d : List ℕ} → a ≡ c → b ≡ d → AreEnds a b → AreEnds c d
  areEnds {a} {b} {c} {d} e f h = subst (λ (x : List ℕ). AreEnds x d) e (subst (λ (y : List ℕ). AreEnds a y) f h)

  -- where the ends make a region, it is the one that is spelled, and else none is
  pub read_as : (o : Option (List (ℕ × ℕ))) →
      IfSome o (λ r. (r ≡ zip los his) × IsCoordinates los × IsCoordinates his × AreEnds los his) →
      IfNone o (IsCoordinates los → IsCoordinates his → ¬ AreEnds los his) →
      (r : List (ℕ × ℕ)) → (o ≡ Some r) ↔ SpellsRegion t r
  read_as (Some made) some none r =
      let spelled : SpellsRegion t (zip los his) = record {
        numbers = lists;
        lower = subst IsCoordinates (sym firsts) some.1;
        upper = subst IsCoordinates (sym seconds) some.2;
        ends = areEnds (sym firsts) (sym seconds) some.3;
      } in (
        (λ e. subst (SpellsRegion t) (sym some.0 ∙ same_Some _ _ e) spelled),
        (λ h. ap Some (some.0 ∙ sym (the_region r h))),
      )
  read_as None some none r = (
    (λ e. absurd (none_is_not_some r e)),
    (λ h.
        let is : r ≡ zip los his = the_region r h in
        let low : lower_ends r ≡ los = ap lower_ends is ∙ firsts in
        let high : upper_ends r ≡ his = ap upper_ends is ∙ seconds in
        absurd (none (subst IsCoordinates low h.lower) (subst IsCoordinates high h.upper)
        (areEnds low high h.ends))),
  )
    where
      none_is_not_some : (r : List (ℕ × ℕ)) → None ≡ Some r → ⊥
      none_is_not_some r e = cc
