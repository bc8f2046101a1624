-- A region that leaves a box on no axis.
use Rattle.std.proofs.Common.{◌≡◌, ℕ, ◌+◌, ◌<◌, ◌≤◌, Bool, true, false, cond, ◌||◌, ltb, List, [], ◌∷◌, length, drop, Some, None, refl, sym, ap, ◌∙◌, ⊎_elim, arith}
use Rattle.std.specs.Prelude.{Option}
use Rattle.std.proofs.lemmas.Bool.{lt-ltb, cases_lt}
use Rattle.std.proofs.lemmas.List.{drop_all}
use Rattle.std.proofs.lemmas.List.Elements.{All-head, All-tail}
use Rattle.idx_geom.specs.Region.{LiesIn, lower_ends, upper_ends}
use Rattle.idx_geom.proofs.EndsLemmas.{IsOrdered}
use Rattle.idx_plan.specs.Needed.{outside_axis}

not_below : (x y : ℕ) → ltb x y ≡ false → y ≤ x
not_below x y e = ⊎_elim (λ (less : x < y). let wrong : true ≡ false = sym (lt-ltb x y less) ∙ e in cc) (λ (le : y ≤ x). le) (cases_lt x y)

-- both its ends lie in the box
abbrev pub EndsLieIn : List (ℕ × ℕ) → List (ℕ × ℕ) → Type 0
EndsLieIn box region = LiesIn box (lower_ends region) × LiesIn box (upper_ends region)

-- one axis more, where those behind it lie in the box
with_axis : (axis : ℕ) (r b : ℕ × ℕ) (region box : List (ℕ × ℕ)) → r.0 ≤ r.1 → (outside_axis (axis + 1) region box ≡ None → EndsLieIn box region) → (low high : Bool) → ltb r.0 b.0 ≡ low → ltb b.1 r.1 ≡ high → cond (low || high) (Some axis) (outside_axis (axis + 1) region box) ≡ None → EndsLieIn (b ∷ box) (r ∷ region)
with_axis axis r b region box ordered rest true high l h e = let wrong : ◌≡◌ {A = Option ℕ} (Some axis) None = e in cc
with_axis axis r b region box ordered rest false true l h e = let wrong : ◌≡◌ {A = Option ℕ} (Some axis) None = e in cc
with_axis axis r b region box ordered rest false false l h e =
    let low : b.0 ≤ r.0 = not_below r.0 b.0 l in
    let high : r.1 ≤ b.1 = not_below b.1 r.1 h in
    let behind : EndsLieIn box region = rest e in
    ((low, omega arith, behind.0), (omega arith, high, behind.1))

pub ends-inside : (axis : ℕ) (region box : List (ℕ × ℕ)) → length region ≡ length box → IsOrdered region → outside_axis axis region box ≡ None → EndsLieIn box region
ends-inside axis [] [] same ordered none = (tt, tt)
ends-inside axis [] (b ∷ box) same ordered none = absurd (omega arith)
ends-inside axis (r ∷ region) [] same ordered none = absurd (omega arith)
ends-inside axis (r ∷ region) (b ∷ box) same ordered none =
    with_axis axis r b region box (All-head (λ (c : ℕ × ℕ). c.0 ≤ c.1) r region ordered)
    (ends-inside (axis + 1) region box (omega arith) (All-tail (λ (c : ℕ × ℕ). c.0 ≤ c.1) r region ordered))
    (ltb r.0 b.0) (ltb b.1 r.1) refl refl none

-- past the last axis there is none
outside_axis-end : (region box : List (ℕ × ℕ)) (k : ℕ) → length region ≤ k → outside_axis k (drop k region) (drop k box) ≡ None
outside_axis-end region box k past = ap (λ t. outside_axis k t (drop k box)) (drop_all k region past)

-- where the search comes to the end
pub ends-at_end : (region box whole : List (ℕ × ℕ)) (k : ℕ) → length region ≡ length whole → IsOrdered region → box ≡ whole → length region ≤ k → outside_axis 0 region box ≡ outside_axis k (drop k region) (drop k box) → EndsLieIn whole region
ends-at_end region box whole k same ordered is past left =
    ends-inside 0 region whole same ordered (ap (outside_axis 0 region) (sym is) ∙ left ∙ outside_axis-end region box k past)

-- each point of the region lies in the box
with_coordinate : (axis : ℕ) (r b : ℕ × ℕ) (region box : List (ℕ × ℕ)) (x : ℕ) (p : List ℕ) → LiesIn (r ∷ region) (x ∷ p) → (outside_axis (axis + 1) region box ≡ None → LiesIn box p) → (low high : Bool) → ltb r.0 b.0 ≡ low → ltb b.1 r.1 ≡ high → cond (low || high) (Some axis) (outside_axis (axis + 1) region box) ≡ None → LiesIn (b ∷ box) (x ∷ p)
with_coordinate axis r b region box x p inside rest true high l h e = let wrong : ◌≡◌ {A = Option ℕ} (Some axis) None = e in cc
with_coordinate axis r b region box x p inside rest false true l h e = let wrong : ◌≡◌ {A = Option ℕ} (Some axis) None = e in cc
with_coordinate axis r b region box x p inside rest false false l h e =
    let low : b.0 ≤ r.0 = not_below r.0 b.0 l in
    let high : r.1 ≤ b.1 = not_below b.1 r.1 h in
    (omega (arith, low, inside.0), omega (arith, high, inside.1), rest e)

pub inside-box : (axis : ℕ) (region box : List (ℕ × ℕ)) (p : List ℕ) → length region ≡ length box → outside_axis axis region box ≡ None → LiesIn region p → LiesIn box p
inside-box axis [] [] p same none inside = inside
inside-box axis [] (b ∷ box) p same none inside = absurd (omega arith)
inside-box axis (r ∷ region) [] p same none inside = absurd (omega arith)
inside-box axis (r ∷ region) (b ∷ box) [] same none inside = absurd inside
inside-box axis (r ∷ region) (b ∷ box) (x ∷ p) same none inside =
    with_coordinate axis r b region box x p inside
    (λ none. inside-box (axis + 1) region box p (omega arith) none inside.2)
    (ltb r.0 b.0) (ltb b.1 r.1) refl refl none
