-- Some neighbouring coordinates of the slower one of two lanes, copied side by side.
use Rattle.std.proofs.Common.{◌≡◌, ℕ, zero, suc, ◌+◌, ◌-◌, ◌*◌, ◌≤◌, List, [], ◌∷◌, ap, ◌∙◌, subst, inl, inr, arith}
use Rattle.std.specs.Prelude.{All}
use Rattle.std.proofs.lemmas.Bool.{cases_lt}
use Rattle.std.proofs.lemmas.List.Elements.{All-cons, All-nil}
use Rattle.idx_lanes.specs.declared.lane.Lane.{Lane}
use Rattle.idx_lanes.specs.Spread.{next_part, part_after}
use Rattle.idx_lanes.specs.Copies.{AreMade, EachCopy, HasCoordinate, IsRight}
use Rattle.idx_lanes.proofs.CopyLemmas.{AreSoFar, each-implied}

pub one_coordinate : (lane : Lane) → 1 ≤ lane.count → All HasCoordinate (lane ∷ [])
one_coordinate lane some = All-cons HasCoordinate lane [] some (All-nil HasCoordinate)

-- so many coordinates of a lane, from one on whose part is given
abbrev pub some_of : Lane → ℕ → ℕ → Lane
some_of lane count part = record { step = lane.step; count = count; bits = lane.bits; first = part }

pub part_after-add : (bits first k j : ℕ) → part_after bits (part_after bits first k) j ≡ part_after bits first (k + j)
part_after-add bits first k zero = ap (part_after bits first) (omega arith)
part_after-add bits first k (suc j) =
    let next : suc (k + j) ≡ k + suc j = omega arith in
    ap (next_part bits) (part_after-add bits first k j) ∙ ap (part_after bits first) next

moved : (P : ℕ → ℕ → Type 0) (f g o q : ℕ) → f ≡ g → o ≡ q → P f o → P g q
moved P f g o q byte place h = subst (λ (n : ℕ). P g n) place (subst (λ (m : ℕ). P m o) byte h)

steps : (k j s : ℕ) → (k + j) * s ≡ k * s + j * s
steps k j s = grind arith

-- what holds of each copy along two lanes holds of each along the faster one and some coordinates of the slower one
pub each-some : (P : ℕ → ℕ → Type 0) (slower lane : Lane) (from place k n part : ℕ) → k + n ≤ slower.count → part ≡ part_after slower.bits slower.first k →
    EachCopy P (slower ∷ (lane ∷ [])) from place →
    EachCopy P (lane ∷ (some_of slower n part ∷ [])) (from + k * slower.step) place
each-some P slower lane from place k n part within is each = λ i i_lt j j_lt.
    let here : part_after slower.bits part j ≡ part_after slower.bits slower.first (k + j) = ap (λ p. part_after slower.bits p j) is ∙ part_after-add slower.bits slower.first k j in
    moved P (from + (k + j) * slower.step + i * lane.step) (from + k * slower.step + i * lane.step + j * slower.step)
    (place + part_after slower.bits slower.first (k + j) + part_after lane.bits lane.first i) (place + part_after lane.bits lane.first i + part_after slower.bits part j)
    (omega (arith, steps k j slower.step)) (omega (arith, here)) (each (k + j) (omega (arith, within, j_lt)) i i_lt)

-- the copies at some coordinates more
pub so_far-some : (want : ℕ → List ℕ) (size : ℕ) (slower lane : Lane) (from place k n part : ℕ) (old mid new : List ℕ) → part ≡ part_after slower.bits slower.first k →
    AreSoFar want size slower (lane ∷ []) from place k old mid → AreMade want size (lane ∷ (some_of slower n part ∷ [])) (from + k * slower.step) place mid new →
    AreSoFar want size slower (lane ∷ []) from place (k + n) old new
so_far-some want size slower lane from place k n part old mid new is before more = record {
  kept = λ o h. more.kept o (before.kept o h);
  placed = λ m m_lt. elim (cases_lt m k) [
    | inl less ↦ each-implied (λ f o. IsRight want size mid o) (λ f o. IsRight want size new o) (λ f o. more.kept o) (lane ∷ []) (from + m * slower.step)
        (place + part_after slower.bits slower.first m) (before.placed m less)
    | inr ge ↦ λ i i_lt.
        let j : ℕ = m - k in
        let whole : k + j ≡ m = omega (arith, ge) in
        let here : part_after slower.bits part j ≡ part_after slower.bits slower.first m =
        ap (λ p. part_after slower.bits p j) is ∙ part_after-add slower.bits slower.first k j ∙ ap (part_after slower.bits slower.first) whole in
        let place_is : place + part_after lane.bits lane.first i + part_after slower.bits part j ≡ place + part_after slower.bits slower.first m + part_after lane.bits lane.first i =
        omega (arith, here) in
        subst (λ (o : ℕ). IsRight want size new o) place_is (more.placed i i_lt j (omega (arith, ge, m_lt)))
  ];
}
