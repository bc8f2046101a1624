-- The copies along the lanes of so many axes, by the numbers of their coordinates.
use Rattle.std.proofs.Common.{◌≡◌, ℕ, zero, suc, ◌+◌, ◌*◌, ◌<◌, ◌≤◌, Bool, cond, eqb, List, refl, sym, ap, subst, ⊎_elim, arith}
use Rattle.std.specs.Prelude.{All}
use Rattle.std.proofs.lemmas.Bool.{cases_lt, eq-eqb, ne_eqb}
use Rattle.std.proofs.lemmas.List.Elements.{All-cons, All-nil}
use Rattle.idx_lanes.specs.declared.block_part.BlockPart.{BlockPart}
use Rattle.idx_lanes.specs.declared.lane.Lane.{Lane}
use Rattle.idx_lanes.specs.Spread.{part_after}
use Rattle.idx_lanes.specs.Copies.{AreMade, EachCopy, HasCoordinate, IsRight}
use Rattle.idx_lanes.specs.Lanes.{AreCopied, AreNumbers, AreLanes, byte_at, count_on, lane_on, lanes_of, place_at, sum_to}
use Rattle.idx_lanes.proofs.ZByLemmas.{sum_to-same}

abbrev step_at : BlockPart → (ℕ → ℕ) → ℕ → ℕ
step_at part ks axis = ks axis * (lane_on part axis).step

abbrev part_at : BlockPart → (ℕ → ℕ) → ℕ → ℕ
part_at part ks axis = part_after (lane_on part axis).bits (lane_on part axis).first (ks axis)

-- the numbers with that of one axis more
abbrev with_axis : (ℕ → ℕ) → ℕ → ℕ → ℕ → ℕ
with_axis ks n k axis = cond (eqb axis n) k (ks axis)

with_axis-here : (ks : ℕ → ℕ) (n k : ℕ) → with_axis ks n k n ≡ k
with_axis-here ks n k = ap (λ (b : Bool). cond b k (ks n)) (eq-eqb n n refl)

with_axis-before : (ks : ℕ → ℕ) (n k axis : ℕ) → axis < n → with_axis ks n k axis ≡ ks axis
with_axis-before ks n k axis less = ap (λ (b : Bool). cond b k (ks axis)) (ne_eqb axis n (λ e. omega (arith, e)))

numbers-with : (part : BlockPart) (n : ℕ) (ks : ℕ → ℕ) (k : ℕ) → AreNumbers part n ks → k < count_on part n → AreNumbers part (suc n) (with_axis ks n k)
numbers-with part n ks k are within axis lt = ⊎_elim
    (λ (less : axis < n). omega (arith, are axis less, with_axis-before ks n k axis less))
    (λ (ge : n ≤ axis).
    let last : axis ≡ n = omega (arith, lt) in
    subst (λ (a : ℕ). with_axis ks n k a < count_on part a) (sym last) (omega (arith, within, with_axis-here ks n k)))
    (cases_lt axis n)

-- where something holds of the copy at each choice of numbers, it holds of each copy
pub each-intro : (P : ℕ → ℕ → Type 0) (part : BlockPart) (n from place : ℕ) →
    ((ks : ℕ → ℕ) → AreNumbers part n ks → (f o : ℕ) → f ≡ from + sum_to (step_at part ks) n → o ≡ place + sum_to (part_at part ks) n → P f o) →
    EachCopy P (lanes_of part n) from place
each-intro P part zero from place given = given (λ axis. 0) (λ axis lt. absurd (omega arith)) from place (omega arith) (omega arith)
each-intro P part (suc n) from place given = λ k lt.
    each-intro P part n (from + k * (lane_on part n).step) (place + part_after (lane_on part n).bits (lane_on part n).first k) (λ ks are f o at_byte at_place.
    let more : ℕ → ℕ = with_axis ks n k in
    let here : more n ≡ k = with_axis-here ks n k in
    let steps : sum_to (step_at part more) n ≡ sum_to (step_at part ks) n =
    sum_to-same (step_at part more) (step_at part ks) n (λ a less. ap (λ m. m * (lane_on part a).step) (with_axis-before ks n k a less)) in
    let parts : sum_to (part_at part more) n ≡ sum_to (part_at part ks) n =
    sum_to-same (part_at part more) (part_at part ks) n (λ a less. ap (part_after (lane_on part a).bits (lane_on part a).first) (with_axis-before ks n k a less)) in
    let step : step_at part more n ≡ k * (lane_on part n).step = ap (λ m. m * (lane_on part n).step) here in
    let given_part : part_at part more n ≡ part_after (lane_on part n).bits (lane_on part n).first k = ap (part_after (lane_on part n).bits (lane_on part n).first) here in
    given more (numbers-with part n ks k are lt) f o (omega (arith, at_byte, steps, step)) (omega (arith, at_place, parts, given_part)))

-- and the other way round
pub each-elim : (P : ℕ → ℕ → Type 0) (part : BlockPart) (n from place : ℕ) → EachCopy P (lanes_of part n) from place → (ks : ℕ → ℕ) → AreNumbers part n ks →
    (f o : ℕ) → f ≡ from + sum_to (step_at part ks) n → o ≡ place + sum_to (part_at part ks) n → P f o
each-elim P part zero from place each ks are f o at_byte at_place =
    let byte : from ≡ f = omega (arith, at_byte) in
    let there : place ≡ o = omega (arith, at_place) in
    subst (λ (m : ℕ). P f m) there (subst (λ (m : ℕ). P m place) byte each)
each-elim P part (suc n) from place each ks are f o at_byte at_place =
    each-elim P part n (from + ks n * (lane_on part n).step) (place + part_after (lane_on part n).bits (lane_on part n).first (ks n)) (each (ks n) (are n (omega arith))) ks
    (λ a less. are a (omega (arith, less))) f o
    (omega (arith, at_byte)) (omega (arith, at_place))

-- ---- a lanes

pub coordinates-lanes : (part : BlockPart) (n : ℕ) → ((axis : ℕ) → axis < n → 1 ≤ count_on part axis) → All HasCoordinate (lanes_of part n)
coordinates-lanes part zero some = All-nil HasCoordinate
coordinates-lanes part (suc n) some = All-cons HasCoordinate (lane_on part n) (lanes_of part n) (some n (omega arith)) (coordinates-lanes part n (λ axis less. some axis (omega (arith, less))))

pub lanes-coordinates : (part : BlockPart) (axes from : ℕ) (lanes : List Lane) → AreLanes part axes from lanes → All HasCoordinate lanes
lanes-coordinates part axes from lanes is = subst (λ (ls : List Lane). All HasCoordinate ls) (sym is.along) (coordinates-lanes part axes is.some)

pub lanes-each : (P : ℕ → ℕ → Type 0) (part : BlockPart) (axes from : ℕ) (lanes : List Lane) → AreLanes part axes from lanes →
    ((ks : ℕ → ℕ) → AreNumbers part axes ks → P (byte_at part axes ks) (place_at part axes ks)) → EachCopy P lanes from 0
lanes-each P part axes from lanes is given =
    subst (λ (ls : List Lane). EachCopy P ls from 0) (sym is.along)
    (each-intro P part axes from 0 (λ ks are f o at_byte at_place.
    let byte : byte_at part axes ks ≡ f = omega (arith, at_byte, is.begins) in
    let there : place_at part axes ks ≡ o = omega (arith, at_place) in
    subst (λ (m : ℕ). P f m) there (subst (λ (m : ℕ). P m (place_at part axes ks)) byte (given ks are))))

pub lanes-copied : (want : ℕ → List ℕ) (part : BlockPart) (axes from : ℕ) (lanes : List Lane) (old new : List ℕ) → AreLanes part axes from lanes →
    AreMade want part.size lanes from 0 old new → AreCopied want part axes old new
lanes-copied want part axes from lanes old new is made = record {
  kept = made.kept;
  placed = λ ks are.
      each-elim (λ f o. IsRight want part.size new o) part axes from 0 (subst (λ (ls : List Lane). EachCopy (λ f o. IsRight want part.size new o) ls from 0) is.along made.placed) ks are
      (from + sum_to (step_at part ks) axes) (place_at part axes ks) refl (omega arith);
}

-- where an axis has no coordinate there are no copies
pub none-copied : (want : ℕ → List ℕ) (part : BlockPart) (axes : ℕ) (old : List ℕ) → (axis : ℕ) × (axis < axes) × (count_on part axis ≡ 0) → AreCopied want part axes old old
none-copied want part axes old none = record {
  kept = λ o h. h;
  placed = λ ks are. absurd (omega (arith, are none.0 none.1, none.2));
}
