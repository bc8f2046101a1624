-- The volume of a drill is whole, and each of its questions can be asked.
use Rattle.std.proofs.Common.{◌≡◌, ℕ, zero, suc, ◌+◌, ◌*◌, ◌^◌, ◌≤◌, Bool, true, false, cond, ◌||◌, ltb, nat_eq, List, [], ◌∷◌, length, map, Some, None, refl, sym, ap, ◌∙◌, arith}
use Rattle.std.specs.Prelude.{Option}
use Rattle.std.specs.List.{AllByRecursion, range_with_len}
use Rattle.std.proofs.Math.Pow.{pow_mono}
use Rattle.std.proofs.lemmas.Bool.{cond-false, le-ltb, or_from}
use Rattle.std.proofs.lemmas.List.Sums.{count_by-le-length, length-filter}
use Rattle.std.proofs.lemmas.List.FromFn.{length-map-range_with_len}
use Rattle.std.proofs.lemmas.Nat.{pow-add, pow_pos}
use Rattle.idx_geom.specs.Region.{extent, points}
use Rattle.idx_geom.proofs.PointsLemmas.{length-points}
use Rattle.idx_header.specs.Header.{volume_bytes}
use Rattle.idx_plan.specs.Needed.{answer_bytes, is_asked, max_answer, outside_axis, plan_fault, fault_by_axis}
use Rattle.idx_plan.specs.declared.plan_fault.PlanFault.{PlanFault}
use Rattle.idx_plan.specs.declared.plan_fault.PlanFault.TheVariants.{BadLevels, TooLarge}
use Rattle.idx_events.specs.Volumes.{count_of}
use Rattle.idx_core_model.specs.Headline.{CanBeAsked, IsTaken}
use Rattle.idx_drill_model.specs.Drill.{drill_ask, drill_asks, drill_box, drill_byte, drill_depth, drill_end, drill_header, drill_mask, drill_volume}
use Rattle.idx_drill_model.proofs.BoxLemmas.{length-mask}

-- ---- the volume

side : (n : ℕ) → extent (0, drill_end n) ≡ 2 ^ n
side n = omega (arith, pow_pos n)

cube : (n : ℕ) → 2 ^ n * (2 ^ n * (2 ^ n * 1)) ≡ 2 ^ drill_depth n
cube n =
    let three : 3 * n ≡ n + (n + (n + 0)) = omega arith in
    sym (ap (λ k. 2 ^ k) three
    ∙ pow-add 2 n (n + (n + 0))
    ∙ ap (λ k. 2 ^ n * k) (pow-add 2 n (n + 0) ∙ ap (λ k. 2 ^ n * k) (pow-add 2 n 0)))

pub points-many : (n : ℕ) → length (points (drill_box n)) ≡ 2 ^ drill_depth n
points-many n = length-points (drill_box n) ∙ (λ i. side n i * (side n i * (side n i * 1))) ∙ cube n

pub volume-many : (n : ℕ) → volume_bytes (drill_header n) ≡ 2 ^ drill_depth n
volume-many n = omega (arith, points-many n)

pub length-volume : (n : ℕ) → length (drill_volume n) ≡ volume_bytes (drill_header n)
length-volume n = length-map-range_with_len (drill_byte n) 0 (2 ^ drill_depth n) ∙ sym (volume-many n)

-- ---- the questions

outside-none : (axis : ℕ) (box : List (ℕ × ℕ)) → outside_axis axis box box ≡ None
outside-none axis [] = refl
outside-none axis (b ∷ box) =
    cond-false (ltb b.0 b.0 || ltb b.1 b.1) (Some axis) (outside_axis (axis + 1) box box)
    (or_from (ltb b.0 b.0) (ltb b.1 b.1) (le-ltb b.0 b.0 (omega arith)) (le-ltb b.1 b.1 (omega arith)))
    ∙ outside-none (axis + 1) box

few-points : (n : ℕ) → n ≤ 8 → 2 ^ drill_depth n ≤ 2 ^ 24
few-points n small = let few : drill_depth n ≤ 24 = omega arith in pow_mono few

answer-few : (n l : ℕ) → n ≤ 8 → answer_bytes (drill_header n) (drill_ask n l) ≤ max_answer
answer-few n l small =
    let test : List ℕ → Bool = is_asked (drill_header n) (drill_ask n l) in
    let count = length-filter test (points (drill_box n)) in
    omega (arith, count, count_by-le-length test (points (drill_box n)), points-many n, few-points n small)

no-fault : (n l : ℕ) → n ≤ 8 → l ≤ drill_depth n → plan_fault (drill_header n) (drill_ask n l) ≡ None
no-fault n l small deepest =
    let bytes : ℕ = answer_bytes (drill_header n) (drill_ask n l) in
    let large : Option PlanFault = cond (ltb max_answer bytes) (Some (TooLarge bytes)) None in
    ap (fault_by_axis (drill_header n) (drill_ask n l)) (outside-none 0 (drill_box n))
    ∙ cond-false (ltb l l || ltb (length (drill_mask n)) l) (Some (BadLevels l l (length (drill_mask n)))) large
    (or_from (ltb l l) (ltb (length (drill_mask n)) l) (le-ltb l l (omega arith)) (le-ltb (length (drill_mask n)) l (omega (arith, length-mask n))))
    ∙ cond-false (ltb max_answer bytes) (Some (TooLarge bytes)) None (le-ltb max_answer bytes (answer-few n l small))

pub can-ask : (n l : ℕ) → n ≤ 8 → l ≤ drill_depth n → CanBeAsked (drill_header n) (drill_ask n l)
can-ask n l small deepest = record { field = omega arith; axes = refl; plan = no-fault n l small deepest }

-- ---- what a world takes

all-asked : (n a m : ℕ) → n ≤ 8 → a + m ≤ drill_depth n + 1 → AllByRecursion (CanBeAsked (drill_header n)) (map (drill_ask n) (range_with_len a m))
all-asked n a zero small within = tt
all-asked n a (suc m) small within = (can-ask n a small (omega arith), all-asked n (a + 1) m small (omega arith))

few-times : (time : ℕ) → count_of time (0 ∷ []) ≤ 256
few-times time = by_test (nat_eq time 0)
  where
    by_test : (b : Bool) → length {A = ℕ} (cond b (0 ∷ []) []) ≤ 256
    by_test true = omega arith
    by_test false = omega arith

pub drill-taken : (n : ℕ) → n ≤ 8 → IsTaken (drill_header n) ((0, drill_volume n) ∷ []) (drill_asks n)
drill-taken n small = record {
  steps = ((omega arith, omega arith), tt);
  few = few-times;
  whole = (length-volume n, tt);
  asked = all-asked n 0 (drill_depth n + 1) small (omega arith);
}
