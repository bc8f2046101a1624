-- The coordinates of a grid along one axis, between two bounds.
use Rattle.std.proofs.Common.{◌≡◌, ℕ, ◌+◌, ◌-◌, ◌*◌, ◌/◌, ◌%◌, ◌<◌, ◌≤◌, List, drop, refl, sym, ap, ◌∙◌, inl, inr, arith}
use Rattle.std.proofs.Math.Nat.{mod-lt, mod-eq_of_lt, mul-le-mul_right, le-div_iff_mul-le, mul-add-div_right}
use Rattle.std.proofs.lemmas.Bool.{cases_lt, lt-ltb}
use Rattle.std.proofs.lemmas.Nat.{div-add-mod', mod-mul-add, div-mul-add, pow_pos}
use Rattle.idx_grid.specs.Grid.{IsOnAxis}
use Rattle.idx_hz.specs.Mask.{bit_count}
use Rattle.idx_hz.specs.Stride.{stride}
use Rattle.idx_lanes.specs.Axis.{first_from, step_of, count_to}

one_more : (n x : ℕ) → (n + 1) * x ≡ n * x + x
one_more n x = grind arith

-- what is true of the first coordinate: it lies on the grid, from the lower bound on, and none before it does
pub record IsStart (lo first step start : ℕ) : Type 0 where
  pub number : ℕ
  pub on : start ≡ first + number * step
  pub from : lo ≤ start
  pub least : start < lo + step

pub start-is : (lo first step : ℕ) → first < step → IsStart lo first step (first_from lo first step)
start-is lo first step small =
    let r : ℕ = lo % step in
    let below : r < step = mod-lt lo (omega arith) in
    let split : lo / step * step + r ≡ lo = div-add-mod' lo step in
    elim (cases_lt first r) [
      | inl less ↦
          let rest : (first + step - r) % step ≡ first + step - r = mod-eq_of_lt (omega arith) in
          record {
            number = lo / step + 1;
            on = omega (arith, rest, split, one_more (lo / step) step);
            from = omega arith;
            least = omega (arith, rest);
          }
      | inr ge ↦
          let cut : first + step - r ≡ 1 * step + (first - r) = omega arith in
          let rest : (first + step - r) % step ≡ first - r = ap (λ n. n % step) cut ∙ mod-mul-add 1 step (first - r) (omega arith) in
          record {
            number = lo / step;
            on = omega (arith, rest, split);
            from = omega arith;
            least = omega (arith, rest);
          }
    ]

-- coordinate number k lies on the grid, and below the upper bound
pub on-steps : (lo first step start k : ℕ) → IsStart lo first step start → IsOnAxis first step (start + k * step)
on-steps lo first step start k is = (is.number + k, omega (arith, is.on, sum is.number k step))
  where
    sum : (a b x : ℕ) → (a + b) * x ≡ a * x + b * x
    sum a b x = grind arith

pub step-le : (start hi step k : ℕ) → 0 < step → k < count_to start hi step → start + k * step ≤ hi
step-le start hi step k some within =
    let le : k + 1 ≤ (hi + step - start) / step = omega arith in
    let room : (k + 1) * step ≤ hi + step - start = (le-div_iff_mul-le {k = step} {x = k + 1} {y = hi + step - start} some).0 le in
    let positive : 1 * step ≤ (k + 1) * step = mul-le-mul_right step (omega arith) in
    omega (arith, room, positive, one_more k step)

-- each coordinate of the grid between the bounds is one of them
pub record IsAlong (start hi step x : ℕ) : Type 0 where
  pub is : x ≡ start + (x - start) / step * step
  pub within : (x - start) / step < count_to start hi step

pub along : (lo hi first step start x : ℕ) → 0 < step → IsStart lo first step start → IsOnAxis first step x → lo ≤ x → x ≤ hi → IsAlong start hi step x
along lo hi first step start x some start_is on from to =
    let m : ℕ = start_is.number in
    let j : ℕ = on.0 in
    elim (cases_lt j m) [
      | inl less ↦
          let le : j + 1 ≤ m = omega arith in
          absurd (omega (arith, on.1, from, start_is.on, start_is.least, one_more j step, mul-le-mul_right step le))
      | inr ge ↦
          let d : ℕ = j - m in
          let parts : j * step ≡ m * step + d * step = ap (λ n. n * step) (let n : j ≡ m + d = omega arith in n) ∙ sum m d step in
          let is : x ≡ start + d * step = omega (arith, on.1, start_is.on, parts) in
          let quotient : (x - start) / step ≡ d =
          ap (λ n. n / step) (let n : x - start ≡ d * step + 0 = omega (arith, is) in n) ∙ div-mul-add d step 0 some in
          let room : (d + 1) * step ≤ hi + step - start = omega (arith, is, to, one_more d step) in
          let count : d + 1 ≤ (hi + step - start) / step = (le-div_iff_mul-le {k = step} {x = d + 1} {y = hi + step - start} some).1 room in
          record { is = is ∙ ap (λ n. start + n * step) (sym quotient); within = omega (arith, quotient, count) }
    ]
  where
    sum : (a b x : ℕ) → (a + b) * x ≡ a * x + b * x
    sum a b x = grind arith

-- steps are counted by a quotient
pub div-steps : (start k step : ℕ) → 0 < step → (start + k * step) / step ≡ start / step + k
div-steps start k step some =
    let turned : start + k * step ≡ k * step + start = omega arith in
    ap (λ n. n / step) turned ∙ mul-add-div_right some k start ∙ omega arith

-- strides are positive
pub stride_pos : (mask : List ℕ) (h axis : ℕ) → 0 < stride mask h axis
stride_pos mask h axis = pow_pos (bit_count axis (drop h mask))

-- steps along an axis, each of so many strides; an axis of one point has none
pub times-step_of : (weight s count k : ℕ) → k < count → k * step_of weight s count ≡ k * (s * weight)
times-step_of weight s count k within =
    elim (cases_lt 1 count) [
      | inl more ↦ rw (lt-ltb 1 count more) refl
      | inr one ↦ let none : k ≡ 0 = omega arith in rw none (omega arith)
    ]
