use Rattle.std.proofs.Common.{◌≡◌, ℕ, ◌+◌, ◌-◌, ◌/◌, ◌^◌, ◌<◌, ◌≤◌, refl, sym, ap, ◌∙◌, subst, arith}
use Rattle.std.proofs.lemmas.Nat.{pow_pos}
use Rattle.std.specs.Int.Count.{count_trailing_zeros}
use Rattle.idx_geom.specs.Region.{extent}
use Rattle.idx_scatter.specs.Sides.{IsSide, multiples_in}
use Rattle.idx_scatter.proofs.OrderLemmas.{trailing-power}
use Rattle.idx_scatter.proofs.SideLemmas.{ceil-is, div-mono, multiples-few}
use Rattle.idx_scatter.proofs.order.side_of.Goals as goal

positive : (n bits : ℕ) → n ≡ 2 ^ bits → 0 < n
positive n bits is = omega (arith, is, pow_pos bits)

pub overflow_sub-result-2 : goal.overflow_sub-result-2
overflow_sub-result-2 c =
    let s : ℕ = c.args.stride in
    let b : ℕ × ℕ = c.bounds-lo.result in
    let some : 0 < s = positive s c.requires.power.0 c.requires.power.1 in
    let less : b.0 + s - 1 ≤ b.1 + 1 + s - 1 = omega (arith, c.bounds-lo.ensures.ordered) in
    omega (arith, c.div_ceil-below.ensures, c.div_ceil.ensures, ceil-is b.0 s some, ceil-is (b.1 + 1) s some, div-mono s (b.0 + s - 1) (b.1 + 1 + s - 1) some less)

pub returns : goal.returns
returns c =
    let s : ℕ = c.args.stride in
    let b : ℕ × ℕ = c.bounds-lo.result in
    let some : 0 < s = positive s c.requires.power.0 c.requires.power.1 in
    let all : b.0 + extent b + s - 1 ≡ b.1 + 1 + s - 1 = omega (arith, c.bounds-lo.ensures.ordered) in
    let below : c.div_ceil-below.result ≡ (b.0 + s - 1) / s = omega (arith, c.div_ceil-below.ensures, ceil-is b.0 s some) in
    let whole : c.div_ceil.result - c.div_ceil-below.result ≡ multiples_in s b.0 (extent b) =
    omega (arith, below, c.div_ceil.ensures, ceil-is (b.1 + 1) s some, ap (λ t. t / s) all) in
    let wide : b.1 - b.0 + 1 ≡ extent b = omega (arith, c.bounds-lo.ensures.ordered) in
    let zeros = trailing-power s c.requires.power.0 c.requires.power.1 c.requires.small in
    subst (λ (p : ℕ × ℕ).
    IsSide s p (record {
      lo = b.0;
      extent = b.1 - b.0 + 1;
      stride = s;
      whole = c.div_ceil.result - c.div_ceil-below.result;
      shift = count_trailing_zeros 64 s;
      below =
          c.div_ceil-below.result;
    })) c.bounds-lo.ensures.value
    (record {
      lo = refl;
      wide = wide;
      stride = refl;
      whole = whole;
      sane = record {
        some = omega arith;
        paced = some;
        end = omega (arith, c.bounds-lo.ensures.small, c.bounds-lo.ensures.ordered);
        stride = c.requires.small;
        whole = omega (arith, whole, wide, multiples-few s b.0 (extent b) some);
        power = c.requires.power.1 ∙ ap (λ n. 2 ^ n) (sym zeros.0);
        few = omega (arith, zeros.0, zeros.1);
        below = below;
      };
    })
