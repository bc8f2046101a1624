use Rattle.std.proofs.Common.{◌≡◌, ℕ, ◌<◌, ◌≤◌, List, length, map, get_or, sym, ap, ◌∙◌, arith, rules, subst}
use Rattle.std.specs.List.{zip}
use Rattle.std.proofs.lemmas.List.{length-set, length-map}
use Rattle.std.proofs.lemmas.Option.{same_Some}
use Rattle.idx_geom.specs.Region.{common_bounds, points}
use Rattle.idx_geom.proofs.LiesInLemmas.{length-common_bounds}
use Rattle.idx_geom.proofs.RegionSteps.{lower_common, upper_common, known_more, ends-found, zip-ends, IsPoint-lower_common, IsPoint-upper_common, few_common}
use Rattle.idx_geom.proofs.region.Region.common_ends.Goals as goal

pub loop-axis-preserved : goal.loop-axis-preserved
loop-axis-preserved c =
    let inside : c.loop-axis.axis < length c.args.self.now = omega arith in
    let few : length c.args.self.now ≤ 5 = c.axes-axis-end.ensures.valid.axes.1 in
    let cs = common_bounds c.args.self.now c.args.other.now in
    record {
      room_low = length-set c.loop-axis.lows c.loop-axis.axis _ ∙ c.loop-axis.invariant.room_low;
      room_high = length-set c.loop-axis.highs c.loop-axis.axis _ ∙ c.loop-axis.invariant.room_high;
      lows = known_more c.loop-axis.lows c.loop-axis.axis c.max.result (λ k. (get_or cs k (0, 0)).0)
          (omega (arith, c.loop-axis.invariant.room_low)) c.loop-axis.invariant.lows
          (c.max.ensures ∙ lower_common c.args.self.now c.args.other.now c.requires c.loop-axis.axis c.bounds-a.result c.bounds-b.result inside c.bounds-a.ensures.value c.bounds-b.ensures.value);
      highs = known_more c.loop-axis.highs c.loop-axis.axis c.min.result (λ k. (get_or cs k (0, 0)).1)
          (omega (arith, c.loop-axis.invariant.room_high)) c.loop-axis.invariant.highs
          (c.min.ensures ∙ upper_common c.args.self.now c.args.other.now c.requires c.loop-axis.axis c.bounds-a.result c.bounds-b.result inside c.bounds-a.ensures.value c.bounds-b.ensures.value);
    }

pub unwrap-requires : goal.unwrap-requires
unwrap-requires c =
    let cs = common_bounds c.args.self.now c.args.other.now in
    let long : length cs ≡ c.axes-axes.result = length-common_bounds c.args.self.now c.args.other.now c.requires ∙ omega arith in
    rw (ends-found cs c.loop-axis.lows (λ b. b.0) c.axes-axes.result c.loop-axis.axis c.stride.result
    (IsPoint-lower_common c.args.self.now c.args.other.now c.axes-axis-end.ensures.valid c.axes-axes.ensures.valid c.requires)
    long (omega arith) (omega (arith, c.axes-axes.ensures.valid.axes.1)) c.loop-axis.invariant.lows c.stride.ensures)
    (search rules)

pub unwrap-requires-2 : goal.unwrap-requires-2
unwrap-requires-2 c =
    let cs = common_bounds c.args.self.now c.args.other.now in
    let long : length cs ≡ c.axes-axes.result = length-common_bounds c.args.self.now c.args.other.now c.requires ∙ omega arith in
    rw (ends-found cs c.loop-axis.highs (λ b. b.1) c.axes-axes.result c.loop-axis.axis c.stride-2.result
    (IsPoint-upper_common c.args.self.now c.args.other.now c.axes-axis-end.ensures.valid c.axes-axes.ensures.valid c.requires)
    long (omega arith) (omega (arith, c.axes-axes.ensures.valid.axes.1)) c.loop-axis.invariant.highs c.stride-2.ensures)
    (search rules)

-- the two ends
lower : (c : goal.After-unwrap-2) → c.unwrap.result ≡ map (λ (b : ℕ × ℕ). b.0) (common_bounds c.args.self.now c.args.other.now)
lower c =
    let cs = common_bounds c.args.self.now c.args.other.now in
    let long : length cs ≡ c.axes-axes.result = length-common_bounds c.args.self.now c.args.other.now c.requires ∙ omega arith in
    same_Some c.unwrap.result (map (λ (b : ℕ × ℕ). b.0) cs)
    (sym c.unwrap.ensures
    ∙ ends-found cs c.loop-axis.lows (λ b. b.0) c.axes-axes.result c.loop-axis.axis c.stride.result
    (IsPoint-lower_common c.args.self.now c.args.other.now c.axes-axis-end.ensures.valid c.axes-axes.ensures.valid c.requires)
    long (omega arith) (omega (arith, c.axes-axes.ensures.valid.axes.1)) c.loop-axis.invariant.lows c.stride.ensures)

upper : (c : goal.After-unwrap-2) → c.unwrap-2.result ≡ map (λ (b : ℕ × ℕ). b.1) (common_bounds c.args.self.now c.args.other.now)
upper c =
    let cs = common_bounds c.args.self.now c.args.other.now in
    let long : length cs ≡ c.axes-axes.result = length-common_bounds c.args.self.now c.args.other.now c.requires ∙ omega arith in
    same_Some c.unwrap-2.result (map (λ (b : ℕ × ℕ). b.1) cs)
    (sym c.unwrap-2.ensures
    ∙ ends-found cs c.loop-axis.highs (λ b. b.1) c.axes-axes.result c.loop-axis.axis c.stride-2.result
    (IsPoint-upper_common c.args.self.now c.args.other.now c.axes-axis-end.ensures.valid c.axes-axes.ensures.valid c.requires)
    long (omega arith) (omega (arith, c.axes-axes.ensures.valid.axes.1)) c.loop-axis.invariant.highs c.stride-2.ensures)

pub returns-clause-same_axes : goal.returns-clause-same_axes
returns-clause-same_axes c =
    let cs = common_bounds c.args.self.now c.args.other.now in
    ap length (lower c) ∙ length-map cs (λ (b : ℕ × ℕ). b.0) ∙ sym (ap length (upper c) ∙ length-map cs (λ (b : ℕ × ℕ). b.1))

pub returns-clause-bounds : goal.returns-clause-bounds
returns-clause-bounds c =
    ap (λ lo. zip lo c.unwrap-2.result) (lower c)
    ∙ ap (λ hi. zip (map (λ (b : ℕ × ℕ). b.0) (common_bounds c.args.self.now c.args.other.now)) hi) (upper c)
    ∙ zip-ends (common_bounds c.args.self.now c.args.other.now)

pub returns-clause-few : goal.returns-clause-few
returns-clause-few c =
    let P : List (ℕ × ℕ) → Type 0 = λ bs. length (points bs) ≤ 1099511627776 in
    subst P (sym (returns-clause-bounds c)) (few_common c.args.self.now c.args.other.now c.axes-axis-end.ensures.valid c.requires)
