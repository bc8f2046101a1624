use Rattle.std.proofs.Common.{◌≡◌, ℕ, suc, ◌+◌, ◌*◌, ap, ◌∙◌, sym, arith}
use borrow.Author.Count.{below_more}
use Rattle.idx_lanes.specs.Spread.{next_part, part_after}
use Rattle.idx_block.proofs.tiles.are_pairs.Goals as goal

pub loop-k-preserved : goal.loop-k-preserved
loop-k-preserved c =
    let lane = c.args.lane.now in
    let half = c.args.half.now in
    let k : ℕ = c.loop-k._k in
    let next : suc (k * 2) ≡ k * 2 + 1 = omega arith in
    let last : suc (suc (k * 2)) ≡ (k + 1) * 2 = omega arith in
    let more : suc k ≡ k + 1 = omega arith in
    let same : c.loop-k.part ≡ c.loop-k.of_half = omega (arith, c.if-part-of_half.false) in
    let bit : c.next_part-next.result ≡ c.loop-k.of_half + c.args.bit = omega (arith, c.if-next-bit.false, c.if-next-bit-2.false) in
    let second : c.next_part-next.result ≡ part_after lane.bits lane.first (suc (k * 2)) = c.next_part-next.ensures ∙ ap (next_part lane.bits) c.loop-k.invariant.part in
    record {
      part = c.next_part-part.ensures ∙ ap (next_part lane.bits) second ∙ ap (part_after lane.bits lane.first) last;
      of_half = c.next_part-of_half.ensures ∙ ap (next_part half.bits) c.loop-k.invariant.of_half ∙ ap (part_after half.bits half.first) more;
      low = below_more (λ j. part_after lane.bits lane.first (j * 2) ≡ part_after half.bits half.first j) k c.loop-k.invariant.low
          (sym c.loop-k.invariant.part ∙ same ∙ c.loop-k.invariant.of_half);
      high = below_more (λ j. part_after lane.bits lane.first (j * 2 + 1) ≡ part_after half.bits half.first j + c.args.bit) k c.loop-k.invariant.high
          (ap (part_after lane.bits lane.first) (sym next) ∙ sym second ∙ bit ∙ ap (λ n. n + c.args.bit) c.loop-k.invariant.of_half);
    }
