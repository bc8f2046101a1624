use Rattle.std.proofs.Common.{◌≡◌, ℕ, ◌+◌, ◌-◌, ◌≤◌, ◌++◌, List, length, sym, ap, ◌∙◌, append-nil, arith}
use Rattle.idx_hall.specs.declared.key.Key.{Key}
use Rattle.idx_plan.proofs.LevelsLemmas.{all_levels_before, branch_of_level, counted_digit, keys_more, no_later, none_before, region_address}
use Rattle.idx_plan.proofs.RootLemmas.{counts_less}
use Rattle.idx_plan.proofs.keys.add_later_keys.Goals as goal

pub returns-then-ask-bits : goal.returns-then-ask-bits
returns-then-ask-bits c =
    let keys : List Key = c.args.keys.now.items in
    sym (ap (λ (more : List Key). keys ++ more) (no_later c.args.header.now c.args.ask.now c.bits_per_block-bits.result c.bits_per_block-bits.ensures.value c.requires c.if-ask-bits.true) ∙ append-nil keys)

pub loop-level-init : goal.loop-level-init
loop-level-init c =
    let keys : List Key = c.args.keys.now.items in
    let bits : ℕ = c.bits_per_block-bits.result in
    let first : ℕ = c.max-first.result in
    let same : first - 1 - bits ≡ c.args.ask.now.lo - 1 - bits = omega (arith, c.max-first.ensures) in
    record {
      counted = c.counts_behind-behind.ensures;
      keys = sym (ap (λ (more : List Key). keys ++ more) (none_before c.mask-mask.result c.args.ask.now bits first same) ∙ append-nil keys);
    }

pub level_part-part-requires-clause-address : goal.level_part-part-requires-clause-address
level_part-part-requires-clause-address c =
    (region_address c.args.header.now c.args.ask.now c.mask-mask.result c.mask-mask.ensures.value c.mask-mask.ensures.valid c.requires).1

pub add_branch-requires-clause-address : goal.add_branch-requires-clause-address
add_branch-requires-clause-address c =
    (region_address c.args.header.now c.args.ask.now c.mask-mask.result c.mask-mask.ensures.value c.mask-mask.ensures.valid c.requires).1

pub add_branch-requires-clause-part : goal.add_branch-requires-clause-part
add_branch-requires-clause-part c =
    let size : length c.mask-mask.result ≡ length c.args.header.now.mask = ap length c.mask-mask.ensures.value in
    (branch_of_level c.mask-mask.result c.args.ask.now.region c.bits_per_block-bits.result c.loop-level.level c.of_level.result c.level_part-part.result c.of_level.ensures
    (omega (arith, c.loop-level.auto.level, c.max-first.ensures)) (omega (arith, size, c.requires.deepest, c.loop-level-test.true)) c.level_part-part.ensures).1

pub overflow_sub-behind : goal.overflow_sub-behind
overflow_sub-behind c =
    let size : length c.mask-mask.result ≡ length c.args.header.now.mask = ap length c.mask-mask.ensures.value in
    counted_digit c.mask-mask.result c.loop-level.behind c.loop-level.level c.axis.result (omega (arith, c.loop-level.auto.level, c.max-first.ensures)) (omega (arith, size, c.requires.deepest, c.loop-level-test.true))
    c.axis.ensures.value c.axis.ensures.small c.loop-level.invariant.counted

pub loop-level-preserved : goal.loop-level-preserved
loop-level-preserved c =
    let mask : List ℕ = c.mask-mask.result in
    let level : ℕ = c.loop-level.level in
    let size : length mask ≡ length c.args.header.now.mask = ap length c.mask-mask.ensures.value in
    let later : c.bits_per_block-bits.result + 1 ≤ level = omega (arith, c.loop-level.auto.level, c.max-first.ensures) in
    let from : c.args.ask.now.lo ≤ level = omega (arith, c.loop-level.auto.level, c.max-first.ensures) in
    let inside : level ≤ length mask = omega (arith, size, c.requires.deepest, c.loop-level-test.true) in
    record {
      counted = counts_less mask c.loop-level.behind (level - 1) (level + 1 - 1) c.axis.result (omega arith) (omega arith) c.axis.ensures.value c.axis.ensures.small c.loop-level.invariant.counted;
      keys = keys_more mask c.args.ask.now c.bits_per_block-bits.result level c.of_level.result c.args.keys.now.items c.loop-level.keys.items c.add_branch.new.keys.items c.of_level.ensures
          (omega (arith, later)) from c.loop-level.invariant.keys c.in_ok-add_branch.ensures;
    }

pub returns : goal.returns
returns c =
    let level : ℕ = c.loop-level.level in
    let bits : ℕ = c.bits_per_block-bits.result in
    let keys : List Key = c.args.keys.now.items in
    let end : level - 1 - bits ≡ c.args.ask.now.hi - bits = omega (arith, c.loop-level-test.false, c.loop-level.auto.level-end, c.max-first.ensures, c.if-ask-bits.false, c.requires.ordered) in
    c.loop-level.invariant.keys
    ∙ ap (λ (more : List Key). keys ++ more) (all_levels_before c.args.header.now c.args.ask.now c.mask-mask.result bits level c.mask-mask.ensures.value c.bits_per_block-bits.ensures.value c.requires.ordered c.requires.deepest end)
