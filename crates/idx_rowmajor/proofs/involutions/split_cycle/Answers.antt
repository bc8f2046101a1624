use Rattle.std.proofs.Common.{◌≡◌, ℕ, ◌<◌, refl, subst, arith}
use Rattle.idx_rowmajor.proofs.SplitLemmas.{IsWalked, IsWalked-none, IsWalked-more, front-lt, next-lt, AreSplit-walked, has_start, has_others}
use Rattle.idx_rowmajor.proofs.involutions.split_cycle.Goals as goal
use Rattle.idx_rowmajor.proofs.involutions.split_cycle.Goals.{After-loop}

pub loop-init : goal.loop-init
loop-init c =
    IsWalked-none c.args.start c.args.targets.now c.args.inverse.now c.args.halves.now.first c.args.halves.now.second c.requires.before.first_room c.requires.before.second_room

pub loop-preserved : goal.loop-preserved
loop-preserved c =
    IsWalked-more c.args.bits c.args.start c.args.targets.now c.args.inverse.now c.requires.bits c.requires.start c.requires.places c.requires.back
    c.loop.counter c.loop.ahead c.loop.behind _ c.args.halves.now.first c.args.halves.now.second c.loop.halves.first c.loop.halves.second c.pair.new.places c.pair-in-loop.new.places
    c.loop.invariant refl c.pair-in-loop.array_long.0 c.pair-in-loop.array_long.1 c.pair.ensures c.pair-in-loop.ensures

pub pair-requires-clause-a : goal.pair-requires-clause-a
pair-requires-clause-a c =
    (front-lt c.args.bits c.args.start c.args.targets.now c.args.inverse.now c.requires.bits c.requires.start c.requires.places c.requires.back
    c.loop.counter c.loop.ahead c.loop.behind c.args.halves.now.first c.args.halves.now.second c.loop.halves.first c.loop.halves.second c.loop.invariant).0

pub pair-requires-clause-b : goal.pair-requires-clause-b
pair-requires-clause-b c =
    (front-lt c.args.bits c.args.start c.args.targets.now c.args.inverse.now c.requires.bits c.requires.start c.requires.places c.requires.back
    c.loop.counter c.loop.ahead c.loop.behind c.args.halves.now.first c.args.halves.now.second c.loop.halves.first c.loop.halves.second c.loop.invariant).1

whole : (c : After-loop) → IsWalked c.args.bits c.args.start c.loop.ahead c.loop.behind c.args.targets.now c.args.inverse.now c.args.halves.now.first c.args.halves.now.second c.loop.halves.first c.loop.halves.second
whole c =
    let all : c.loop.counter ≡ c.args.bits = omega (arith, c.loop-test.false, c.loop.auto.counter-end) in
    subst (λ (n : ℕ). IsWalked n c.args.start c.loop.ahead c.loop.behind c.args.targets.now c.args.inverse.now c.args.halves.now.first c.args.halves.now.second c.loop.halves.first c.loop.halves.second)
    all c.loop.invariant

pub returns-clause-after : goal.returns-clause-after
returns-clause-after c =
    AreSplit-walked c.args.bits c.args.start c.args.targets.now c.args.inverse.now c.requires.bits c.requires.start c.requires.places c.requires.back
    c.args.halves.now.first c.args.halves.now.second c.requires.before c.requires.none c.loop.ahead c.loop.behind c.loop.halves.first c.loop.halves.second (whole c)

pub returns-clause-here : goal.returns-clause-here
returns-clause-here c =
    has_start c.args.bits c.args.start c.args.targets.now c.args.inverse.now c.requires.bits c.requires.start c.requires.places c.requires.back
    c.args.halves.now.first c.args.halves.now.second c.requires.before c.requires.none c.loop.ahead c.loop.behind c.loop.halves.first c.loop.halves.second (whole c)

pub returns-clause-kept : goal.returns-clause-kept
returns-clause-kept c =
    has_others c.args.bits c.args.start c.args.targets.now c.args.inverse.now c.requires.bits c.requires.start c.requires.places c.requires.back
    c.args.halves.now.first c.args.halves.now.second c.requires.before c.requires.none c.loop.ahead c.loop.behind c.loop.halves.first c.loop.halves.second (whole c)

pub offset_bounds-targets-ahead : goal.offset_bounds-targets-ahead
offset_bounds-targets-ahead c =
    let within : (c.loop.ahead < 20) × (c.loop.behind < 20) = front-lt c.args.bits c.args.start c.args.targets.now c.args.inverse.now c.requires.bits c.requires.start c.requires.places c.requires.back
    c.loop.counter c.loop.ahead c.loop.behind c.args.halves.now.first c.args.halves.now.second c.loop.halves.first c.loop.halves.second c.loop.invariant in
    omega (arith, within.0)

pub bounds-targets-ahead : goal.bounds-targets-ahead
bounds-targets-ahead c =
    let within : (c.loop.ahead < 20) × (c.loop.behind < 20) = front-lt c.args.bits c.args.start c.args.targets.now c.args.inverse.now c.requires.bits c.requires.start c.requires.places c.requires.back
    c.loop.counter c.loop.ahead c.loop.behind c.args.halves.now.first c.args.halves.now.second c.loop.halves.first c.loop.halves.second c.loop.invariant in
    omega (arith, within.0)

pub offset_bounds-inverse-behind : goal.offset_bounds-inverse-behind
offset_bounds-inverse-behind c =
    let within : (c.loop.ahead < 20) × (c.loop.behind < 20) = front-lt c.args.bits c.args.start c.args.targets.now c.args.inverse.now c.requires.bits c.requires.start c.requires.places c.requires.back
    c.loop.counter c.loop.ahead c.loop.behind c.args.halves.now.first c.args.halves.now.second c.loop.halves.first c.loop.halves.second c.loop.invariant in
    omega (arith, within.1)

pub bounds-inverse-behind : goal.bounds-inverse-behind
bounds-inverse-behind c =
    let within : (c.loop.ahead < 20) × (c.loop.behind < 20) = front-lt c.args.bits c.args.start c.args.targets.now c.args.inverse.now c.requires.bits c.requires.start c.requires.places c.requires.back
    c.loop.counter c.loop.ahead c.loop.behind c.args.halves.now.first c.args.halves.now.second c.loop.halves.first c.loop.halves.second c.loop.invariant in
    omega (arith, within.1)

pub pair-requires-in-loop-clause-b : goal.pair-requires-in-loop-clause-b
pair-requires-in-loop-clause-b c =
    let within : (c.loop.ahead < 20) × (c.loop.behind < 20) = front-lt c.args.bits c.args.start c.args.targets.now c.args.inverse.now c.requires.bits c.requires.start c.requires.places c.requires.back
    c.loop.counter c.loop.ahead c.loop.behind c.args.halves.now.first c.args.halves.now.second c.loop.halves.first c.loop.halves.second c.loop.invariant in
    omega (arith, within.1)

pub pair-requires-in-loop-clause-a : goal.pair-requires-in-loop-clause-a
pair-requires-in-loop-clause-a c =
    next-lt c.args.bits c.args.start c.args.targets.now c.args.inverse.now c.requires.bits c.requires.start c.requires.places c.requires.back
    c.loop.counter c.loop.ahead c.loop.behind c.args.halves.now.first c.args.halves.now.second c.loop.halves.first c.loop.halves.second c.loop.invariant
