use Rattle.std.proofs.Common.{◌≡◌, take, arith}
use Rattle.idx_hz.specs.Guess.{rounds}
use Rattle.idx_hz.proofs.GuessLemmas.{IsMask-all_rounds}
use Rattle.idx_hz.proofs.GuessSteps.{HasRounds-room, HasRounds-more, HasRounds-all}
use Rattle.idx_hz.proofs.guessed.mask_of_bits.Goals as goal

pub place_round-len-requires-clause-room : goal.place_round-len-requires-clause-room
place_round-len-requires-clause-room c = HasRounds-room c.args.bits.now c.args.total c.loop-round.round c.loop-round.len c.loop-round.digits c.requires.all c.requires.few (omega arith) c.loop-round.invariant

pub loop-round-preserved : goal.loop-round-preserved
loop-round-preserved c =
    HasRounds-more c.args.bits.now c.args.total c.loop-round.round c.loop-round.len c.loop-round.digits c.requires.all c.requires.few (omega arith) c.loop-round.invariant
    c.place_round-len.result c.place_round-len.new.digits c.place_round-len.ensures.count c.place_round-len.ensures.digits c.place_round-len.ensures.room

pub of_axes-requires : goal.of_axes-requires
of_axes-requires c =
    let whole : take c.loop-round.len c.loop-round.digits ≡ rounds c.args.bits.now c.args.total = HasRounds-all c.args.bits.now c.args.total c.loop-round.round c.loop-round.len c.loop-round.digits (omega arith) c.loop-round.invariant in
    rw (whole, c.requires.all) (IsMask-all_rounds c.args.bits.now (omega (arith, c.requires.all, c.requires.some)) (omega (arith, c.requires.all, c.requires.few)) c.requires.axes)
