-- What was read after the seek stands at the place that was sought.
use Rattle.std.proofs.Common.{arith}
use Rattle.idx_real.proofs.PlacedLemmas.{StandsAt-read}
use Rattle.idx_real.proofs.placed.read_piece.Goals as goal

pub returns : goal.returns
returns g c law =
    StandsAt-read _ _ _ _ _ _ c.args.at c.in_ok-seek.field-0 c.read_exact.new.buf (law.from_place c.seek.new.self) c.in_ok-seek.ensures.moves c.in_ok-seek.ensures.bytes c.in_ok-read_exact.ensures.bytes (omega arith)
