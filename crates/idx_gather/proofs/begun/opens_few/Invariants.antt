use Rattle.std.proofs.Common.{◌^◌, take}
use Rattle.idx_gather.specs.Streams.{OpenAtMost}
use Rattle.idx_gather.proofs.begun.opens_few.Given as goal

-- so it is behind the pieces before
abbrev pub invariant-loop-piece : goal.invariant-loop-piece
invariant-loop-piece l = OpenAtMost l.header (2 ^ 30) (take l.piece-index l.pieces) l.docks
