use Rattle.idx_pieces.specs.Samples.{region_bytes}
use Rattle.idx_gather.proofs.RunLemmas.{IsRunSoFar}
use Rattle.idx_gather.proofs.batch.batch_count.Given as goal

-- the pieces so far are the first ones of the run
abbrev pub invariant-loop-count : goal.invariant-loop-count
invariant-loop-count l = IsRunSoFar (λ piece. region_bytes l.header piece.region) l.room l.pieces l.count l.used
