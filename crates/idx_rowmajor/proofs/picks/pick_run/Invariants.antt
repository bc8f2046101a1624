use Rattle.std.proofs.Common.{◌≡◌, ℕ, ◌*◌, ◌<◌, slice_index}
use Rattle.std.specs.Prelude.{bit_or}
use Rattle.idx_rowmajor.specs.Rows.{sample_of}
use Rattle.idx_rowmajor.proofs.picks.pick_run.Given as goal

abbrev pub invariant-loop-k : goal.invariant-loop-k
invariant-loop-k g l = (o : ℕ) → o < 8 * l.k → sample_of l.size l.into o ≡ sample_of l.size l.from (bit_or (slice_index l.low o) l.high)

abbrev pub invariant-loop-l : goal.invariant-loop-l
invariant-loop-l g l = (o : ℕ) → o < l.l → sample_of l.size l.into o ≡ sample_of l.size l.from (bit_or (slice_index l.low o) l.high)
