use Rattle.std.proofs.Common.{◌≡◌, ℕ, ◌*◌, ◌<◌}
use Rattle.idx_rowmajor.specs.Rows.{sample_of}
use Rattle.idx_rowmajor.specs.Tables.{partner_of}
use Rattle.idx_rowmajor.proofs.picks.pick.Given as goal

abbrev pub invariant-loop-number : goal.invariant-loop-number
invariant-loop-number g l = (o : ℕ) → o < l.count → o < l.number * 1024 → sample_of l.size l.into o ≡ sample_of l.size l.from (partner_of l.tables o)
