use Rattle.std.proofs.Common.{◌≡◌, ℕ, ◌<◌}
use Rattle.idx_rowmajor.specs.Rows.{sample_of}
use Rattle.idx_rowmajor.proofs.picks.pick_partners.Given as goal

abbrev pub invariant-loop-place : goal.invariant-loop-place
invariant-loop-place g l = (o : ℕ) → o < l.place → sample_of l.size l.into o ≡ sample_of l.size l.from (g.P.Pairing.partner l.pairing o)
