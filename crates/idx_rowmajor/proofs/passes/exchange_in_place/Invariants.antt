use Rattle.idx_rowmajor.proofs.PassLemmas.{ArePassed}
use Rattle.idx_rowmajor.proofs.passes.exchange_in_place.Given as goal

abbrev pub invariant-loop-place : goal.invariant-loop-place
invariant-loop-place g l = ArePassed l.place l.count (g.P.Pairing.partner l.pairing) l.size l.initial.block l.block
