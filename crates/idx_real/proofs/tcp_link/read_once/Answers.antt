use Rattle.std.proofs.KnownBytes.{Keeps-refl, Keeps-trans}
use Rattle.idx_real.proofs.ReadLemmas.{ReadConsumes-again}
use Rattle.idx_real.proofs.tcp_link.read_once.Goals as goal

pub loop-again-init : goal.loop-again-init
loop-again-init g c = Keeps-refl _

pub returns-in_default-clause-read : goal.returns-in_default-clause-read
returns-in_default-clause-read g c = Keeps-trans _ _ _ c.loop-again.invariant c.in-Err.ensures.bytes

pub returns-in_default-2-clause-read : goal.returns-in_default-2-clause-read
returns-in_default-2-clause-read g c = ReadConsumes-again _ _ _ c.read.result _ c.loop-again.invariant c.read.ensures.bytes

pub loop-again-preserved : goal.loop-again-preserved
loop-again-preserved g c = Keeps-trans _ _ _ c.loop-again.invariant c.in-Err.ensures.bytes
