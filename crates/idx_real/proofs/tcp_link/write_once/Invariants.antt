use Rattle.std.specs.Io.KnownBytes.{Keeps}
use Rattle.idx_real.proofs.tcp_link.write_once.Given as goal

abbrev pub invariant-loop-again : goal.invariant-loop-again
invariant-loop-again g l = Keeps (g.S.Write.contents l.initial.stream) (g.S.Write.contents l.stream)
