-- What is gone from the rest was appended.
use Rattle.std.proofs.Common.{◌≡◌, ℕ, List, ◌++◌}
use Rattle.std.specs.Io.KnownBytes.{Appends}
use Rattle.idx_real.proofs.tcp_link.write_in_time.Given as goal

abbrev pub invariant-loop-part : goal.invariant-loop-part
invariant-loop-part g l = (done : List ℕ) × (l.initial.rest ≡ done ++ l.rest) × Appends (g.S.Write.contents l.initial.stream) (g.S.Write.contents l.stream) done
