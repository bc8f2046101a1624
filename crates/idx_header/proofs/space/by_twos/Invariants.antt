use Rattle.std.proofs.Common.{◌≡◌, ◌+◌, ◌≤◌, length}
use Rattle.idx_header.specs.Box.{by_twos}
use Rattle.idx_header.proofs.BoxLemmas.{in_front}
use Rattle.idx_header.proofs.space.by_twos.Given as goal

abbrev pub invariant-loop-rest : goal.invariant-loop-rest
invariant-loop-rest l = record {
  read : in_front l.pairs.items (by_twos l.rest) ≡ by_twos l.initial.rest;
  few : length l.pairs.items + length l.pairs.items + length l.rest ≤ 10;
}

abbrev pub decreases-loop-rest : goal.decreases-loop-rest
decreases-loop-rest l = length l.rest
