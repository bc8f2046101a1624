use Rattle.std.proofs.Common.{◌≡◌, [], IsSome}
use Rattle.idx_header.specs.Header.{HasTime}
use Rattle.idx_header.specs.Names.{step_folder}
use Rattle.idx_test_writing.proofs.states.Opened.window.Given as goal

-- the step is begun, and is gathered by as many ranks
abbrev pub invariant-loop : goal.invariant-loop
invariant-loop g l = record {
  same : l.docked.1.0 ≡ l.docked.0.opening.ranks;
  timed : IsSome l.docked.0.opening.header.steps;
  has : HasTime l.docked.0.opening.header l.docked.0.opening.step;
  begun : l.docked.1.1.0.begun ≡ step_folder l.docked.0.opening.header l.docked.0.opening.step;
  files : l.docked.1.1.0.files ≡ [];
}
