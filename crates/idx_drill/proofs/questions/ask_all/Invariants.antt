use Rattle.std.proofs.Common.{◌≡◌}
use Rattle.std.specs.Prelude.{IsSomeAnd}
use Rattle.idx_drill.specs.Runs.{IsAskedBelow, answers_below, reads_below}
use Rattle.idx_drill.proofs.questions.ask_all.Given as goal

abbrev pub invariant-loop-level : goal.invariant-loop-level
invariant-loop-level l = record {
  answers : l.answers.items ≡ answers_below l.number l.level;
  reads : l.reads ≡ reads_below l.number l.level;
  hall : IsSomeAnd l.turn.kept (IsAskedBelow l.number l.level);
}
