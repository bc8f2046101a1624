use Rattle.std.proofs.Common.{◌≡◌, ◌≤◌, None, length, true}
use Rattle.idx_layout.specs.Shape.{shape_of}
use Rattle.idx_query.proofs.SoFarLemmas.{IsSoFar}
use Rattle.idx_query.proofs.answering.answer_rounds.Given as goal

-- the first rounds were made, as many as the number says
abbrev pub invariant-loop-number : goal.invariant-loop-number
invariant-loop-number g l = record {
  some : 1 ≤ l.number;
  within : l.number ≤ l.number-end;
  so_far : IsSoFar l.ask l.plan l.width l.number g.T.Turn.tells (g.T.Turn.seen l.fn.turn) (g.T.Turn.seen l.turn) (g.T.Turn.kept l.fn.turn) (g.T.Turn.kept l.turn)
      (g.T.Turn.holds l.fn.turn) (g.T.Turn.holds l.turn) (g.R.Reader.reads l.fn.reader) (g.R.Reader.reads l.reader) l.report l.out;
  room : length l.out ≡ l.plan.bytes;
  quiet : g.R.Reader.faults l.reader ≡ g.R.Reader.faults l.fn.reader;
  shape : g.T.Turn.shape l.turn ≡ g.T.Turn.shape l.fn.turn;
  given : g.T.Turn.given l.turn ≡ None;
  same : g.T.Turn.may_add l.fn.turn ≡ true → g.T.Turn.seen l.turn ≡ g.T.Turn.seen l.fn.turn;
  may_add : g.T.Turn.may_add l.turn ≡ g.T.Turn.may_add l.fn.turn;
  lock : g.T.Turn.lock l.turn ≡ g.T.Turn.lock l.fn.turn;
}
