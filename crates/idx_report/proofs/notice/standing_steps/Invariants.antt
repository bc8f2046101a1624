use Rattle.std.proofs.Common.{◌≡◌}
use Rattle.idx_report.proofs.notice.standing_steps.Given as goal

-- the bay is as it was but for its faults
abbrev pub invariant-loop-step : goal.invariant-loop-step
invariant-loop-step g l = record {
  header : g.B.Bay.header l.bay ≡ g.B.Bay.header l.fn.bay;
  files : g.B.Bay.files l.bay ≡ g.B.Bay.files l.fn.bay;
  begun : g.B.Bay.begun l.bay ≡ g.B.Bay.begun l.fn.bay;
  changes : g.B.Bay.changes l.bay ≡ g.B.Bay.changes l.fn.bay;
}
