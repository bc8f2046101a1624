use Rattle.std.proofs.Common.{◌≡◌, ◌≤◌}
use Rattle.idx_outside.specs.Input.{behind}
use Rattle.idx_session.proofs.SessionLemmas.{SoFar}
use Rattle.idx_session.proofs.heads.serve_heads.Given as goal

-- the entries so far are what the input up to here spells, and none closes
abbrev pub invariant-loop-number : goal.invariant-loop-number
invariant-loop-number g l = record {
  few : l.number ≤ 65535;
  ready : g.P.Responder.ready l.site l.turn;
  grew : g.P.Responder.grew l.initial.turn l.initial.reader l.turn l.reader;
  quiet : g.L.Link.faults l.link ≡ g.L.Link.faults l.initial.link;
  session : SoFar (g.P.Responder.answers l.site) (g.P.Responder.mark l.initial.responder l.initial.turn l.initial.reader) (g.P.Responder.mark l.responder l.turn l.reader)
      (g.L.Link.incoming l.initial.link) (behind l.pending (g.L.Link.incoming l.link)) (g.L.Link.written l.initial.link) (g.L.Link.written l.link) (g.L.Link.readings l.initial.link) (g.L.Link.readings l.link) l.initial.served.items l.served.items l.number;
}
