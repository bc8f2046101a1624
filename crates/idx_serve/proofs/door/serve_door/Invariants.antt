use Rattle.std.proofs.Common.{◌≡◌, None}
use Rattle.idx_session.specs.Entry.{state_of}
use Rattle.idx_serve.specs.Later.{IsLater}
use Rattle.idx_serve.specs.Visits.{AtDoor, link_tells}
use Rattle.idx_serve.proofs.door.serve_door.Given as goal

-- so many links were served, and the door has counted no fault
abbrev pub invariant-loop-links : goal.invariant-loop-links
invariant-loop-links g l = record {
  served : AtDoor (link_tells g.D.Link.Link.incoming g.D.Link.Link.written g.D.Link.Link.readings g.D.Link.Link.faults) g.T.Turn.tells l.site
      (state_of (g.T.Turn.seen l.initial.turn) (g.T.Turn.may_add l.initial.turn) (g.R.Reader.faults l.initial.reader) (g.R.Reader.reads l.initial.reader) (g.T.Turn.kept l.initial.turn) (g.T.Turn.holds l.initial.turn))
      (state_of (g.T.Turn.seen l.turn) (g.T.Turn.may_add l.turn) (g.R.Reader.faults l.reader) (g.R.Reader.reads l.reader) (g.T.Turn.kept l.turn) (g.T.Turn.holds l.turn))
      (g.D.Door.told l.initial.door) (g.D.Door.told l.door) l.links l.replies l.starved;
  later : IsLater
      (state_of (g.T.Turn.seen l.initial.turn) (g.T.Turn.may_add l.initial.turn) (g.R.Reader.faults l.initial.reader) (g.R.Reader.reads l.initial.reader) (g.T.Turn.kept l.initial.turn) (g.T.Turn.holds l.initial.turn))
      (state_of (g.T.Turn.seen l.turn) (g.T.Turn.may_add l.turn) (g.R.Reader.faults l.reader) (g.R.Reader.reads l.reader) (g.T.Turn.kept l.turn) (g.T.Turn.holds l.turn))
      (g.T.Turn.shape l.initial.turn) (g.T.Turn.shape l.turn) (g.T.Turn.lock l.initial.turn) (g.T.Turn.lock l.turn);
  given : g.T.Turn.given l.turn ≡ None;
  quiet : g.D.Door.faults l.door ≡ g.D.Door.faults l.initial.door;
}
