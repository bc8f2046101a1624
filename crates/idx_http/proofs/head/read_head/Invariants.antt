use Rattle.std.proofs.Common.{◌≡◌, ◌-◌, length}
use Rattle.idx_outside.specs.Input.{behind}
use Rattle.idx_http.specs.Heads.{head_limit}
use Rattle.idx_http.specs.Read.{ReadsFronts}
use Rattle.idx_http.proofs.head.read_head.Given as goal

-- the input is what it was, however much of it was read, and it was read only at fronts
abbrev pub invariant-heads : goal.invariant-heads
invariant-heads g l = record {
  input : behind l.pending (g.L.Link.incoming l.link) ≡ behind l.initial.pending (g.L.Link.incoming l.initial.link);
  readings : ReadsFronts (behind l.initial.pending (g.L.Link.incoming l.initial.link)) (g.L.Link.written l.initial.link) (g.L.Link.readings l.initial.link) (g.L.Link.readings l.link);
  written : g.L.Link.written l.link ≡ g.L.Link.written l.initial.link;
  quiet : g.L.Link.faults l.link ≡ g.L.Link.faults l.initial.link;
}

abbrev pub decreases-heads : goal.decreases-heads
decreases-heads g l = head_limit - length l.pending
