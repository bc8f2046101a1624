use Rattle.std.proofs.Common.{◌≡◌, ℕ, ◌+◌, ◌<◌, ◌^◌, [], IfSome}
use Rattle.std.specs.Prelude.{All}
use Rattle.std.specs.List.{filter_map, range_with_len}
use Rattle.idx_outside.specs.Cause.{MadeReads}
use Rattle.idx_outside.specs.Files.{StillAdmits}
use Rattle.idx_cache.specs.Cached.{cached}
use Rattle.idx_header.specs.Header.{HasTime}
use Rattle.idx_layout.specs.Shape.{shape_of}
use Rattle.idx_board.specs.Standing.{bad_at, post_at, reads_of, step_numbers}
use Rattle.idx_board.proofs.board.hall_of.Given as goal

-- so many steps were looked at: those that stand are published, and no row of theirs is faulty
abbrev pub invariant-loop-number : goal.invariant-loop-number
invariant-loop-number g l = record {
  numbers : range_with_len l.first l.count ≡ step_numbers l.header;
  has : (i : ℕ) → i < l.count → HasTime l.header (l.first + i);
  few : l.first + l.count < 2 ^ 32;
  board : IfSome (g.B.Bay.files l.initial.bay) (λ files. l.hall.board ≡ filter_map (post_at l.header files) (range_with_len l.first l.number));
  times : All (λ post. post.time < l.first + l.number) l.hall.board;
  sound : IfSome (g.B.Bay.files l.initial.bay) (λ files. filter_map (bad_at l.header files) (range_with_len l.first l.number) ≡ []);
  reads : IfSome (g.B.Bay.files l.initial.bay) (λ files. MadeReads (g.R.Reader.reads l.initial.reader) (g.R.Reader.reads l.reader) (reads_of l.header files (range_with_len l.first l.number)));
  shape : l.hall.shape ≡ shape_of l.header;
  cache : l.hall.cache ≡ cached [] l.capacity;
  quiet : g.B.Bay.faults l.bay ≡ g.B.Bay.faults l.initial.bay;
  failed : g.B.Bay.failed l.bay ≡ g.B.Bay.failed l.initial.bay;
  reader_quiet : g.R.Reader.faults l.reader ≡ g.R.Reader.faults l.initial.reader;
  header : g.B.Bay.header l.bay ≡ g.B.Bay.header l.initial.bay;
  files : g.B.Bay.files l.bay ≡ g.B.Bay.files l.initial.bay;
  admits : StillAdmits g.B.Bay.admits l.initial.bay l.bay;
  begun : g.B.Bay.begun l.bay ≡ g.B.Bay.begun l.initial.bay;
  changes : g.B.Bay.changes l.bay ≡ g.B.Bay.changes l.initial.bay;
}
