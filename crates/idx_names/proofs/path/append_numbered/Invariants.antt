use Rattle.std.proofs.Common.{◌≡◌, ◌++◌, drop}
use Rattle.idx_names.specs.Pieces.{bits_of}
use Rattle.idx_names.specs.Path.{numbered}
use Rattle.idx_names.proofs.path.append_numbered.Given as goal

abbrev pub invariant-loop-piece : goal.invariant-loop-piece
invariant-loop-piece l = record {
  path : l.path ++ numbered (drop l.piece-index l.pieces) l.left ≡ l.fn.path ++ numbered l.fn.template.pieces l.file;
  bits : l.bits ≡ bits_of (drop l.piece-index l.pieces);
  same : l.pieces ≡ l.fn.template.pieces;
}
