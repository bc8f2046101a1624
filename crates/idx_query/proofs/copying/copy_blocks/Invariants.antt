use Rattle.std.proofs.Common.{◌≡◌, ◌≤◌, length}
use Rattle.idx_query.specs.Steps.{AreDone}
use Rattle.idx_query.proofs.copying.copy_blocks.Given as goal

-- the first i keys have come
abbrev pub invariant-loop-i : goal.invariant-loop-i
invariant-loop-i g l = record {
  within : l.i ≤ length l.part.keys;
  room : length l.out ≡ length l.fn.out;
  post : l.report.post ≡ l.post;
  quiet : g.R.Reader.faults l.reader ≡ g.R.Reader.faults l.fn.reader;
  done : AreDone l.part l.field (g.E.Blocks.has l.edition l.field) (g.E.Blocks.stored l.edition) l.looked.found l.i
      (g.R.Reader.reads l.fn.reader) (g.R.Reader.reads l.reader) l.fn.loading l.loading l.report l.fn.out l.out;
}
