use Rattle.std.proofs.Common.{◌≡◌, ◌+◌, ◌≤◌, length}
use Rattle.idx_text.specs.Lines.{parts, lines, trimmed_lines, wrong_line, wrong_line_from}
use Rattle.idx_text.specs.Sections.{sections}
use Rattle.idx_text.proofs.GrowingLemmas.{in_all}
use Rattle.idx_text.proofs.document.Document.read.Given as goal

abbrev pub invariant-loop-rest : goal.invariant-loop-rest
invariant-loop-rest l = record {
  within : l.number + length l.rest ≤ length l.text;
  counted : l.number + length (parts l.rest) ≡ length (parts l.text);
  wrong : wrong_line_from (l.number + 1) (lines l.rest) ≡ wrong_line l.text;
  all : in_all l.sections.items (l.number + 1) (trimmed_lines l.rest) ≡ sections l.text;
}

abbrev pub decreases-loop-rest : goal.decreases-loop-rest
decreases-loop-rest l = length l.rest
