use Rattle.std.proofs.Common.{lit<}
use Rattle.std.proofs.lemmas.Fmt.{decimal_digit}
use Rattle.idx_fields.specs.FieldType.{canonical_type}
use Rattle.idx_commands.specs.Summary.{line, ends_text, box_line, steps_line, field_line, order_lines, level_lines, block_lines, summary}
use Rattle.idx_commands.proofs.examples.worked_summary.Goals as goal

pub returns-clause-lines : goal.returns-clause-lines
unfolding canonical_type line ends_text box_line steps_line field_line order_lines level_lines block_lines summary
returns-clause-lines c =
    simp (
      decimal_digit 0 (lit< tt),
      decimal_digit 1 (lit< tt),
      decimal_digit 2 (lit< tt),
      decimal_digit 3 (lit< tt),
      decimal_digit 4 (lit< tt),
      decimal_digit 6 (lit< tt),
      decimal_digit 9 (lit< tt),
    )

pub returns-clause-untimed : goal.returns-clause-untimed
unfolding canonical_type line ends_text box_line steps_line field_line order_lines level_lines block_lines summary
returns-clause-untimed c =
    simp (
      decimal_digit 0 (lit< tt),
      decimal_digit 1 (lit< tt),
      decimal_digit 2 (lit< tt),
      decimal_digit 3 (lit< tt),
      decimal_digit 4 (lit< tt),
      decimal_digit 6 (lit< tt),
    )
