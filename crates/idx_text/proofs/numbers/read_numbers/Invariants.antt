use Rattle.std.proofs.Common.{◌≡◌, length}
use Rattle.std.specs.List.{slice_split}
use Rattle.idx_text.specs.Numbers.{is_blank, numbers_of}
use Rattle.idx_text.proofs.RunLemmas.{with_rest}
use Rattle.idx_text.proofs.numbers.read_numbers.Given as goal

abbrev pub invariant-loop-run : goal.invariant-loop-run
invariant-loop-run l =
    with_rest l.numbers.items (slice_split is_blank l.text) (length l.yielded) ≡ numbers_of l.text
