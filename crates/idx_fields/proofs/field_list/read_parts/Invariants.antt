use Rattle.std.proofs.Common.{◌≡◌, length}
use Rattle.std.specs.List.{slice_split}
use Rattle.idx_fields.specs.Field.{is_plus}
use Rattle.idx_fields.proofs.PartsLemmas.{fields_in, with_rest}
use Rattle.idx_fields.proofs.field_list.read_parts.Given as goal

abbrev pub invariant-loop-part : goal.invariant-loop-part
invariant-loop-part l =
    with_rest l.fields.items (slice_split is_plus l.text) (length l.yielded) ≡ fields_in (slice_split is_plus l.text)
