use Rattle.idx_layout.proofs.HeaderLemmas.{length_by_counts}
use Rattle.idx_layout.proofs.places.file_len.Goals as goal

pub returns : goal.returns
returns c =
    length_by_counts c.args.header.now c.args.file c.table_len.result c.field_count.result c.bytes_before.result c.present_in_file-present.result
    c.table_len.ensures.value c.field_count.ensures.count c.bytes_before.ensures.value c.present_in_file-present.ensures.value
