use Rattle.std.proofs.Common.{◌≡◌, length, ◌∙◌, arith}
use Rattle.std.proofs.lemmas.List.{length-map}
use Rattle.std.proofs.lemmas.List.FromFn.{length-map-range_with_len}
use Rattle.idx_fields.specs.Field.{sample_bytes}
use Rattle.idx_layout.specs.Placing.{block_bytes}
use Rattle.idx_layout.specs.OfHeader.{placing_of}
use Rattle.idx_layout.specs.Shape.{block_lengths}
use Rattle.idx_edition.proofs.tables.Tables.of_files.Goals as goal

pub invariant_of-result : goal.invariant_of-result
invariant_of-result c =
    let h = c.args.header in
    let l = placing_of h in
    let count : length (block_lengths l) ≡ length h.fields = length-map-range_with_len (block_bytes l) 0 (length l.sizes) ∙ length-map h.fields sample_bytes in
    record {
      rising = c.requires.rising;
      same = c.requires.same;
      places = c.blocks_per_file.ensures.valid.blocks_some;
      few_places = c.blocks_per_file.ensures.valid.blocks_few;
      few_fields = omega (arith, count, c.blocks_per_file.ensures.valid.fields.few);
      each = c.requires.each;
    }
