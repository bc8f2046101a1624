use Rattle.std.proofs.Common.{ℕ, ◌*◌, ◌/◌, ◌+◌, ◌-◌, ◌∙◌, sym, ap, arith, length}
use Rattle.std.specs.Prelude.{filter}
use Rattle.std.specs.List.{range_with_len}
use Rattle.idx_layout.specs.Placing.{is_present}
use Rattle.idx_layout.specs.OfHeader.{placing_of}
use Rattle.idx_layout.proofs.HeaderLemmas.{placed}
use Rattle.idx_layout.proofs.places.place.Goals as goal

pub returns : goal.returns
returns c =
    let h = c.args.header.now in
    let block = c.args.block in
    let per_file = c.blocks_per_file-per_file.ensures.value in
    placed h c.args.field block c.present_between-earlier.result c.present_between-later.result (record { file = c.file_of-file.result; offset = c.offset_at.result; len = c.block_bytes.result })
    (record {
      field = c.requires.field;
      present = sym c.present.ensures ∙ c.if-not-present.false;
      file = c.file_of-file.ensures.value ∙ ap (λ (n : ℕ). n * (block / n)) per_file;
      from = c.file_of-file.ensures.from;
      to = omega (arith, c.file_of-file.ensures.to, per_file);
      earlier = c.present_between-earlier.ensures.value;
      later = c.present_between-later.ensures.value ∙ ap (λ (n : ℕ). length (filter (is_present (placing_of h)) (range_with_len block (c.file_of-file.result + n - block)))) per_file;
      offset = c.offset_at.ensures;
      len = c.block_bytes.ensures.value;
    })
