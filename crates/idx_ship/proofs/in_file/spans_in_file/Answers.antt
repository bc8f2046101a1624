use Rattle.std.proofs.Common.{◌≡◌, ℕ, ◌+◌, ◌-◌, ◌^◌, ◌<◌, List, ◌++◌, length, sym, ap, subst, ◌∙◌, arith}
use Rattle.std.specs.Prelude.{All, filter}
use Rattle.std.specs.List.{flat_map, range_with_len, AllByRecursion}
use Rattle.std.proofs.lemmas.List.Elements.{All-nil}
use Rattle.idx_layout.specs.Placing.{has_point_in}
use Rattle.idx_ship.specs.Spans.{IsSpan, all_addresses, block_addresses}
use Rattle.idx_ship.specs.declared.span.Span.{Span}
use Rattle.idx_ship.proofs.InFileLemmas.{blocks_exist, file_blocks}
use Rattle.idx_ship.proofs.in_file.spans_in_file.Goals as goal

pub loop-block-init : goal.loop-block-init
loop-block-init c =
    let mask : List ℕ = c.args.mask.now in
    let region : List (ℕ × ℕ) = c.args.region.now in
    let count : c.args.file + c.args.per_file - c.args.file ≡ c.args.per_file = omega arith in
    let all : c.into_iter-block-iterator.result ≡ filter (has_point_in mask region c.args.bits) (range_with_len c.args.file c.args.per_file) =
    c.into_iter-block-iterator.ensures.into_iter_gives ∙ c.blocks_in-block-items.ensures ∙ ap (λ n. filter (has_point_in mask region c.args.bits) (range_with_len c.args.file n)) count in
    record {
      addresses =
          ap (λ (spans : List Span). all_addresses spans ++ flat_map (block_addresses mask region c.args.bits) c.into_iter-block-iterator.result) c.new-spans.ensures.items
          ∙ ap (flat_map (block_addresses mask region c.args.bits)) all
          ∙ file_blocks mask region c.args.bits c.args.file c.args.per_file;
      each = subst (λ (spans : List Span). All (IsSpan mask) spans) (sym c.new-spans.ensures.items) (All-nil (IsSpan mask));
      exist = subst (AllByRecursion (λ block. block < 2 ^ (length mask - c.args.bits))) (sym all) (blocks_exist mask region c.args.bits c.args.file c.args.per_file c.requires.bits);
    }
