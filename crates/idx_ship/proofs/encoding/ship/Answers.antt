use Rattle.std.proofs.Common.{◌≡◌, ℕ, ◌*◌, ◌^◌, List, ap, ◌∙◌}
use Rattle.std.specs.Prelude.{filter}
use Rattle.std.specs.List.{range_with_len}
use Rattle.idx_pieces.specs.Runs.{addresses_in, has_address}
use Rattle.idx_ship.specs.Spans.{all_addresses}
use Rattle.idx_ship.specs.Made.{file_runs}
use Rattle.idx_ship.specs.declared.span.Span.{Span}
use Rattle.idx_ship.proofs.ShipmentLemmas.{shipped}
use Rattle.idx_ship.proofs.encoding.ship.Goals as goal

pub returns-clause-shipment : goal.returns-clause-shipment
returns-clause-shipment c =
    let h = c.args.header.now in
    let region : List (ℕ × ℕ) = c.args.filled.now.piece.region in
    let spans : List Span = c.in_ok-spans.spans.items in
    let all : all_addresses spans ≡ addresses_in h region c.args.file =
    c.in_ok-spans.ensures.addresses
    ∙ ap (λ (m : List ℕ). filter (has_address m region) (range_with_len (c.args.file * 2 ^ c.bits_per_block.result) (c.blocks_per_file.result * 2 ^ c.bits_per_block.result))) c.mask.ensures.value
    ∙ ap (λ (b : ℕ). filter (has_address h.mask region) (range_with_len (c.args.file * 2 ^ b) (c.blocks_per_file.result * 2 ^ b))) c.bits_per_block.ensures.value
    ∙ ap (λ (n : ℕ). filter (has_address h.mask region) (range_with_len (c.args.file * 2 ^ h.block_bits) (n * 2 ^ h.block_bits))) c.blocks_per_file.ensures.value in
    let made : c.from_vec.result ≡ file_runs h region c.args.filled.now.bytes spans =
    c.from_vec.ensures ∙ c.in_ok-runs.ensures
    ∙ ap (λ (b : List ℕ). file_runs h region b c.deref.result.now) c.as_slice.ensures
    ∙ ap (λ (s : List Span). file_runs h region c.args.filled.now.bytes s) c.deref.ensures.value in
    shipped h c.args.filled.now c.mask.ensures.valid c.requires.inside c.requires.bytes c.args.file spans c.from_vec.result all made
