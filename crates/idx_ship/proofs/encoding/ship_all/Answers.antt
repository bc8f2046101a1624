use Rattle.std.proofs.Common.{◌≡◌, ℕ, ◌+◌, ◌-◌, ◌*◌, ◌/◌, List, Some, None, [], ◌∷◌, ◌++◌, map, sym, ap, subst, ◌∙◌, arith, rules}
use Rattle.std.specs.Prelude.{All, find}
use Rattle.std.specs.List.{range_with_len}
use Rattle.std.proofs.lemmas.List.Elements.{All-push}
use Rattle.idx_layout.specs.Placing.{Placing, block_count, is_present}
use Rattle.idx_layout.specs.FileNumbers.{AreFiles, files_from}
use Rattle.idx_layout.proofs.FilesLemmas.{next_begins}
use Rattle.idx_layout.proofs.FindLemmas.{found}
use Rattle.idx_pieces.specs.declared.shipment.Shipment.{Shipment}
use Rattle.idx_ship.specs.Shipments.{IsShipment, files_in, placing_in}
use Rattle.idx_ship.proofs.ShipmentLemmas.{files_all, files_more, found_by}
use Rattle.idx_ship.proofs.encoding.ship_all.Goals as goal
use Rattle.idx_ship.proofs.encoding.ship_all.Goals.{In-Some}

some_block : (c : In-Some) → find (is_present (placing_in c.args.header.now c.args.filled.now.piece.region))
    (range_with_len c.loop-block.next (block_count (placing_in c.args.header.now c.args.filled.now.piece.region) - c.loop-block.next)) ≡ Some c.in-Some.block
some_block c = found_by c.args.header.now c.args.filled.now.piece.region c.mask-mask.result c.header_part-region.result c.bits_per_block-bits.result c.loop-block.next (Some c.in-Some.block)
    c.mask-mask.ensures.value c.header_part-region.ensures.same c.bits_per_block-bits.ensures.value c.in-Some.ensures.value

pub loop-block-smaller : goal.loop-block-smaller
loop-block-smaller c =
    let l : Placing = placing_in c.args.header.now c.args.filled.now.piece.region in
    let first = found (is_present l) c.loop-block.next (block_count l - c.loop-block.next) c.in-Some.block (some_block (goal.at.loop-block-smaller c).In-Some) in
    omega (arith, first.from, c.file_of-file.ensures.to, c.in-Some.ensures.few)

pub loop-block-preserved : goal.loop-block-preserved
loop-block-preserved c =
    let h = c.args.header.now in
    let l : Placing = placing_in h c.args.filled.now.piece.region in
    let per : ℕ = c.blocks_per_file-per_file.result in
    let file : ℕ = c.file_of-file.result in
    let same : per ≡ h.blocks_per_file = c.blocks_per_file-per_file.ensures.value in
    let is : file ≡ h.blocks_per_file * (c.in-Some.block / h.blocks_per_file) = c.file_of-file.ensures.value ∙ ap (λ (n : ℕ). n * (c.in-Some.block / n)) same in
    let pushed : c.push.new.self.items ≡ c.loop-block.shipments.items ++ c.in_ok-ship.field-0 ∷ [] = search rules in
    record {
      files =
          ap (λ (ss : List Shipment). map (λ s. s.file) ss ++ files_from l (file + per)) pushed
          ∙ ap (λ (n : ℕ). map (λ s. s.file) (c.loop-block.shipments.items ++ c.in_ok-ship.field-0 ∷ []) ++ files_from l (file + n)) same
          ∙ files_more l c.loop-block.shipments.items c.in_ok-ship.field-0 c.loop-block.next c.in-Some.block file (files_in h c.args.filled.now.piece.region)
          c.loop-block.invariant.are (some_block (goal.at.loop-block-preserved c).In-Some) is c.in_ok-ship.ensures.file c.loop-block.invariant.files;
      each = subst (λ (ss : List Shipment). All (IsShipment h c.args.filled.now) ss) (sym pushed)
          (All-push (IsShipment h c.args.filled.now) c.loop-block.shipments.items c.in_ok-ship.field-0 c.loop-block.invariant.each c.in_ok-ship.ensures.shipment);
      are = subst (λ (n : ℕ). AreFiles l n) (sym (λ i. is i + same i)) (next_begins l c.loop-block.next c.in-Some.block c.loop-block.invariant.are);
    }

pub returns : goal.returns
returns c =
    let h = c.args.header.now in
    let region : List (ℕ × ℕ) = c.args.filled.now.piece.region in
    let l : Placing = placing_in h region in
    let none : find (is_present l) (range_with_len c.loop-block.next (block_count l - c.loop-block.next)) ≡ None =
    found_by h region c.mask-mask.result c.header_part-region.result c.bits_per_block-bits.result c.loop-block.next None
    c.mask-mask.ensures.value c.header_part-region.ensures.same c.bits_per_block-bits.ensures.value c.in_default.ensures.value in
    record {
      files = files_all l c.loop-block.shipments.items c.loop-block.next (files_in h region) c.loop-block.invariant.are none c.loop-block.invariant.files;
      each = c.loop-block.invariant.each;
    }
