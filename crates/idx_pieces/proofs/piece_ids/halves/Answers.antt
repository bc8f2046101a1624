use Rattle.std.proofs.Common.{List, ℕ, ap, ◌∙◌, arith}
use Rattle.std.specs.List.{flat_map}
use Rattle.std.proofs.lemmas.List.{take_all}
use Rattle.idx_pieces.specs.Pieces.{has_piece}
use Rattle.idx_pieces.proofs.IdLemmas.{halves_more, ids_from_halves, passing_halves, whole_small}
use Rattle.idx_pieces.proofs.piece_ids.halves.Goals as goal

pub overflow_mul-whole : goal.overflow_mul-whole
overflow_mul-whole c = omega (arith, whole_small c.args.mask.now c.args.region.now c.args.e c.loop-whole.whole-index c.args.wholes.now c.requires.few c.requires.digits c.requires.wholes (omega arith))

pub push_piece-requires-clause-small : goal.push_piece-requires-clause-small
push_piece-requires-clause-small c = omega (arith, whole_small c.args.mask.now c.args.region.now c.args.e c.loop-whole.whole-index c.args.wholes.now c.requires.few c.requires.digits c.requires.wholes (omega arith))

pub overflow_mul-whole-in-loop-whole : goal.overflow_mul-whole-in-loop-whole
overflow_mul-whole-in-loop-whole c = omega (arith, whole_small c.args.mask.now c.args.region.now c.args.e c.loop-whole.whole-index c.args.wholes.now c.requires.few c.requires.digits c.requires.wholes (omega arith))

pub overflow_add-whole : goal.overflow_add-whole
overflow_add-whole c = omega (arith, whole_small c.args.mask.now c.args.region.now c.args.e c.loop-whole.whole-index c.args.wholes.now c.requires.few c.requires.digits c.requires.wholes (omega arith))

pub push_piece-requires-in-loop-whole-clause-small : goal.push_piece-requires-in-loop-whole-clause-small
push_piece-requires-in-loop-whole-clause-small c = omega (arith, whole_small c.args.mask.now c.args.region.now c.args.e c.loop-whole.whole-index c.args.wholes.now c.requires.few c.requires.digits c.requires.wholes (omega arith))

pub loop-whole-preserved : goal.loop-whole-preserved
loop-whole-preserved c =
    halves_more (has_piece c.args.mask.now c.args.region.now c.args.e) c.loop-whole.ids.items c.push_piece.new.ids.items c.push_piece-in-loop-whole.new.ids.items
    c.args.wholes.now c.loop-whole.whole-index (omega arith) c.loop-whole.invariant c.in_ok-push_piece.ensures c.in_ok-push_piece-2.ensures

pub returns : goal.returns
returns c =
    let f : ℕ → List ℕ = passing_halves (has_piece c.args.mask.now c.args.region.now c.args.e) in
    c.loop-whole.invariant
    ∙ ap (flat_map f) (take_all c.loop-whole.whole-index c.args.wholes.now (omega arith) ∙ c.requires.wholes)
    ∙ ids_from_halves c.args.mask.now c.args.region.now c.args.e c.requires.digits
