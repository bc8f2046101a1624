use Rattle.std.proofs.Common.{◌+◌, ℕ, List, length, Some, sym, ap, ◌∙◌, subst, rules}
use Rattle.std.proofs.lemmas.Iterator.Consumers.{YieldsList-turn, YieldsList-end}
use Rattle.std.proofs.lemmas.Iterator.Splits.{YieldsList-from_slice_split}
use Rattle.std.proofs.lemmas.List.{length_push}
use Rattle.std.proofs.Math.Nat.{le_of_eq}
use Rattle.idx_names.specs.declared.mark_kind.MarkKind.TheVariants.{File}
use Rattle.idx_names.specs.declared.piece.Piece.{Piece}
use Rattle.idx_names.specs.Pieces.{pieces_text}
use Rattle.idx_names.proofs.ReadLemmas.{got_some, got_none}
use Rattle.idx_names.proofs.BuildLemmas.{ReadSoFar, slash, read_start, read_end, read_dot, read_none, read_more, value_read, none_read, text_of_part}
use Rattle.idx_names.proofs.template.Template.read.Goals as goal

pub loop-part-init : goal.loop-part-init
loop-part-init c = read_start c.args.text.now c.new-parts.result.above c.new-parts.result.pieces.items c.new-parts.ensures.above c.new-parts.ensures.pieces

pub loop-part-preserved-then-is_dot : goal.loop-part-preserved-then-is_dot
loop-part-preserved-then-is_dot c =
    let chain = YieldsList-from_slice_split _ slash c.args.text.now (cc) (cc) (cc) (λ x b q k. search rules) in
    let turn = YieldsList-turn chain c.loop-part.yielded _ c.loop-part.yielded_by _ _ c.in-Some.part c.in-Some.is c.next.ensures.steps in
    let at : ℕ = length c.loop-part.yielded in
    let above : List ℕ = c.loop-part.parts.above in
    let pieces : List Piece = c.loop-part.parts.pieces.items in
    let now : ReadSoFar c.args.text.now at above pieces = c.loop-part.invariant in
    let then : ReadSoFar c.args.text.now (at + 1) above pieces =
    read_dot c.args.text.now at above pieces now c.in-Some.part.now turn.0 turn.1 (sym c.is_dot.ensures ∙ c.if-is_dot.true) in
    subst (λ (n : ℕ). ReadSoFar c.args.text.now n above pieces) (sym (length_push c.loop-part.yielded c.in-Some.part)) then

pub returns-in_default : goal.returns-in_default
returns-in_default c =
    let chain = YieldsList-from_slice_split _ slash c.args.text.now (cc) (cc) (cc) (λ x b q k. search rules) in
    let turn = YieldsList-turn chain c.loop-part.yielded _ c.loop-part.yielded_by _ _ c.in-Some.part c.in-Some.is c.next.ensures.steps in
    let at : ℕ = length c.loop-part.yielded in
    let now : ReadSoFar c.args.text.now at c.loop-part.parts.above c.loop-part.parts.pieces.items = c.loop-part.invariant in
    let refused = got_none c.in_ok-pieces.field-0 _ _ c.in_default.is c.in_ok-pieces.ensures in
    sym (none_read c.args.text.now (read_none c.args.text.now at c.loop-part.parts.above c.loop-part.parts.pieces.items now c.in-Some.part.now turn.0 turn.1
    (sym c.is_dot.ensures ∙ c.if-is_dot.false) refused))

pub add-requires : goal.add-requires
add-requires c =
    let reads = got_some c.in_ok-pieces.field-0 c.in-Some-2.pieces _ _ c.in-Some-2.is c.in_ok-pieces.ensures in
    ap (pieces_text File) c.deref.ensures.value ∙ text_of_part c.in-Some.part.now c.in-Some-2.pieces.items reads

pub loop-part-preserved : goal.loop-part-preserved
loop-part-preserved c =
    let chain = YieldsList-from_slice_split _ slash c.args.text.now (cc) (cc) (cc) (λ x b q k. search rules) in
    let turn = YieldsList-turn chain c.loop-part.yielded _ c.loop-part.yielded_by _ _ c.in-Some.part c.in-Some.is c.next.ensures.steps in
    let at : ℕ = length c.loop-part.yielded in
    let above : List ℕ = c.loop-part.parts.above in
    let pieces : List Piece = c.loop-part.parts.pieces.items in
    let now : ReadSoFar c.args.text.now at above pieces = c.loop-part.invariant in
    let reads = got_some c.in_ok-pieces.field-0 c.in-Some-2.pieces _ _ c.in-Some-2.is c.in_ok-pieces.ensures in
    let then : ReadSoFar c.args.text.now (at + 1) c.add.new.self.above c.add.new.self.pieces.items =
    read_more c.args.text.now at above pieces now c.in-Some.part.now turn.0 turn.1 c.deref.result.now c.add.new.self.above c.add.new.self.pieces.items
    (sym c.is_dot.ensures ∙ c.if-is_dot.false) (reads ∙ ap Some (sym c.deref.ensures.value)) c.in_ok-add.ensures.above c.in_ok-add.ensures.pieces in
    subst (λ (n : ℕ). ReadSoFar c.args.text.now n c.add.new.self.above c.add.new.self.pieces.items) (sym (length_push c.loop-part.yielded c.in-Some.part)) then

pub of_parts-requires : goal.of_parts-requires
of_parts-requires c =
    let chain = YieldsList-from_slice_split _ slash c.args.text.now (cc) (cc) (cc) (λ x b q k. search rules) in
    let end = YieldsList-end chain c.loop-part.yielded _ c.loop-part.yielded_by _ _ c.in-None.is c.next.ensures.steps in
    let now : ReadSoFar c.args.text.now (length c.loop-part.yielded) c.loop-part.parts.above c.loop-part.parts.pieces.items = c.loop-part.invariant in
    record {
      text = c.args.text.now;
      parts = now.parts;
      spelled = read_end c.args.text.now (length c.loop-part.yielded) c.loop-part.parts.above c.loop-part.parts.pieces.items now (le_of_eq (sym end.1));
      above_is = now.above_is;
      pieces_is = now.pieces_is;
    }

pub returns : goal.returns
returns c =
    let chain = YieldsList-from_slice_split _ slash c.args.text.now (cc) (cc) (cc) (λ x b q k. search rules) in
    let end = YieldsList-end chain c.loop-part.yielded _ c.loop-part.yielded_by _ _ c.in-None.is c.next.ensures.steps in
    let now : ReadSoFar c.args.text.now (length c.loop-part.yielded) c.loop-part.parts.above c.loop-part.parts.pieces.items = c.loop-part.invariant in
    let read = read_end c.args.text.now (length c.loop-part.yielded) c.loop-part.parts.above c.loop-part.parts.pieces.items now (le_of_eq (sym end.1)) in
    c.of_parts.ensures ∙ value_read c.args.text.now now.parts c.loop-part.parts.above c.loop-part.parts.pieces.items read now.above_is now.pieces_is
