use Rattle.std.proofs.Common.{Some, None, sym, ◌∙◌}
use Rattle.idx_names.proofs.ReadLemmas.{got_some, got_none}
use Rattle.idx_names.proofs.TimeLemmas.{none_of_empty, none_of_other, read_of_ended, pieces_again}
use Rattle.idx_names.proofs.time_template.TimeTemplate.read.Goals as goal

pub returns-in_default : goal.returns-in_default
returns-in_default c = sym (none_of_empty c.args.text.now c.in_default.len_below)

pub returns-then-last-ne47 : goal.returns-then-last-ne47
returns-then-last-ne47 c = sym (none_of_other c.args.text.now c.if-last-ne47.true)

pub of_pieces-requires : goal.of_pieces-requires
of_pieces-requires c =
    pieces_again _ c.in-Some.pieces.items (got_some c.in_ok-pieces.field-0 c.in-Some.pieces _ _ c.in-Some.is c.in_ok-pieces.ensures)

pub returns-in-Some : goal.returns-in-Some
returns-in-Some c =
    c.of_pieces.ensures ∙ sym (read_of_ended c.args.text.now (Some c.in-Some.pieces.items) c.if-last-ne47.false
    (got_some c.in_ok-pieces.field-0 c.in-Some.pieces _ _ c.in-Some.is c.in_ok-pieces.ensures))

pub returns-in-None : goal.returns-in-None
returns-in-None c =
    sym (read_of_ended c.args.text.now None c.if-last-ne47.false (got_none c.in_ok-pieces.field-0 _ _ c.in-None.is c.in_ok-pieces.ensures))
