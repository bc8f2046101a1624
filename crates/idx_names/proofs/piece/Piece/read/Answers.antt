use Rattle.std.proofs.Common.{◌≡◌, get_or, sym, arith, ◌∙◌}
use Rattle.idx_names.specs.Pieces.{first_piece}
use Rattle.idx_names.proofs.ReadLemmas.{plain_first, none_first, empty_first, short_first, four_bytes, result_within}
use Rattle.idx_names.proofs.piece.Piece.read.Goals as goal

pub returns-in_default : goal.returns-in_default
returns-in_default c = record { value = sym (empty_first c.args.kind c.args.text.now c.in_default.len_below); within = tt }

pub returns-then-is_plain : goal.returns-then-is_plain
returns-then-is_plain c =
    let first = plain_first c.args.kind c.args.text.now (sym c.if-is_plain.ensures) in
    record { value = sym first; within = omega (arith, c.in-len1-up.len_at_least) }

pub returns-in_default-text : goal.returns-in_default-text
returns-in_default-text c =
    record { value = sym (short_first c.args.kind c.args.text.now (sym c.if-is_plain.ensures) c.in_default-text.len_below); within = tt }

pub returns-in_default-text-2 : goal.returns-in_default-text-2
returns-in_default-text-2 c =
    record { value = sym (none_first c.args.kind c.args.text.now (sym c.if-is_plain.ensures) (λ m. absurd (omega (arith, m.nought)))); within = tt }

pub returns-in_default-text-3 : goal.returns-in_default-text-3
returns-in_default-text-3 c =
    record { value = sym (none_first c.args.kind c.args.text.now (sym c.if-is_plain.ensures) (λ m. absurd (omega (arith, m.sign)))); within = tt }

pub returns : goal.returns
returns c =
    let sign : get_or c.args.text.now 0 0 ≡ 37 = omega arith in
    let nought : get_or c.args.text.now 1 0 ≡ 48 = omega arith in
    let value : c.read_mark.result ≡ first_piece c.args.kind c.args.text.now = c.read_mark.ensures ∙ four_bytes c.args.kind c.args.text.now sign nought in
    record { value = value; within = result_within c.args.kind c.args.text.now c.read_mark.result value }
