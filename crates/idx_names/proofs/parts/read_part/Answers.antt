use Rattle.std.proofs.Common.{◌≡◌, Option, List, IfOk, Some, None, MatchOption, sym, ◌∙◌, subst}
use Rattle.idx_names.specs.declared.piece.Piece.{Piece}
use Rattle.idx_names.proofs.BuildLemmas.{part_refused, part_kept}
use Rattle.idx_names.proofs.parts.read_part.Goals as goal

pub returns-then-is_refused : goal.returns-then-is_refused
returns-then-is_refused c = part_refused c.args.text.now (sym c.is_refused.ensures ∙ c.if-is_refused.true)

pub returns : goal.returns
returns c =
    subst (λ (o : Option (List Piece)). IfOk c.read_pieces.result (λ read. MatchOption read (o ≡ None) (λ pieces. o ≡ Some pieces.items)))
    (sym (part_kept c.args.text.now (sym c.is_refused.ensures ∙ c.if-is_refused.false))) c.read_pieces.ensures
