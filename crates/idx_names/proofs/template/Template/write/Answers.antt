use Rattle.std.proofs.Common.{◌≡◌, ◌++◌, ℕ, List, OnOk, All, sym, ap, ◌∙◌, subst}
use Rattle.std.proofs.lemmas.List.Elements.{All-from_recursion}
use Rattle.idx_names.specs.declared.mark_kind.MarkKind.TheVariants.{File}
use Rattle.idx_names.specs.declared.piece.Piece.{Piece}
use Rattle.idx_names.specs.Pieces.{pieces_text, IsPiece}
use Rattle.idx_names.specs.Template.{TemplateValue, template_text}
use Rattle.idx_names.proofs.TemplateLemmas.{made, pieces_are}
use Rattle.idx_names.proofs.template.Template.write.Goals as goal

pub append_text-requires : goal.append_text-requires
append_text-requires c =
    let t : TemplateValue = c.args.self.now in
    let pieces : All (IsPiece File) t.pieces = All-from_recursion (IsPiece File) t.pieces (pieces_are t (made t c.pieces.ensures.valid)) in
    subst (λ (ps : List Piece). All (IsPiece File) ps) (sym c.pieces.ensures.same) pieces

pub returns-clause-ok : goal.returns-clause-ok
unfolding template_text
returns-clause-ok c =
    let t : TemplateValue = c.args.self.now in
    let written : c.as_slice.result.now ≡ template_text t =
    c.as_slice.ensures ∙ c.in_ok-append_text.ensures
    ∙ ap (λ above. above ++ pieces_text File c.pieces.result.now) (c.in_ok-text.ensures ∙ c.above.ensures)
    ∙ ap (λ ps. t.above ++ pieces_text File ps) c.pieces.ensures.same in
    subst (λ (text : List ℕ). OnOk c.append.result (c.append.new.self ≡ c.args.out.now ++ text)) written c.append.ensures.ok
