use Rattle.std.proofs.Common.{◌≡◌, [], ◌∷◌, ◌++◌, ℕ, List, OnOk, All, sym, ap, ◌∙◌, subst}
use Rattle.std.proofs.lemmas.List.Elements.{All-from_recursion}
use Rattle.idx_names.specs.declared.mark_kind.MarkKind.TheVariants.{Step}
use Rattle.idx_names.specs.declared.piece.Piece.{Piece}
use Rattle.idx_names.specs.Pieces.{pieces_text, IsPiece}
use Rattle.idx_names.specs.TimeTemplate.{TimeTemplateValue, time_template_text}
use Rattle.idx_names.proofs.TemplateLemmas.{inner_is}
use Rattle.idx_names.proofs.TimeLemmas.{MadeTime, made_time}
use Rattle.idx_names.proofs.time_template.TimeTemplate.write.Goals as goal

pub append_text-requires : goal.append_text-requires
append_text-requires c =
    let t : TimeTemplateValue = c.args.self.now in
    let m : MadeTime t = made_time t c.pieces.ensures.valid in
    let pieces : All (IsPiece Step) t.pieces = All-from_recursion (IsPiece Step) t.pieces (inner_is Step t.pieces m.inner) in
    subst (λ (ps : List Piece). All (IsPiece Step) ps) (sym c.pieces.ensures.same) pieces

pub returns-clause-ok : goal.returns-clause-ok
unfolding time_template_text
returns-clause-ok c =
    let t : TimeTemplateValue = c.args.self.now in
    let written : c.as_slice.result.now ≡ time_template_text t =
    c.as_slice.ensures ∙ c.in_ok-push.ensures.ok
    ∙ ap (λ text. text ++ 47 ∷ []) (c.in_ok-append_text.ensures ∙ ap (λ text. text ++ pieces_text Step c.pieces.result.now) c.new-text.ensures
    ∙ ap (λ ps. pieces_text Step ps) c.pieces.ensures.same) in
    subst (λ (text : List ℕ). OnOk c.append.result (c.append.new.self ≡ c.args.out.now ++ text)) written c.append.ensures.ok
