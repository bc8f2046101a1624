-- Templates are equal exactly where their parts are.
use Rattle.std.proofs.Common.{◌≡◌, ℕ, Bool, List, sym, ap, ◌∙◌}
use Rattle.std.specs.Bool.{Decides}
use Rattle.idx_names.specs.declared.piece.Piece.{Piece}
use Rattle.idx_names.specs.Template.{TemplateValue}
use Rattle.idx_names.specs.TimeTemplate.{TimeTemplateValue}

pub same_time : (r : Bool) (xs ys : List Piece) (a b : TimeTemplateValue) → Decides r (xs ≡ ys) →
    record { pieces = xs } ≡ a → record { pieces = ys } ≡ b → Decides r (a ≡ b)
same_time r xs ys a b d ea eb = (
  λ t. sym ea ∙ (λ i. record { pieces = d.0 t i }) ∙ eb,
  λ e. d.1 (ap (λ (v : TimeTemplateValue). v.pieces) (ea ∙ e ∙ sym eb)),
)

pub same_template : (r : Bool) (us vs : List ℕ) (xs ys : List Piece) (a b : TemplateValue) → us ≡ vs → Decides r (xs ≡ ys) →
    record { above = us; pieces = xs } ≡ a → record { above = vs; pieces = ys } ≡ b → Decides r (a ≡ b)
same_template r us vs xs ys a b u d ea eb = (
  λ t. sym ea ∙ (λ i. record { above = u i; pieces = d.0 t i }) ∙ eb,
  λ e. d.1 (ap (λ (v : TemplateValue). v.pieces) (ea ∙ e ∙ sym eb)),
)
