use Rattle.std.proofs.Common.{◌≡◌, ℕ, Option, Some, None, refl, sym, ◌∙◌}
use Rattle.std.specs.Prelude.{IfSome}
use Rattle.idx_names.specs.Template.{IsTemplate}
use Rattle.idx_names.proofs.ApartLemmas.{files_differ, steps_differ}
use Rattle.idx_header.specs.declared.steps.Steps.{Steps}
use Rattle.idx_header.specs.Header.{AreSteps, HasTimeAmong, HeaderValue, at_revision}
use Rattle.idx_header.specs.Names.{file_name, name_with}
use Rattle.idx_header.proofs.laws.names_differ.Goals as goal

apart : (h : HeaderValue) (r q : ℕ) (o : Option Steps) (s u f g : ℕ) → IsTemplate h.template → IfSome o AreSteps → (o ≡ None → r ≡ 0) → (o ≡ None → q ≡ 0) →
    HasTimeAmong o s → HasTimeAmong o u → name_with (at_revision r h) o s f ≡ name_with (at_revision q h) o u g → (s ≡ u) × (r ≡ q) × (f ≡ g)
apart h r q None s u f g t is first second here there e = (here ∙ sym there, first refl ∙ sym (second refl), files_differ h.template f g t e)
apart h r q (Some steps) s u f g t is first second here there e = steps_differ h.template steps.template s u r q f g t is.template e

pub returns : goal.returns
unfolding file_name
returns c = λ h r q s u f g is other here there e. apart h r q h.steps s u f g is.template is.steps is.unrevised other.unrevised here there e
