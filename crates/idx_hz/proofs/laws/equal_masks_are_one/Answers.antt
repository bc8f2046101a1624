use Rattle.std.proofs.Common.{◌≡◌, refl, ap}
use Rattle.std.specs.Prelude.{◌↔◌, IsTrue}
use Rattle.std.proofs.lemmas.Bool.{eqb-true, eq-eqb}
use Rattle.idx_geom.proofs.PaddedLemmas.{equal_iff}
use Rattle.idx_hz.specs.contracts.mask_fault.MaskFaultPartialEq.TheImpl.{ghosts}
use Rattle.idx_hz.specs.declared.mask_fault.MaskFault.{MaskFault}
use Rattle.idx_hz.specs.declared.mask_fault.MaskFault.TheVariants.{NoV, Empty, BadDigit, TooLong}
use Rattle.idx_hz.proofs.laws.equal_masks_are_one.Goals as goal

equal_faults : (a b : MaskFault) → IsTrue (ghosts.eq a b) ↔ (a ≡ b)
equal_faults NoV NoV = (λ _. refl, λ _. refl)
equal_faults Empty Empty = (λ _. refl, λ _. refl)
equal_faults (BadDigit m) (BadDigit n) = (
  λ t. ap BadDigit (eqb-true m n t),
  λ e. let same : m ≡ n = cc e in eq-eqb m n same,
)
equal_faults TooLong TooLong = (λ _. refl, λ _. refl)
equal_faults _ _ = (λ t. absurd (cc t), λ e. absurd (cc e))

pub returns-clause-masks : goal.returns-clause-masks
returns-clause-masks c = equal_iff 40

pub returns-clause-faults : goal.returns-clause-faults
returns-clause-faults c = equal_faults
