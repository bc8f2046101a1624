use Rattle.std.proofs.Common.{◌≡◌, Bool, true, false, subst}
use Rattle.idx_hz.specs.Mask.{NamesAxes}
use Rattle.idx_hz.proofs.MaskTextLemmas.{mask_of_iff}
use Rattle.idx_header.proofs.space.read_mask.Goals as goal

both : (b : Bool) → b ≡ true → b ≡ false → ⊥
both b t f = cc

pub returns-in_default-clause-none : goal.returns-in_default-clause-none
returns-in_default-clause-none c mask e named =
    let read = (c.parse.ensures.ok mask).1 ((mask_of_iff c.args.text.now mask).0 e) in
    absurd (c.in_default.not-Ok mask read)

pub returns-then-not-names_axes-clause-none : goal.returns-then-not-names_axes-clause-none
returns-then-not-names_axes-clause-none c mask e named =
    let read = (c.parse.ensures.ok mask).1 ((mask_of_iff c.args.text.now mask).0 e) in
    let same : mask ≡ c.in-Ok.mask = cc in
    let names : c.names_axes.result ≡ true = c.names_axes.ensures.1 (subst (λ m. NamesAxes m c.args.axes) same named) in
    both c.names_axes.result names c.if-not-names_axes.true

pub returns-clause-some : goal.returns-clause-some
returns-clause-some c =
    let spelled = (c.parse.ensures.ok c.in-Ok.mask).0 c.in-Ok.is in
    ((mask_of_iff c.args.text.now c.in-Ok.mask).1 spelled, spelled.0, c.names_axes.ensures.0 c.if-not-names_axes.false)
