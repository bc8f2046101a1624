use Rattle.std.proofs.Common.{◌≡◌, drop, get_or, Ok, sym, ◌∙◌, ap, arith, rules}
use Rattle.std.proofs.lemmas.List.{take_rest}
use Rattle.idx_hz.specs.MaskText.{mask_text}
use Rattle.idx_hz.proofs.MaskLemmas.{bad_no_text, text_once, text_whole}
use Rattle.idx_hz.proofs.mask.Mask.parse.Goals as goal

pub returns-in-Some-clause-ok : goal.returns-in-Some-clause-ok
returns-in-Some-clause-ok c mask = (
  (λ e. absurd (cc)),
  λ m. absurd (bad_no_text (drop 1 c.args.text.now) mask c.in-Some.place (rw take_rest at c.in-Some.ensures) m.0 (ap (drop 1) m.1)),
)

pub returns-clause-ok : goal.returns-clause-ok
returns-clause-ok c mask =
    let letter : get_or c.args.text.now 0 0 ≡ 86 = search rules in
    let whole : c.args.text.now ≡ mask_text c.of_digits.result = text_whole c.args.text.now c.of_digits.result (omega arith) letter c.of_digits.ensures.text in (
      (λ e. let same : c.of_digits.result ≡ mask = cc in rw (← same) (c.of_digits.ensures.valid, whole)),
      λ m. ap Ok (text_once c.of_digits.result mask (ap (drop 1) (sym whole ∙ m.1))),
    )
