use Rattle.std.proofs.Common.{◌≡◌, ◌==◌, true, false, Bool, ℕ, not, refl, eq-eqb, eqb-true, ◌++◌, ◌∙◌, sym, ap}
use Rattle.idx_fields.proofs.AgreeLemmas.{not_true}
use Rattle.idx_fields.proofs.TypeLemmas.{canonical-one, canonical-pieces}
use Rattle.idx_fields.proofs.field_type.append_type.Goals as goal

not_one : (n : ℕ) → not (n == 1) ≡ true → n ≡ 1 → ⊥
not_one n test is = not_true (n == 1) test (eq-eqb n 1 is)

one : (n : ℕ) → not (n == 1) ≡ false → n ≡ 1
one n test = eqb-true n 1 (of_test (n == 1) test)
  where
    of_test : (b : Bool) → not b ≡ false → b ≡ true
    of_test true e = refl
    of_test false e = cc

pub returns-in_ok-push-2 : goal.returns-in_ok-push-2
returns-in_ok-push-2 c =
    canonical-pieces c.args.base c.args.count c.args.out.now _ _ _ _ (not_one c.args.count (sym c.is_written.ensures ∙ c.if-is_written.true)) (c.in_ok-append.ensures.ok
    ∙ ap (λ t. c.args.out.now ++ t) c.text.ensures)
    c.in_ok-push.ensures.ok c.in_ok-write_number.ensures.ok c.in_ok-push-2.ensures.ok

pub returns-else-is_written : goal.returns-else-is_written
returns-else-is_written c =
    c.in_ok-append.ensures.ok ∙ ap (λ t. c.args.out.now ++ t) (c.text.ensures ∙ sym (canonical-one c.args.base c.args.count (one c.args.count (sym c.is_written.ensures ∙ c.if-is_written.false))))
