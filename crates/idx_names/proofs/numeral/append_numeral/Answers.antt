use Rattle.std.proofs.Common.{◌≡◌, ℕ, zero, suc, ◌/◌, ◌%◌, ◌^◌, take, set, take_all, ◌-◌, ◌<◌, ◌≤◌, ◌++◌, OnOk, List, length, map, drop, replicate, false, sym, ap, ◌∙◌, subst, arith, length-drop, length-set, append_assoc}
use Rattle.std.specs.Fmt.{digit_glyph}
use Rattle.std.specs.Int.Digits.{digits_of}
use Rattle.idx_names.specs.Numeral.{numeral}
use Rattle.idx_names.specs.Pieces.{mark_base}
use Rattle.idx_names.specs.declared.mark_kind.MarkKind.{MarkKind}
use Rattle.idx_names.specs.declared.mark_kind.MarkKind.TheVariants.{File, Step}
use Rattle.idx_names.proofs.NumeralLemmas.{numeral_parts, digits_more, less_left}
use Rattle.idx_names.proofs.numeral.append_numeral.Goals as goal

ten : (kind : MarkKind) → 10 ≤ mark_base kind
ten File = omega arith
ten Step = omega arith

some_place : (rest place : ℕ) → 0 < rest → rest < 10 ^ place → 1 ≤ place
some_place rest zero some small = omega (arith, some, small)
some_place rest (suc k) some small = omega arith

pub loop-rest-preserved : goal.loop-rest-preserved
loop-rest-preserved c =
    let base : ℕ = mark_base c.args.kind in
    let rest : ℕ = c.loop-rest.rest in
    let most : 10 ≤ base = ten c.args.kind in
    let place : 1 ≤ c.loop-rest.place = some_place rest c.loop-rest.place c.loop-rest-test.true c.loop-rest.invariant.small in
    let small : rest / base < 10 ^ (c.loop-rest.place - 1) = less_left base rest c.loop-rest.place most place c.loop-rest.invariant.small in
    let glyph = c.glyph.ensures ∙ ap (λ b. digit_glyph false (rest % b)) c.base.ensures in
    let whole = digits_more base rest c.loop-rest.place c.glyph.result _ c.loop-rest.digits (omega arith) c.loop-rest-test.true place (omega arith) glyph c.loop-rest.invariant.digits in
    record {
      digits = whole ∙ ap (λ b. map (digit_glyph false) (digits_of base (rest / b)) ++ drop (c.loop-rest.place - 1) (set c.loop-rest.digits (c.loop-rest.place - 1) c.glyph.result))
          (sym c.base-rest.ensures);
      small = subst (λ (b : ℕ). rest / b < 10 ^ (c.loop-rest.place - 1)) (sym c.base-rest.ensures) small;
      place = omega arith;
      len = omega (arith, length-set {A = ℕ});
    }

pub returns : goal.returns
returns c =
    let base : ℕ = mark_base c.args.kind in
    let number : ℕ = c.args.number in
    let none : c.loop-rest.rest ≡ 0 = omega arith in
    let digits : List ℕ = drop c.loop-rest.place c.loop-rest.digits in
    let ends : map (digit_glyph false) (digits_of base number) ≡ digits =
    c.loop-rest.invariant.digits ∙ ap (λ n. map (digit_glyph false) (digits_of base n) ++ digits) none in
    let zeros : c.saturating_sub.result ≡ c.args.least - length digits = omega (arith, length-drop c.loop-rest.place c.loop-rest.digits) in
    let whole : take (20 - c.loop-rest.place) digits ≡ digits = take_all (20 - c.loop-rest.place) digits (omega (arith, length-drop c.loop-rest.place c.loop-rest.digits)) in
    let written : c.append_zeros.new.out ++ take (20 - c.loop-rest.place) digits ≡ c.args.out.now ++ numeral base c.args.least number =
    ap (λ t. c.append_zeros.new.out ++ t) whole ∙ ap (λ t. t ++ digits) c.in_ok-append_zeros.ensures
    ∙ append_assoc c.args.out.now (replicate c.saturating_sub.result 48) digits
    ∙ ap (λ k. c.args.out.now ++ (replicate k 48 ++ digits)) zeros
    ∙ ap (λ t. c.args.out.now ++ t) (sym (numeral_parts base c.args.least number digits ends)) in
    subst (λ (t : List ℕ). OnOk c.append.result (c.append.new.self ≡ t)) written c.append.ensures.ok
