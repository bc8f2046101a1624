use Rattle.std.proofs.Common.{◌≡◌, ◌++◌, ◌∷◌, [], ℕ, List, length, take, drop, get_or, Some, None, ◌+◌, ◌-◌, ◌<◌, refl, sym, ap, ◌∙◌, eq-eqb, eqb-true, arith, length-drop, append-nil}
use Rattle.std.proofs.lemmas.List.{take_rest, length_push}
use Rattle.std.proofs.lemmas.Bool.{false≢true}
use Rattle.std.specs.List.{zip}
use Rattle.idx_text.specs.Numbers.{numbers_of}
use Rattle.idx_text.specs.BoxText.{both_ends, SpellsRegion}
use Rattle.idx_text.proofs.BoxLemmas.{both_ends-more, few_ends, no_odd_end, read_as}
use Rattle.idx_text.proofs.box_text.read_box.Goals as goal
use Rattle.idx_text.proofs.box_text.read_box.Goals.{In_err-numbers}

nothing : (xs : List ℕ) → length xs ≡ 0 → xs ≡ []
nothing [] e = refl
nothing (x ∷ xs) e = absurd (omega arith)

none_is_not_some : (r : List (ℕ × ℕ)) → None ≡ Some r → ⊥
none_is_not_some r e = cc

too_many : (t : List ℕ) → ((ns : List ℕ) → numbers_of t ≡ Some ns → 10 < length ns) → (r : List (ℕ × ℕ)) → SpellsRegion t r → ⊥
too_many t long r h =
    let more = long (both_ends r) h.numbers in
    let few = few_ends t (both_ends r) r h.numbers h in
    absurd (omega (arith, more, few))

pub returns-in_err-numbers : goal.returns-in_err-numbers
returns-in_err-numbers c =
    rw c.from_residual.ensures (λ r. ((λ e. absurd (none_is_not_some r e)), (λ h. absurd (too_many c.args.text.now c.in_err-numbers.ensures.none r h))))

pub loop-rest-preserved : goal.loop-rest-preserved
loop-rest-preserved c =
    let los : List ℕ = c.loop-rest.lower.items in
    let his : List ℕ = c.loop-rest.upper.items in
    let rest : List ℕ = c.loop-rest.rest.now in
    let more : take (length rest - 2) (drop 2 rest) ≡ drop 2 rest = take_rest rest 2 in
    let m : List ℕ = take (length rest - 2) (drop 2 rest) in
    let is = c.push.ensures.items in
    let is' = c.push-in-len2-up.ensures.items in
    let step = both_ends-more los his rest m c.as_slice-rest.result.now c.loop-rest.invariant.same c.in-len2-up.len_at_least more c.loop-rest.invariant.ends in
    record {
      ends = ap (λ t. both_ends (zip t c.push-in-len2-up.new.self.items) ++ m) is
          ∙ ap (λ t. both_ends (zip (los ++ get_or rest 0 0 ∷ []) t) ++ m) is' ∙ step;
      same = ap length is ∙ length_push los (get_or rest 0 0) ∙ ap (λ n. n + 1) c.loop-rest.invariant.same ∙ sym (ap length is' ∙ length_push his (get_or rest 1 0));
      few = omega (arith, ap length is, ap length is', length_push los (get_or rest 0 0), length_push his (get_or rest 1 0), ap length more, length-drop 2 rest);
    }

pub returns-then-not-is_empty : goal.returns-then-not-is_empty
returns-then-not-is_empty c =
    λ r. (
      (λ e. absurd (none_is_not_some r e)),
      (λ h. absurd (
          no_odd_end c.args.text.now c.loop-rest.lower.items c.loop-rest.upper.items c.loop-rest.rest.now c.as_slice-rest.result.now r
          (c.in_ok-numbers.ensures.some ∙ ap Some (sym c.as_slice-rest.ensures.value)) c.loop-rest.invariant.ends c.in_default.len_below
          (λ none. false≢true (sym c.if-not-is_empty.true ∙ c.is_empty.ensures ∙ eq-eqb (length c.loop-rest.rest.now) 0 none)) h)),
    )

pub returns : goal.returns
returns c =
    let los : List ℕ = c.deref.result.now in
    let his : List ℕ = c.deref-2.result.now in
    let low = c.deref.ensures.0 in
    let high = c.deref-2.ensures.0 in
    let none : c.loop-rest.rest.now ≡ [] = nothing c.loop-rest.rest.now (eqb-true (length c.loop-rest.rest.now) 0 (sym c.is_empty.ensures ∙ c.if-not-is_empty.false)) in
    let front = ap (λ t. both_ends (zip t his)) low ∙ ap (λ t. both_ends (zip c.loop-rest.lower.items t)) high in
    let whole = sym (append-nil (both_ends (zip c.loop-rest.lower.items c.loop-rest.upper.items)))
    ∙ ap (λ t. both_ends (zip c.loop-rest.lower.items c.loop-rest.upper.items) ++ t) (sym none) ∙ c.loop-rest.invariant.ends in
    read_as c.args.text.now los his (ap length low ∙ c.loop-rest.invariant.same ∙ sym (ap length high))
    (c.in_ok-numbers.ensures.some ∙ ap Some (sym (front ∙ whole ∙ c.as_slice-rest.ensures.value)))
    c.region_between.result c.region_between.ensures.some c.region_between.ensures.none
