use Rattle.std.proofs.Common.{◌≡◌, ℕ, length, All, subst, Some, None, ◌+◌, List, [], ◌∷◌, ◌++◌, Bool, true, false, cond, map, refl, sym, ap, ◌∙◌, arith, eqb-true}
use Rattle.std.proofs.Math.Numerals.{suc-eq-add-one}
use Rattle.idx_text.specs.Trim.{trimmed}
use Rattle.idx_text.specs.declared.section.Section.{Section}
use Rattle.idx_text.specs.Lines.{parts, lines, trimmed_lines, is_text_line, wrong_line, wrong_line_from}
use Rattle.idx_text.specs.Sections.{sections, sections_from, IsTextSection}
use Rattle.idx_text.proofs.GrowingLemmas.{in_all, in_all-end, with_line, closed-nil}
use Rattle.idx_text.proofs.TextLemmas.{sections-of-text}
use Rattle.idx_text.proofs.LineLemmas.{lines-step, trimmed-step, lines-none, length-lines}
use Rattle.idx_text.proofs.document.Document.read.Goals as goal

nothing : (xs : List ℕ) → length xs ≡ 0 → xs ≡ []
nothing [] e = refl
nothing (x ∷ xs) e = absurd (omega arith)

pub loop-rest-init : goal.loop-rest-init
unfolding sections
loop-rest-init c = record {
  within = omega arith;
  counted = omega arith;
  wrong = refl;
  all = ap (λ ss. in_all ss 1 (trimmed_lines c.args.text.now)) c.new-sections.ensures.items
      ∙ ap (λ front. front ++ sections_from 1 (trimmed_lines c.args.text.now)) (closed-nil _);
}

-- the number of the first wrong line, where this line comes next
next_wrong : (number : ℕ) (rest line : List ℕ) (behind : List (List ℕ)) (ok : Bool) → lines rest ≡ line ∷ behind → ok ≡ is_text_line line →
    wrong_line_from number (lines rest) ≡ cond ok (wrong_line_from (number + 1) behind) (Some number)
next_wrong number rest line behind ok e is = ap (wrong_line_from number) e ∙ ap (λ b. cond b (wrong_line_from (number + 1) behind) (Some number)) (sym is)

pub returns-then-not-is_text-clause-not_text : goal.returns-then-not-is_text-clause-not_text
returns-then-not-is_text-clause-not_text c = λ line is.
    let step = lines-step c.loop-rest.rest.now c.first_part.result.0.now c.first_part.result.1.now c.first_part.ensures.parts in
    let number : ℕ = c.loop-rest.number + 1 in
    let wrong = next_wrong number c.loop-rest.rest.now c.without_return-line.result.now (lines c.first_part.result.1.now) false
    (step ∙ ap (λ l. l ∷ lines c.first_part.result.1.now) (sym c.without_return-line.ensures)) (sym c.if-not-is_text.true ∙ c.is_text.ensures) in
    let same : number ≡ line = cc in
    sym c.loop-rest.invariant.wrong ∙ wrong ∙ ap Some same

pub loop-rest-preserved : goal.loop-rest-preserved
loop-rest-preserved c =
    let rest : List ℕ = c.loop-rest.rest.now in
    let number : ℕ = c.loop-rest.number + 1 in
    let behind : List ℕ = c.first_part.result.1.now in
    let step = lines-step rest c.first_part.result.0.now behind c.first_part.ensures.parts in
    let wrong = next_wrong number rest c.without_return-line.result.now (lines behind) true
    (step ∙ ap (λ l. l ∷ lines behind) (sym c.without_return-line.ensures)) (sym c.if-not-is_text.false ∙ c.is_text.ensures) in
    let line = trimmed-step rest c.first_part.result.0.now behind c.trim_blanks.result.now c.first_part.ensures.parts (c.trim_blanks.ensures ∙ ap trimmed c.without_return-line.ensures) in
    let grown = with_line c.loop-rest.sections.items c.add_line.new.sections.items number c.trim_blanks.result.now (trimmed_lines behind) c.in_ok-add_line.ensures in
    let counted : length (parts rest) ≡ length (parts behind) + 1 = ap length c.first_part.ensures.parts ∙ suc-eq-add-one (length (parts behind)) in
    let shorter = c.first_part.ensures.shorter in
    let before = c.loop-rest.invariant.within in
    let total = c.loop-rest.invariant.counted in
    record {
      within = omega (arith, before, shorter);
      counted = omega (arith, counted, total);
      wrong = sym wrong ∙ c.loop-rest.invariant.wrong;
      all = sym grown ∙ ap (in_all c.loop-rest.sections.items number) (sym line) ∙ c.loop-rest.invariant.all;
    }

module _ (c : goal.After-loop-rest) where
  all_right : wrong_line c.args.text.now ≡ None
  all_right =
      let none = nothing c.loop-rest.rest.now (eqb-true (length c.loop-rest.rest.now) 0 (sym c.is_empty.ensures ∙ c.loop-rest-test.false)) in
      sym c.loop-rest.invariant.wrong ∙ ap (wrong_line_from (c.loop-rest.number + 1)) (ap lines none ∙ lines-none)

  all_read : c.loop-rest.sections.items ≡ sections c.args.text.now
  all_read =
      let none = nothing c.loop-rest.rest.now (eqb-true (length c.loop-rest.rest.now) 0 (sym c.is_empty.ensures ∙ c.loop-rest-test.false)) in
      let ss : List Section = c.loop-rest.sections.items in
      sym (ap (λ t. in_all ss (c.loop-rest.number + 1) (trimmed_lines t)) none ∙ ap (λ t. in_all ss (c.loop-rest.number + 1) (map trimmed t)) lines-none
      ∙ in_all-end ss (c.loop-rest.number + 1)) ∙ c.loop-rest.invariant.all

pub returns-clause-ok : goal.returns-clause-ok
returns-clause-ok c = all_right c

pub returns-clause-lines : goal.returns-clause-lines
returns-clause-lines c =
    let none = nothing c.loop-rest.rest.now (eqb-true (length c.loop-rest.rest.now) 0 (sym c.is_empty.ensures ∙ c.loop-rest-test.false)) in
    let no_parts : length (parts c.loop-rest.rest.now) ≡ 0 = ap (λ t. length (parts t)) none in
    let total = c.loop-rest.invariant.counted in
    let all = length-lines c.args.text.now in
    omega (arith, no_parts, total, all)

pub returns-clause-sections : goal.returns-clause-sections
returns-clause-sections c = all_read c

pub returns-clause-texts : goal.returns-clause-texts
returns-clause-texts c = subst (All IsTextSection) (sym (all_read c)) (sections-of-text c.args.text.now (all_right c))
