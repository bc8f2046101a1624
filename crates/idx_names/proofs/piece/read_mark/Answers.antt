use Rattle.std.proofs.Common.{sym, ◌∙◌, arith, refl, [], ◌∷◌, List, ℕ}
use Rattle.idx_names.proofs.GrammarLemmas.{MarkStands}
use Rattle.idx_names.proofs.ReadLemmas.{mark_first, none_first}
use Rattle.idx_names.proofs.piece.read_mark.Goals as goal
use Rattle.idx_names.proofs.piece.read_mark.Goals.{else-digits-gt48-via-then-digits-gt48+then-digits-most_digits+else-letter, else-digits-gt48-via-then-digits-gt48+else-digits-most_digits, else-digits-gt48-via-else-digits-gt48}

pub returns-then-letter : goal.returns-then-letter
returns-then-letter c =
    let text : List ℕ = 37 ∷ 48 ∷ c.args.digits ∷ c.args.letter ∷ [] in
    let m : MarkStands c.args.kind text = record {
      sign = refl;
      nought = refl;
      least = omega arith;
      most = omega (arith, c.most_digits.ensures, c.if-digits-most_digits.true);
      letter = c.if-letter.true ∙ c.letter.ensures;
    } in
    sym (mark_first c.args.kind text refl m)

pub returns-else-digits-gt48 : goal.returns-else-digits-gt48
returns-else-digits-gt48 c =
    let text : List ℕ = 37 ∷ 48 ∷ c.args.digits ∷ c.args.letter ∷ [] in
    sym (none_first c.args.kind text refl (λ m. elim c.else-digits-gt48.branch [
      | else-digits-gt48-via-then-digits-gt48+then-digits-most_digits+else-letter w ↦ absurd (w.if-letter.false (m.letter ∙ sym w.letter.ensures))
      | else-digits-gt48-via-then-digits-gt48+else-digits-most_digits w ↦ absurd (omega (arith, m.most, w.most_digits.ensures, w.if-digits-most_digits.false))
      | else-digits-gt48-via-else-digits-gt48 w ↦ absurd (omega (arith, m.least, w.if-digits-gt48.false))
    ]))
