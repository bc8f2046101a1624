use Rattle.std.proofs.Common.{◌≡◌, ℕ, ◌+◌, ◌%◌, ◌^◌, Ok, Some, None, refl, sym, ap, ◌∙◌, subst, arith}
use Rattle.std.specs.Prelude.{IfSome, Option}
use Rattle.idx_layout.specs.OfHeader.{placing_of}
use Rattle.idx_check.specs.Difference.{first_difference}
use Rattle.idx_check.specs.Verdict.{written_length}
use Rattle.idx_check.specs.Wanted.{wanted_bytes}
use Rattle.idx_check.specs.Pieces.{ReadsOn}
use Rattle.idx_check.proofs.PiecesLemmas.{reads_none}
use Rattle.idx_check.proofs.StepLemmas.{by_difference, extra, length_written}
use Rattle.idx_check.proofs.step.wrong_in_file.Goals as goal

pub returns-then-not-is_written-clause-found : goal.returns-then-not-is_written-clause-found
returns-then-not-is_written-clause-found g c =
    extra (placing_of c.args.header.now) c.args.file (g.L.Leaf.contents c.args.leaf.now) (sym c.is_written.ensures.value ∙ c.if-not-is_written.true)

pub returns-in-Some-clause-found : goal.returns-in-Some-clause-found
returns-in-Some-clause-found g c =
    let l = placing_of c.args.header.now in
    by_difference l c.args.file (g.L.Leaf.contents c.args.leaf.now) (Some c.in-Some.at) (sym c.is_written.ensures.value ∙ c.if-not-is_written.false)
    (subst (λ (place : Option ℕ). IfSome (g.L.Leaf.contents c.args.leaf.now) (λ bytes. place ≡ first_difference bytes (wanted_bytes l c.args.file bytes))) c.in-Some.is c.in_ok-at.ensures.found)

pub returns-in-None-clause-found : goal.returns-in-None-clause-found
returns-in-None-clause-found g c =
    let l = placing_of c.args.header.now in
    by_difference l c.args.file (g.L.Leaf.contents c.args.leaf.now) None (sym c.is_written.ensures.value ∙ c.if-not-is_written.false)
    (subst (λ (place : Option ℕ). IfSome (g.L.Leaf.contents c.args.leaf.now) (λ bytes. place ≡ first_difference bytes (wanted_bytes l c.args.file bytes))) c.in-None.is c.in_ok-at.ensures.found)

pub returns-in-None-clause-whole : goal.returns-in-None-clause-whole
returns-in-None-clause-whole g c = λ same.
    c.in_ok-at.ensures.whole (ap Ok c.in-None.is)
    ∙ ap (λ n. (g.R.Reader.asked c.args.reader.now + n) % 2 ^ 64)
    (sym (length_written (placing_of c.args.header.now) c.args.file (sym c.is_written.ensures.value ∙ c.if-not-is_written.false)))

pub returns-then-not-is_written-clause-pieces : goal.returns-then-not-is_written-clause-pieces
returns-then-not-is_written-clause-pieces g c =
    reads_none (g.R.Reader.reads c.args.reader.now) (g.R.Reader.reads c.args.reader.now) (g.R.Reader.asked c.args.reader.now) (g.R.Reader.asked c.args.reader.now)
    0 (written_length (placing_of c.args.header.now) c.args.file) refl refl (omega arith)

pub returns-in-Some-clause-pieces : goal.returns-in-Some-clause-pieces
returns-in-Some-clause-pieces g c =
    subst (λ (n : ℕ). ReadsOn g.R.Reader.reads g.R.Reader.asked c.args.reader.now c.wrong_byte.new.reader 0 n)
    (sym (length_written (placing_of c.args.header.now) c.args.file (sym c.is_written.ensures.value ∙ c.if-not-is_written.false))) c.in_ok-at.ensures.pieces

pub returns-in-None-clause-pieces : goal.returns-in-None-clause-pieces
returns-in-None-clause-pieces g c =
    subst (λ (n : ℕ). ReadsOn g.R.Reader.reads g.R.Reader.asked c.args.reader.now c.wrong_byte.new.reader 0 n)
    (sym (length_written (placing_of c.args.header.now) c.args.file (sym c.is_written.ensures.value ∙ c.if-not-is_written.false))) c.in_ok-at.ensures.pieces
