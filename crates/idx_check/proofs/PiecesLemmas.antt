-- Reads of pieces, one after another.
use Rattle.std.proofs.Common.{◌≡◌, ℕ, ◌+◌, ◌*◌, ◌/◌, ◌%◌, ◌^◌, ◌<◌, ◌≤◌, [], ◌∷◌, ◌++◌, length, length-append, sym, ap, ◌∙◌, arith}
use Rattle.std.specs.Prelude.{sum_by}
use Rattle.std.specs.List.{sum}
use Rattle.std.proofs.lemmas.List.Elements.{All-append, All-cons, All-nil}
use Rattle.std.proofs.lemmas.List.Sums.{sum_by-append}
use Rattle.std.proofs.Math.Nat.{mul-div_cancel_left}
use Rattle.idx_layout.specs.Files.{length_of_file}
use Rattle.idx_layout.specs.Placing.{Placing}
use Rattle.idx_check.specs.Pieces.{IsPiece, ReadsPieces, most_asked}
use Rattle.idx_check.specs.Verdict.{written_before, written_length}
use Rattle.idx_check.specs.declared.verdict.WrongKind.{WrongKind}
use Rattle.idx_check.specs.declared.verdict.Verdict.TheVariants.{Wrong}
use Rattle.idx_check.proofs.StepLemmas.{bytes_next}

-- none
pub reads_none : (r s a b from to : ℕ) → s ≡ r → b ≡ a → from ≤ to → ReadsPieces r s a b from to
reads_none r s a b from to reads asked fits = record {
  lengths = [];
  each = All-nil IsPiece;
  few = omega (arith, fits);
  made = omega (arith, reads);
  asked = omega (arith, asked);
}

-- one
pub reads_one : (r s a b from to n : ℕ) → s ≡ (r + 1) % 2 ^ 64 → b ≡ (a + n) % 2 ^ 64 → 0 < n → n ≤ 65536 → from + n ≤ to → ReadsPieces r s a b from to
reads_one r s a b from to n reads asked some short fits = record {
  lengths = n ∷ [];
  each = All-cons IsPiece n [] (some, short) (All-nil IsPiece);
  few = omega (arith, fits);
  made = omega (arith, reads);
  asked = omega (arith, asked);
}

-- some, and then some more
pub reads_both : (r s t a b c from mid to : ℕ) → ReadsPieces r s a b from mid → ReadsPieces s t b c mid to → ReadsPieces r t a c from to
reads_both r s t a b c from mid to first second =
    let total : sum (first.lengths ++ second.lengths) ≡ sum first.lengths + sum second.lengths = sum_by-append (λ n. n) first.lengths second.lengths in
    let number : length (first.lengths ++ second.lengths) ≡ length first.lengths + length second.lengths = length-append first.lengths second.lengths in
    record {
      lengths = first.lengths ++ second.lengths;
      each = All-append IsPiece first.lengths second.lengths first.each second.each;
      few = omega (arith, total, first.few, second.few);
      made = omega (arith, number, first.made, second.made);
      asked = omega (arith, total, first.asked, second.asked);
    }

-- between other places, no nearer to each other
pub reads_wider : (r s a b from to from' to' : ℕ) → to + from' ≤ to' + from → ReadsPieces r s a b from to → ReadsPieces r s a b from' to'
reads_wider r s a b from to from' to' wider reads = record {
  lengths = reads.lengths;
  each = reads.each;
  few = omega (arith, reads.few, wider);
  made = reads.made;
  asked = reads.asked;
}

-- up to the file that is wrong
pub most_of_wrong : (l : Placing) (file i at bytes : ℕ) (why : WrongKind) → 0 < l.per_file → file ≡ l.per_file * i → bytes ≡ sum_by (length_of_file l) (written_before l i) →
    bytes + written_length l file ≡ most_asked l (Wrong file at why)
most_of_wrong l file i at bytes why some begins so_far =
    let number : file / l.per_file ≡ i = ap (λ n. n / l.per_file) begins ∙ mul-div_cancel_left i some in
    bytes_next l file i bytes (bytes + written_length l file) begins so_far (omega arith)
    ∙ ap (λ k. sum_by (length_of_file l) (written_before l (k + 1))) (sym number)
