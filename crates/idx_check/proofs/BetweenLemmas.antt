-- Where two texts differ first, found part by part, and what it says of their first difference.
use Rattle.std.proofs.Common.{◌≡◌, ◌≢◌, ℕ, ◌<◌, ◌≤◌, min, List, length, Option, Some, None, sym, ap, ◌∙◌, ⊎_elim, arith}
use Rattle.std.specs.Prelude.{◌⊎◌, IfSome}
use Rattle.std.proofs.lemmas.Bool.{cases_eq, cases_lt}
use Rattle.idx_layout.specs.Files.{length_of_file}
use Rattle.idx_layout.specs.Placing.{Placing}
use Rattle.idx_check.specs.Difference.{first_difference}
use Rattle.idx_check.specs.Form.{HasForm}
use Rattle.idx_check.specs.Piece.{HasLength}
use Rattle.idx_check.specs.Stray.{IsFirstBetween, first_end}
use Rattle.idx_check.specs.Wanted.{wanted_bytes}
use Rattle.idx_check.proofs.DifferenceLemmas.{differs_at, differs_at_end, differs_nowhere}
use Rattle.idx_check.proofs.WantedLemmas.{length-wanted_bytes, wanted_block_byte, wanted_first_byte, wanted_row_byte}

-- ---- two texts
-- The first difference of two texts of these lengths, by the first place at which their bytes differ, and zeros behind them.
pub difference_is : (xs ys : List ℕ) (end : ℕ) (found result : Option ℕ) → length ys ≡ end → IsFirstBetween xs ys 0 end found →
    (length xs ≡ end → result ≡ found) → (length xs ≢ end → result ≡ Some (first_end found (min (length xs) end))) → result ≡ first_difference xs ys
difference_is xs ys end None result size is same ended = ⊎_elim
    (λ (e : length xs ≡ end). same e ∙ sym (differs_nowhere xs ys (omega (arith, e, size)) (λ i within. is i (omega arith) (omega (arith, within, e)))))
    (λ (other : length xs ≡ end → ⊥).
    ended other
    ∙ sym (differs_at_end xs ys (min (length xs) end) (λ i less. is i (omega arith) (omega (arith, less))) (omega (arith, size)) (λ e. other (e ∙ size))))
    (cases_eq (length xs) end)
difference_is xs ys end (Some at) result size is same ended = ⊎_elim
    (λ (e : length xs ≡ end).
    same e ∙ sym (differs_at xs ys at (λ i less. is.before i (omega arith) less) (omega (arith, is.within, e)) (omega (arith, is.within, size)) is.other))
    (λ (other : length xs ≡ end → ⊥). ended other ∙ sym (by_order other (cases_lt at (min (length xs) end))))
    (cases_eq (length xs) end)
  where
    by_order : (length xs ≡ end → ⊥) → (at < min (length xs) end) ⊎ (min (length xs) end ≤ at) → first_difference xs ys ≡ Some (min at (min (length xs) end))
    by_order other order = ⊎_elim
        (λ (less : at < min (length xs) end).
        differs_at xs ys at (λ i before. is.before i (omega arith) before) (omega (arith, less)) (omega (arith, is.within, size)) is.other
        ∙ ap (λ n. Some n) (omega (arith, less)))
        (λ (more : min (length xs) end ≤ at).
        differs_at_end xs ys (min at (min (length xs) end)) (λ i before. is.before i (omega arith) (omega (arith, before, more))) (omega (arith, more, size)) (λ e. other (e ∙ size)))
        order

-- ---- a file and what it should be
-- what a file should be has the form
pub wanted_form : (l : Placing) (file : ℕ) (bytes : List ℕ) → HasForm l file bytes (wanted_bytes l file bytes)
wanted_form l file bytes =
    record {
      front = wanted_first_byte l file bytes;
      rows = wanted_row_byte l file bytes;
      blocks = λ field block i exists from to present within. wanted_block_byte l file field block i bytes exists from to present within;
    }

-- the first difference of a file and what it should be
pub wrong_byte_is : (l : Placing) (file : ℕ) (contents : Option (List ℕ)) (there : ℕ) (found result : Option ℕ) → HasLength contents there →
    IfSome contents (λ bytes. (wanted : List ℕ) → HasForm l file bytes wanted → IsFirstBetween bytes wanted 0 (length_of_file l file) found) →
    (there ≡ length_of_file l file → result ≡ found) → (there ≢ length_of_file l file → result ≡ Some (first_end found (min there (length_of_file l file)))) →
    IfSome contents (λ bytes. result ≡ first_difference bytes (wanted_bytes l file bytes))
wrong_byte_is l file None there found result size is same ended = tt
wrong_byte_is l file (Some bytes) there found result size is same ended =
    difference_is bytes (wanted_bytes l file bytes) (length_of_file l file) found result (length-wanted_bytes l file bytes)
    (is (wanted_bytes l file bytes) (wanted_form l file bytes))
    (λ e. same (size ∙ e))
    (λ other. ended (λ e. other (sym size ∙ e)) ∙ ap (λ n. Some (first_end found (min n (length_of_file l file)))) size)
