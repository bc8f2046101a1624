-- What a batch of pieces leaves as it was.
use Rattle.std.proofs.Common.{◌≡◌, ℕ, ◌<◌, List, length, sym, ap, ◌∙◌, arith}
use Rattle.std.specs.Prelude.{Option, None}
use Rattle.std.specs.List.{slice_index_or}
use Rattle.idx_outside.specs.Objects.{SameContents, contents_at}
use Rattle.idx_gather.specs.Gather.{HaveSame}
use Rattle.idx_gather.proofs.BatchLemmas.{same_number}

-- what the first raw volume tells
pub first_same : {V : Type 0} (contents : V → Option (List ℕ)) (old new : List V) → SameContents contents old new → contents_at contents new 0 ≡ contents_at contents old 0
first_same contents old new same = ap (λ (xs : List (Option (List ℕ))). slice_index_or xs 0 None) same

-- raw volumes that tell the same still do
pub alike_still : {V : Type 0} (contents : V → Option (List ℕ)) (old new : List V) → SameContents contents old new → HaveSame contents old → HaveSame contents new
alike_still contents old new same alike = λ i within.
    let inside : i < length old = omega (arith, within, same_number contents old new same) in
    ap (λ (xs : List (Option (List ℕ))). slice_index_or xs i None) same ∙ alike i inside ∙ sym (first_same contents old new same)
