-- That each object meets one fault at most, by the command that the words give.
use Rattle.std.proofs.Common.{◌≡◌, ◌≤◌, ℕ, zero, suc, List, [], ◌∷◌, ◌++◌, Option, Some, None, length, map, slice_index, refl, sym, ◌∙◌, ap, subst, arith}
use Rattle.idx_outside.specs.Cause.{MeetsOnce}
use Rattle.idx_outside.specs.Counts.{EachMeetsOnce}
use Rattle.idx_outside.specs.Objects.{OthersUntouched, faults_at}
use Rattle.idx_outside.specs.declared.bay_call.BayCall.{BayCall}
use Rattle.idx_outside.specs.declared.bay_call.BayCall.TheVariants as calls
use Rattle.idx_seal.specs.Rows.{MeetsOnceOrRow}

-- an object that was not touched met none
pub not_met : {T : Type 0} (count : T → ℕ) (old new : T) → new ≡ old → MeetsOnce (count old) (count new)
not_met count old new same = let equal : count new ≡ count old = ap count same in omega (arith, equal)

pub none_met : {T : Type 0} (count : T → ℕ) (old new : List T) → new ≡ old → EachMeetsOnce (map count old) (map count new)
none_met count old new same = subst (λ xs. EachMeetsOnce (map count old) (map count xs)) (sym same) (λ i. omega arith)

-- no more than one, and so no more than one or a row
pub once_or_row : (failed : Option BayCall) (workers old new : ℕ) → 1 ≤ workers → MeetsOnce old new → MeetsOnceOrRow failed workers old new
once_or_row None workers old new some once = once
once_or_row (Some calls.Header) workers old new some once = once
once_or_row (Some calls.SetHeader) workers old new some once = once
once_or_row (Some calls.HasStep) workers old new some once = once
once_or_row (Some calls.BeginStep) workers old new some once = once
once_or_row (Some calls.Create) workers old new some once = once
once_or_row (Some calls.Leaf) workers old new some once = once
once_or_row (Some calls.Commit) workers old new some once = once
once_or_row (Some calls.Retire) workers old new some once = omega (arith, some, once)

pub once_or_row_same : (failed : Option BayCall) (workers old new : ℕ) → new ≡ old → MeetsOnceOrRow failed workers old new
once_or_row_same None workers old new same = omega (arith, same)
once_or_row_same (Some calls.Header) workers old new same = omega (arith, same)
once_or_row_same (Some calls.SetHeader) workers old new same = omega (arith, same)
once_or_row_same (Some calls.HasStep) workers old new same = omega (arith, same)
once_or_row_same (Some calls.BeginStep) workers old new same = omega (arith, same)
once_or_row_same (Some calls.Create) workers old new same = omega (arith, same)
once_or_row_same (Some calls.Leaf) workers old new same = omega (arith, same)
once_or_row_same (Some calls.Commit) workers old new same = omega (arith, same)
once_or_row_same (Some calls.Retire) workers old new same = omega (arith, same)

-- where so many workers met it, so did more of them
pub more_workers : (failed : Option BayCall) (few many old new : ℕ) → few ≤ many → MeetsOnceOrRow failed few old new → MeetsOnceOrRow failed many old new
more_workers None few many old new within met = met
more_workers (Some calls.Header) few many old new within met = met
more_workers (Some calls.SetHeader) few many old new within met = met
more_workers (Some calls.HasStep) few many old new within met = met
more_workers (Some calls.BeginStep) few many old new within met = met
more_workers (Some calls.Create) few many old new within met = met
more_workers (Some calls.Leaf) few many old new within met = met
more_workers (Some calls.Commit) few many old new within met = met
more_workers (Some calls.Retire) few many old new within met = omega (arith, within, met)

-- where the first of some objects met one at most and the others were not touched, each did
pub first_once : {T : Type 0} (count : T → ℕ) (old new : List T) → length new ≡ length old → OthersUntouched old new 0 →
    MeetsOnce (faults_at count old 0) (faults_at count new 0) → EachMeetsOnce (map count old) (map count new)
first_once count [] [] number others once zero = once
first_once count [] [] number others once (suc i) = omega arith
first_once count [] (y ∷ new) number others once i = absurd (omega (arith, number))
first_once count (x ∷ old) [] number others once i = absurd (omega (arith, number))
first_once count (x ∷ old) (y ∷ new) number others once zero = once
first_once count (x ∷ old) (y ∷ new) number others once (suc i) =
    let same : slice_index (map count new) i ≡ slice_index (map count old) i = ap (λ xs. slice_index (map count xs) i) others.behind in
    omega (arith, same)

-- where each of some objects met one at most, and the others behind them were not touched, each did
behind_once : {T : Type 0} (count : T → ℕ) (first after rest : List T) → length after ≡ length first → EachMeetsOnce (map count first) (map count after) →
    EachMeetsOnce (map count (first ++ rest)) (map count (after ++ rest))
behind_once count [] [] rest number met i = omega arith
behind_once count [] (y ∷ after) rest number met i = absurd (omega (arith, number))
behind_once count (x ∷ first) [] rest number met i = absurd (omega (arith, number))
behind_once count (x ∷ first) (y ∷ after) rest number met zero = met zero
behind_once count (x ∷ first) (y ∷ after) rest number met (suc i) = behind_once count first after rest (omega (arith, number)) (λ j. met (suc j)) i

pub each_once_all : {T : Type 0} (count : T → ℕ) (old new first after rest : List T) → old ≡ first ++ rest → new ≡ after ++ rest → length after ≡ length first →
    EachMeetsOnce (map count first) (map count after) → EachMeetsOnce (map count old) (map count new)
each_once_all count old new first after rest was is number met =
    subst (λ xs. EachMeetsOnce (map count xs) (map count new)) (sym was)
    (subst (λ xs. EachMeetsOnce (map count (first ++ rest)) (map count xs)) (sym is) (behind_once count first after rest number met))
