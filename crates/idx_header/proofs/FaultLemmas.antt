-- The first fault of lists of faults, one list behind the other.
use Rattle.std.proofs.Common.{◌≡◌, List, [], ◌∷◌, ◌++◌, Option, Some, None, Result, Ok, Err, refl, sym, subst}
use Rattle.std.specs.Prelude.{IfErr, IfOk}
use Rattle.std.specs.Result.{IsErrAnd}
use Rattle.idx_header.specs.declared.header_fault.HeaderFault.{HeaderFault}
use Rattle.idx_header.specs.Faults.{first_of}

-- where the first list has no fault, the others tell
pub passed : (xs ys : List (Option HeaderFault)) → first_of xs ≡ None → first_of (xs ++ ys) ≡ first_of ys
passed [] ys h = refl
passed (None ∷ xs) ys h = passed xs ys h
passed (Some f ∷ xs) ys h = cc

-- where it has one, it tells
pub stopped : (xs ys : List (Option HeaderFault)) (f : HeaderFault) → first_of xs ≡ Some f → first_of (xs ++ ys) ≡ Some f
stopped [] ys f h = cc
stopped (None ∷ xs) ys f h = stopped xs ys f h
stopped (Some g ∷ xs) ys f h = h

-- what holds of the error that was handed on
pub handed_on : {T : Type 0} (r : Result T HeaderFault) (f : HeaderFault) (P : HeaderFault → Type 0) → IsErrAnd r (λ e. e ≡ f) → P f → IfErr r P
handed_on (Ok x) f P h p = tt
handed_on (Err e) f P h p = subst P (sym h) p

pub ok_maps : {T E : Type 0} (r : Result T E) (P Q : T → Type 0) → ((x : T) → P x → Q x) → IfOk r P → IfOk r Q
ok_maps (Ok x) P Q f h = f x h
ok_maps (Err e) P Q f h = tt

pub err_maps : {T E : Type 0} (r : Result T E) (P Q : E → Type 0) → ((e : E) → P e → Q e) → IfErr r P → IfErr r Q
err_maps (Ok x) P Q f h = tt
err_maps (Err e) P Q f h = f e h
