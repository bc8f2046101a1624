-- The fault that `?` hands on.
use Rattle.std.proofs.Common.{◌≡◌, Result, Ok, Err}
use Rattle.std.specs.Result.{IsErrAnd, IsErrOf}

-- it is the one that was answered
pub same_fault : {T E : Type 0} (r : Result T E) (x e : E) → IsErrAnd r (λ y. y ≡ x) → IsErrOf r e → x ≡ e
same_fault (Ok v) x e gives is = absurd gives
same_fault (Err y) x e gives is = cc
