-- What follows where one list begins another.
use Rattle.std.proofs.Common.{◌≡◌, ℕ, zero, suc, List, [], ◌∷◌, ◌++◌, Some, sym, ap, ◌∙◌, append_assoc, append-nil, ◌≤◌, length, length-append, arith}
use Rattle.std.specs.Prelude.{slice_get}
use Rattle.idx_turn.specs.Stands.{Begins}

-- a list begins itself
pub begins_whole : {A : Type 0} (xs : List A) → Begins xs xs
begins_whole xs = record { rest = []; is = sym (append-nil xs) }

-- what begins a beginning begins the whole
pub begins_more : {A : Type 0} {a b c : List A} → Begins a b → Begins b c → Begins a c
begins_more {A} {a} {b} {c} h k =
    record { rest = h.rest ++ k.rest; is = k.is ∙ (ap (λ (l : List A). l ++ k.rest) h.is ∙ append_assoc a h.rest k.rest) }

-- what a list has at a number stays there where more comes behind it
at_front : {A : Type 0} (a rest : List A) (n : ℕ) (p : A) → slice_get a n ≡ Some p → slice_get (a ++ rest) n ≡ Some p
at_front [] rest n p h = cc
at_front (x ∷ xs) rest zero p h = h
at_front (x ∷ xs) rest (suc n) p h = at_front xs rest n p h

-- what a list has at a number, a list that it begins has there too
pub begins_at : {A : Type 0} {a b : List A} (n : ℕ) (p : A) → slice_get a n ≡ Some p → Begins a b → slice_get b n ≡ Some p
begins_at {A} {a} {b} n p h begins = ap (λ (l : List A). slice_get l n) begins.is ∙ at_front a begins.rest n p h

-- a beginning is no longer than the whole
pub begins_length : {A : Type 0} {a b : List A} → Begins a b → length a ≤ length b
begins_length {A} {a} {b} h = omega (arith, ap length h.is, length-append a h.rest)
