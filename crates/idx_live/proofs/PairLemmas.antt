-- What a call leaves, by what the values are afterwards.
use Rattle.std.proofs.Common.{◌≡◌, subst}
use Rattle.std.specs.Borrow.{MutBor}
use Rattle.std.specs.Fn.{Shared}
use Rattle.idx_live.specs.Pair.{Runs}

pub runs_to : {F X Y A : Type 0} {g : Shared F (MutBor X × (MutBor Y × Unit {0})) (A × (MutBor X × (MutBor Y × Unit {0})))} {f : F} {x z x' : X} {y w y' : Y} {a : A} →
    Runs g f x z y w a → z ≡ x' → w ≡ y' → Runs g f x x' y y' a
runs_to {F} {X} {Y} {A} {g} {f} {x} {z} {x'} {y} {w} {y'} {a} runs left right =
    subst (λ v. Runs g f x v y y' a) left (subst (λ v. Runs g f x z y v a) right runs)
