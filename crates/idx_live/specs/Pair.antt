-- Calls of a function to which two values are lent.
use Rattle.std.specs.Prelude.{◌≡◌}
use Rattle.std.specs.Borrow.{MutBor}
use Rattle.std.specs.Fn.{Shared}

module _ {F X Y A : Type 0} (g : Shared F (MutBor X × (MutBor Y × Unit {0})) (A × (MutBor X × (MutBor Y × Unit {0})))) (f : F) where
  -- f may be called where x and y are lent to it
  pub record MayRun (x : X) (y : Y) : Type 0 where
    pub at : (p : MutBor X) (q : MutBor Y) → p.now ≡ x → q.now ≡ y → g.pre f (p, (q, tt))

  -- a call of f to which x and y are lent may answer a, and leave x' and y'
  pub record Runs (x x' : X) (y y' : Y) (a : A) : Type 0 where
    pub first : MutBor X
    pub second : MutBor Y
    pub first_is : first.now ≡ x
    pub second_is : second.now ≡ y
    pub first_after : MutBor X
    pub second_after : MutBor Y
    pub call : g.post f (first, (second, tt)) (a, (first_after, (second_after, tt)))
    pub first_left : first_after.now ≡ x'
    pub second_left : second_after.now ≡ y'
