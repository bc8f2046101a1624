-- What time does to a turn and a reader: steps are added, and counts rise.
use Rattle.std.specs.Prelude.{◌≡◌, true, List, [], ◌++◌, Option}
use Rattle.std.proofs.Common.{refl, sym, ap, ◌∙◌, arith, append_assoc, append-nil}
use Rattle.idx_outside.specs.Cause.{NeverFalls}
use Rattle.idx_outside.specs.Shape.{Shape}
use Rattle.idx_turn.specs.LockId.{LockId}
use Rattle.idx_turn.specs.Stands.{Begins}
use Rattle.idx_session.specs.Entry.{State}

-- Steps were seen as before, or more behind them; none more where the turn may add steps itself, since it added none.
pub record Grew (before after : State) : Type 0 where
  pub may_add : after.may_add ≡ before.may_add
  pub begins : Begins before.posts after.posts
  pub same : before.may_add ≡ true → after.posts ≡ before.posts

-- a later time: steps were only added, the reader's count of faults did not fall, and the turn has its shape and its lock
pub record IsLater (before after : State) (shape_before shape_after : Shape) (lock_before lock_after : Option LockId) : Type 0 where
  pub grew : Grew before after
  pub count : NeverFalls before.faults after.faults
  pub shape : shape_after ≡ shape_before
  pub lock : lock_after ≡ lock_before

-- no time is the shortest
pub later_same : (s : State) (shape : Shape) (lock : Option LockId) → IsLater s s shape shape lock lock
later_same s shape lock = record {
  grew = record { may_add = refl; begins = record { rest = []; is = sym (append-nil s.posts) }; same = λ _. refl };
  count = omega arith;
  shape = refl;
  lock = refl;
}

begins_on : {A : Type 0} {a b c : List A} → Begins a b → Begins b c → Begins a c
begins_on {A} {a} {b} {c} h k = record {
  rest = h.rest ++ k.rest;
  is = k.is ∙ (ap (λ (l : List A). l ++ k.rest) h.is ∙ append_assoc a h.rest k.rest);
}

-- one time after another is a time
pub later_on : {a b c : State} {s t u : Shape} {k l m : Option LockId} → IsLater a b s t k l → IsLater b c t u l m → IsLater a c s u k m
later_on one two = record {
  grew = record {
    may_add = two.grew.may_add ∙ one.grew.may_add;
    begins = begins_on one.grew.begins two.grew.begins;
    same = λ may. two.grew.same (one.grew.may_add ∙ may) ∙ one.grew.same may;
  };
  count = omega (arith, one.count, two.count);
  shape = two.shape ∙ one.shape;
  lock = two.lock ∙ one.lock;
}
