use Rattle.std.proofs.Common.{◌≡◌, ℕ, Bool, true, cond, List, [], ◌∷◌, ◌++◌, sym, ap, subst}
use Rattle.idx_request.specs.declared.noted.Noted.TheVariants as N
use Rattle.idx_request.specs.Pairs.{text_of}
use Rattle.idx_request.specs.Kept.{IsNoted}
use Rattle.idx_request.proofs.noted.Noted.and.Goals as goal

-- a value behind one or more
twice : (here : Bool) (a : List ℕ) (more : List (List ℕ)) (value : List ℕ) (before : List (List ℕ)) → here ≡ true → before ≡ a ∷ more → IsNoted N.Twice (cond here (before ++ value ∷ []) before)
twice here a more value before is e = subst (λ b. IsNoted N.Twice (cond b (before ++ value ∷ []) before)) (sym is) (at_two more (e_push e))
  where
    e_push : before ≡ a ∷ more → before ++ value ∷ [] ≡ a ∷ (more ++ value ∷ [])
    e_push e = ap (λ (t : List (List ℕ)). t ++ value ∷ []) e

    at_two : (more : List (List ℕ)) → before ++ value ∷ [] ≡ a ∷ (more ++ value ∷ []) → IsNoted N.Twice (before ++ value ∷ [])
    at_two [] e = (a, value, [], e)
    at_two (b ∷ bs) e = (a, b, bs ++ value ∷ [], e)

pub returns-in-Once : goal.returns-in-Once
returns-in-Once c before noted =
    let is : IsNoted (N.Once c.in-Once.field-0) before = subst (λ n. IsNoted n before) c.in-Once.is noted in
    twice c.args.here (text_of c.in-Once.field-0.now) [] (text_of c.args.value.now) before c.if-not-here.false is

pub returns-in-Twice : goal.returns-in-Twice
returns-in-Twice c before noted =
    let is : IsNoted N.Twice before = subst (λ n. IsNoted n before) c.in-Twice.is noted in
    twice c.args.here is.0 (is.1 ∷ is.2) (text_of c.args.value.now) before c.if-not-here.false is.3
