-- Contents to which pieces are appended, one after another.
use Rattle.std.specs.Prelude.{◌≡◌, ℕ, ◌+◌, ◌-◌, ◌≤◌, List, [], ◌++◌, length, take, drop, Option, Some, None, refl}
use Rattle.std.proofs.Common.{arith, sym, ap, subst, ◌∙◌, append_assoc, append-nil, length-append}
use Rattle.std.proofs.Math.Seq.{take-add, take-append-add, take-length}
use Rattle.std.proofs.lemmas.List.{take-append-le}
use Rattle.idx_outside.specs.Contents.{appended, AppendsPrefix}

pub appended-nil : (c : Option (List ℕ)) → appended c [] ≡ c
appended-nil None = refl
appended-nil (Some bytes) = ap Some (append-nil bytes)

pub appended-appended : (c : Option (List ℕ)) (p q : List ℕ) → appended (appended c p) q ≡ appended c (p ++ q)
appended-appended None p q = refl
appended-appended (Some bytes) p q = ap Some (append_assoc bytes p q)

-- the first n bytes of a list, and then the m bytes behind them
pub appended-take_more : (c : Option (List ℕ)) (xs : List ℕ) (n m : ℕ) → appended (appended c (take n xs)) (take m (drop n xs)) ≡ appended c (take (n + m) xs)
appended-take_more c xs n m = appended-appended c (take n xs) (take m (drop n xs)) ∙ ap (appended c) (sym (take-add n m xs))

-- nothing was appended
pub AppendsPrefix-none : (c : Option (List ℕ)) (piece : List ℕ) → AppendsPrefix c c piece
AppendsPrefix-none c piece = record { count = 0; within = omega arith; written = sym (appended-nil c) }

-- all was appended
pub AppendsPrefix-all : (c : Option (List ℕ)) (piece : List ℕ) → AppendsPrefix c (appended c piece) piece
AppendsPrefix-all c piece = record { count = length piece; within = omega arith; written = ap (appended c) (sym (take-length piece)) }

-- a prefix of the second piece stands behind the first
pub AppendsPrefix-behind : (c new : Option (List ℕ)) (p q : List ℕ) → AppendsPrefix (appended c p) new q → AppendsPrefix c new (p ++ q)
AppendsPrefix-behind c new p q h = record {
  count = length p + h.count;
  within = simp length-append (omega arith);
  written = h.written ∙ appended-appended c p (take h.count q) ∙ ap (appended c) (sym (take-append-add p q h.count));
}

-- a prefix of the first piece is one of both
pub AppendsPrefix-longer : (c new : Option (List ℕ)) (p q : List ℕ) → AppendsPrefix c new p → AppendsPrefix c new (p ++ q)
AppendsPrefix-longer c new p q h = record {
  count = h.count;
  within = simp length-append (omega arith);
  written = h.written ∙ ap (appended c) (sym (take-append-le h.count p q h.within));
}

-- behind the first n bytes of a list stands a prefix of the m bytes behind them
pub AppendsPrefix-take : (c new : Option (List ℕ)) (xs : List ℕ) (n m k : ℕ) → AppendsPrefix (appended c (take n xs)) new (take m (drop n xs)) → n + m ≤ k → AppendsPrefix c new (take k xs)
AppendsPrefix-take c new xs n m k h le =
    let here : AppendsPrefix c new (take (n + m) xs) = subst (AppendsPrefix c new) (sym (take-add n m xs)) (AppendsPrefix-behind c new (take n xs) (take m (drop n xs)) h) in
    let longer : AppendsPrefix c new (take (n + m) xs ++ take (k - (n + m)) (drop (n + m) xs)) = AppendsPrefix-longer c new (take (n + m) xs) (take (k - (n + m)) (drop (n + m) xs)) here in
    let all : take (n + m) xs ++ take (k - (n + m)) (drop (n + m) xs) ≡ take k xs = sym (take-add (n + m) (k - (n + m)) xs) ∙ ap (λ i. take i xs) (omega arith) in
    subst (AppendsPrefix c new) all longer

-- for `#[tactic(auto, using(..))]` on a function that appends in pieces
pub ruleset appending = (appended-nil, appended-appended, appended-take_more, AppendsPrefix-none, AppendsPrefix-all, AppendsPrefix-behind, AppendsPrefix-longer, AppendsPrefix-take)
