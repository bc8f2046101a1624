-- What stands next, from what stands at the front of what is kept.
use Rattle.std.proofs.Common.{IfSome, ◌≡◌, ℕ, ◌≤◌, List, [], ◌++◌, length, Option, Some, None, refl, sym, ap, subst, ◌∙◌, arith, inl, inr, append_assoc, append-nil, length-append}
use Rattle.std.proofs.lemmas.List.{drop-append-le}
use Rattle.idx_outside.specs.Input.{behind}
use Rattle.httparse.specs.Grammar.{RequestHead, print_request, ReadsRequest, HasNoRequest, NeverHasRequest, MayBecomeRequest}
use Rattle.httparse.proofs.GrammarLemmas.{ReadsRequest-append}
use Rattle.idx_http.specs.declared.head.HeadRead.{HeadRead}
use Rattle.idx_http.specs.declared.head.HeadRead.TheVariants as R
use Rattle.idx_http.specs.Heads.{window, head_limit, too_big, Begins, IsHopeless, NextHead}
use Rattle.idx_http.specs.Read.{IsTaken, IsHeadRead}
use Rattle.idx_http.proofs.ListLemmas.{window_more, window_full}

-- a head at the front stands there whatever follows
pub Begins_more : (s more : List ℕ) (h : RequestHead) → Begins s h → Begins (s ++ more) h
Begins_more s more h b =
    let w = window_more s more in
    record {
      rest = b.rest ++ w.0;
      reads = subst (λ (t : List ℕ). ReadsRequest t h (b.rest ++ w.0)) (sym w.1) (ReadsRequest-append (window s) h b.rest w.0 b.reads);
    }

pub Never_none : (t : List ℕ) → NeverHasRequest t → HasNoRequest t
Never_none t never = subst HasNoRequest (append-nil t) (never [])

pub Never_more : (t more : List ℕ) → NeverHasRequest t → NeverHasRequest (t ++ more)
Never_more t more never after = subst HasNoRequest (sym (append_assoc t more after)) (never (more ++ after))

-- what is hopeless stays so whatever follows
pub IsHopeless_more : (s more : List ℕ) → NeverHasRequest (window s) → IsHopeless (s ++ more)
IsHopeless_more s more never =
    let w = window_more s more in
    let more_never = subst NeverHasRequest (sym w.1) (Never_more (window s) w.0 never) in
    record { none = Never_none (window (s ++ more)) more_never; never = more_never }

-- what is only a front and fills the window is too big whatever follows
pub IsFront_full : (s more : List ℕ) → head_limit ≤ length s → HasNoRequest (window s) → MayBecomeRequest (window s) → NextHead (s ++ more) too_big
IsFront_full s more full none may =
    let same = sym (window_full s more full) in
    inr (
      record { none = subst HasNoRequest same none; goes_on = subst MayBecomeRequest same may },
      omega (arith, length-append s more, full),
    )

-- what was taken off what is kept was taken off the input
pub IsTaken_more : (kept rest more : List ℕ) (r : HeadRead) → IsTaken kept rest r → IsHeadRead (kept ++ more) (Some (rest ++ more)) r
IsTaken_more kept rest more (R.Head head) (h, next, values, left, within) = (
  h,
  (Begins_more kept more h next.0, next.1),
  values,
  ap Some (ap (λ (t : List ℕ). t ++ more) left ∙ sym (drop-append-le (length (print_request h)) kept more within)),
)
IsTaken_more kept rest more R.Ended t = absurd t
IsTaken_more kept rest more (R.Cut n) t = absurd t
IsTaken_more kept rest more R.Bad t = absurd t
IsTaken_more kept rest more R.TooBig (inl (h, begins, many), left) =
    (inl (h, Begins_more kept more h begins, many), ap Some (ap (λ (t : List ℕ). t ++ more) left))
IsTaken_more kept rest more R.TooBig (inr (front, full), left) =
    (IsFront_full kept more full front.none front.goes_on, ap Some (ap (λ (t : List ℕ). t ++ more) left))
IsTaken_more kept rest more (R.Fault faults) t = absurd t
IsTaken_more kept rest more R.NoMemory ((h, next), left) = ((h, (Begins_more kept more h next.0, next.1)), ap Some (ap (λ (t : List ℕ). t ++ more) left))

-- ---- the same, of an input that may be unknown

-- the answer to an input, where it is known
abbrev pub Told : Option (List ℕ) → Option (List ℕ) → HeadRead → Type 0
Told before after r = IfSome before (λ s. IsHeadRead s after r)

pub taken_told : (kept rest : List ℕ) (come : Option (List ℕ)) (r : HeadRead) → IsTaken kept rest r → Told (behind kept come) (behind rest come) r
taken_told kept rest None r t = tt
taken_told kept rest (Some more) r t = IsTaken_more kept rest more r t

pub bad_told : (kept : List ℕ) (come : Option (List ℕ)) → NeverHasRequest (window kept) → Told (behind kept come) (behind kept come) R.Bad
bad_told kept None never = tt
bad_told kept (Some more) never = (IsHopeless_more kept more never, refl)

pub full_told : (kept : List ℕ) (come : Option (List ℕ)) → head_limit ≤ length kept → HasNoRequest (window kept) → MayBecomeRequest (window kept)
    → Told (behind kept come) (behind kept come) R.TooBig
full_told kept None full none may = tt
full_told kept (Some more) full none may = (IsFront_full kept more full none may, refl)

pub end_told : (kept : List ℕ) (come : Option (List ℕ)) (r : HeadRead) → IfSome come (λ bytes. bytes ≡ []) → IsHeadRead kept (Some kept) r
    → Told (behind kept come) (behind kept come) r
end_told kept None r none read = tt
end_told kept (Some more) r none read =
    let same : kept ≡ kept ++ more = sym (ap (λ (t : List ℕ). kept ++ t) none ∙ append-nil kept) in
    subst (λ (t : List ℕ). IsHeadRead t (Some t) r) same read

pub fault_told : (input : Option (List ℕ)) (faults : ℕ) → Told input input (R.Fault faults)
fault_told None faults = tt
fault_told (Some s) faults = refl

-- the answer of the whole call, where all that was read before it stands in what is kept
pub told_by : (before come : Option (List ℕ)) (kept : List ℕ) (r : HeadRead) → behind kept come ≡ before
    → Told (behind kept come) (behind kept come) r → Told before (behind kept come) r
told_by before come kept r input told = subst (λ o. Told o (behind kept come) r) input told
