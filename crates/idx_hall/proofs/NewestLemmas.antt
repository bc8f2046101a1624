-- What the newest post of a time is, and how it changes as posts come.
use Rattle.std.proofs.Common.{◌≡◌, ◌≢◌, ℕ, zero, suc, ◌+◌, ◌<◌, ◌≤◌, true, false, nat_eq, List, [], ◌∷◌, ◌++◌, length, map, refl, sym, ap, ◌∙◌, subst, arith, Option, Some, None, inl, inr}
use Rattle.std.specs.Prelude.{IfNone, slice_get}
use Rattle.std.specs.Option.{option_map}
use Rattle.std.proofs.lemmas.Bool.{cases_lt, eqb-true, eq-eqb, false≢true}
use Rattle.std.proofs.lemmas.Option.{slice_get-map, slice_get_within, get_or_from_slice_get, same_Some}
use Rattle.std.proofs.lemmas.List.Elements.{All-nil, All-cons, All-head, All-tail, All-get_or}
use Rattle.idx_hall.specs.Posts.{Post, IsNewestOf, IsPostOf, Lacks, behind_first, newest}
use Rattle.idx_hall.specs.Calls.{IsAfter}

-- ---- places of a list

-- an empty list has nothing
pub nothing_at : {A : Type 0} (n : ℕ) (y : A) → slice_get [] n ≡ Some y → ⊥
nothing_at n y h = let past : n < 0 = slice_get_within [] n y h in omega (arith, past)

-- a post that is there stays at its number
pub at_before : {A : Type 0} (xs ys : List A) (n : ℕ) (y : A) → slice_get xs n ≡ Some y → slice_get (xs ++ ys) n ≡ Some y
at_before [] ys n y h = absurd (nothing_at n y h)
at_before (x ∷ xs) ys zero y h = h
at_before (x ∷ xs) ys (suc n) y h = at_before xs ys n y h

-- what is at a number of the first list was there before the second came behind it
pub at_front : {A : Type 0} (xs ys : List A) (n : ℕ) (y : A) → n < length xs → slice_get (xs ++ ys) n ≡ Some y → slice_get xs n ≡ Some y
at_front [] ys n y lt h = absurd (omega (arith, lt))
at_front (x ∷ xs) ys zero y lt h = h
at_front (x ∷ xs) ys (suc n) y lt h = at_front xs ys n y (omega (arith, lt)) h

-- ---- no post of a time

-- no post of this number has the time
pub lacking : (board : List Post) (step n : ℕ) (p : Post) → Lacks step board → slice_get board n ≡ Some p → p.time ≢ step
lacking board step n p lacks at =
    subst (λ (q : Post). q.time ≢ step) (get_or_from_slice_get board n p p at)
    (All-get_or (λ (q : Post). q.time ≢ step) board n p (slice_get_within board n p at) lacks)

-- a post that is there is not lacking
pub lacks-not : (board : List Post) (step number : ℕ) → (post : Post) × IsPostOf board step number post → Lacks step board → ⊥
lacks-not board step number there lacks = lacking board step number there.0 lacks there.1.at there.1.time

other_time : (t step : ℕ) → t ≢ step → nat_eq t step ≡ false
other_time t step other = (elim (nat_eq t step) as (λ b. nat_eq t step ≡ b → b ≡ false) [
  | true ↦ λ e. absurd (other (eqb-true t step e))
  | false ↦ λ e. refl
]) refl

-- where no post has the time there is no newest one
pub newest-none : (board : List Post) (step : ℕ) → Lacks step board → newest board step ≡ None
newest-none [] step lacks = refl
newest-none (p ∷ board) step lacks =
    ap (λ o. behind_first (nat_eq p.time step) o) (newest-none board step (All-tail (λ (q : Post). q.time ≢ step) p board lacks))
    ∙ ap (λ b. behind_first b None) (other_time p.time step (All-head (λ (q : Post). q.time ≢ step) p board lacks))

-- and where there is no newest one no post has the time
pub newest-lacks : (board : List Post) (step : ℕ) → newest board step ≡ None → Lacks step board
newest-lacks [] step none = All-nil (λ (q : Post). q.time ≢ step)
newest-lacks (p ∷ board) step none = (elim (newest board step) as (λ o. newest board step ≡ o → behind_first (nat_eq p.time step) o ≡ None → Lacks step (p ∷ board)) [
  | Some n ↦ λ rest h. cc
  | None ↦ λ rest h. (elim (nat_eq p.time step) as (λ b. nat_eq p.time step ≡ b → behind_first b None ≡ None → Lacks step (p ∷ board)) [
    | true ↦ λ e k. cc
    | false ↦ λ e k. All-cons (λ (q : Post). q.time ≢ step) p board (λ same. false≢true (sym e ∙ eq-eqb p.time step same)) (newest-lacks board step rest)
  ]) refl h
]) refl none

-- ---- the last post of a time

-- the post of this number has the time, and no later one has it
pub record IsLast (board : List Post) (step number : ℕ) : Type 0 where
  pub post : Post
  pub at : slice_get board number ≡ Some post
  pub time : post.time ≡ step
  pub last : (later : ℕ) (p : Post) → slice_get board later ≡ Some p → p.time ≡ step → later ≤ number

-- the last post of the rest is the last one
last_behind : (p : Post) (board : List Post) (step n : ℕ) → IsLast board step n → IsLast (p ∷ board) step (suc n)
last_behind p board step n is = record {
  post = is.post;
  at = is.at;
  time = is.time;
  last = later_ones;
}
  where
    later_ones : (later : ℕ) (q : Post) → slice_get (p ∷ board) later ≡ Some q → q.time ≡ step → later ≤ suc n
    later_ones zero q at time = omega arith
    later_ones (suc later) q at time = let le : later ≤ n = is.last later q at time in omega (arith, le)

-- the first post is the last one where the rest lacks the time
last_first : (p : Post) (board : List Post) (step : ℕ) → p.time ≡ step → Lacks step board → IsLast (p ∷ board) step 0
last_first p board step time lacks = record {
  post = p;
  at = refl;
  time = time;
  last = later_ones;
}
  where
    later_ones : (later : ℕ) (q : Post) → slice_get (p ∷ board) later ≡ Some q → q.time ≡ step → later ≤ 0
    later_ones zero q at same = omega arith
    later_ones (suc later) q at same = absurd (lacking board step later q lacks at same)

-- the newest post of a time is the last one that has it
pub newest-last : (board : List Post) (step number : ℕ) → newest board step ≡ Some number → IsLast board step number
newest-last [] step number h = cc
newest-last (p ∷ board) step number h = (elim (newest board step) as (λ o. newest board step ≡ o → behind_first (nat_eq p.time step) o ≡ Some number → IsLast (p ∷ board) step number) [
  | Some n ↦ λ rest k. let is : n + 1 ≡ number = same_Some (n + 1) number k in
      subst (λ m. IsLast (p ∷ board) step m) {x = suc n} {y = number} (omega (arith, is)) (last_behind p board step n (newest-last board step n rest))
  | None ↦ λ rest k. (elim (nat_eq p.time step) as (λ b. nat_eq p.time step ≡ b → behind_first b None ≡ Some number → IsLast (p ∷ board) step number) [
    | true ↦ λ e j. subst (λ m. IsLast (p ∷ board) step m) (same_Some 0 number j) (last_first p board step (eqb-true p.time step e) (newest-lacks board step rest))
    | false ↦ λ e j. cc
  ]) refl k
]) refl h

-- and the last one that has it is the newest
pub last-newest : (board : List Post) (step number : ℕ) → IsLast board step number → newest board step ≡ Some number
last-newest board step number is = (elim (newest board step) as (λ o. newest board step ≡ o → o ≡ Some number) [
  | None ↦ λ e. absurd (lacking board step number is.post (newest-lacks board step e) is.at is.time)
  | Some n ↦ λ e. let there : IsLast board step n = newest-last board step n e in
      let le : n ≤ number = is.last n there.post there.at there.time in
      let ge : number ≤ n = there.last number is.post is.at is.time in
      ap Some {x = n} {y = number} (omega (arith, le, ge))
]) refl

-- the post of the number, where it is the newest
pub newest-post : (board : List Post) (step number : ℕ) → newest board step ≡ Some number → (post : Post) × IsNewestOf board step number post
newest-post board step number is =
    let last : IsLast board step number = newest-last board step number is in
    (last.post, record { at = last.at; time = last.time; newest_is = is })

-- ---- with more posts

-- one more post is the newest of its time
pub newest-more : (board : List Post) (post : Post) (step : ℕ) → post.time ≡ step → newest (board ++ post ∷ []) step ≡ Some (length board)
newest-more [] post step same = ap (λ b. behind_first b None) (eq-eqb post.time step same)
newest-more (p ∷ board) post step same =
    ap (λ o. behind_first (nat_eq p.time step) o) (newest-more board post step same) ∙ ap Some {x = length board + 1} {y = suc (length board)} (omega arith)

-- and changes nothing of another one
pub newest-other : (board : List Post) (post : Post) (step : ℕ) → post.time ≢ step → newest (board ++ post ∷ []) step ≡ newest board step
newest-other [] post step other = ap (λ b. behind_first b None) (other_time post.time step other)
newest-other (p ∷ board) post step other = ap (λ o. behind_first (nat_eq p.time step) o) (newest-other board post step other)

-- the newest post of more posts was the newest one before, if it was there
pub newest-before : (board more : List Post) (step number : ℕ) → newest (board ++ more) step ≡ Some number → number < length board → newest board step ≡ Some number
newest-before board more step number is within =
    let last : IsLast (board ++ more) step number = newest-last (board ++ more) step number is in
    last-newest board step number (record {
      post = last.post;
      at = at_front board more number last.post within last.at;
      time = last.time;
      last = λ later p at time. last.last later p (at_before board more later p at) time;
    })

-- the number of the newest post never falls
pub newest-rises : (board more : List Post) (step was is : ℕ) → newest board step ≡ Some was → newest (board ++ more) step ≡ Some is → was ≤ is
newest-rises board more step was is before after =
    let first : IsLast board step was = newest-last board step was before in
    let last : IsLast (board ++ more) step is = newest-last (board ++ more) step is after in
    last.last was first.post (at_before board more was first.post first.at) first.time

-- ---- the posts of steps

-- the step of a post that is there
pub step_at : {E : Type 0} (post : E → Post) (es : List E) (n : ℕ) (p : Post) → slice_get (map post es) n ≡ Some p → (e : E) × ((slice_get es n ≡ Some e) × (post e ≡ p))
step_at post [] n p h = absurd (nothing_at n p h)
step_at post (e ∷ es) zero p h = (e, (refl, same_Some (post e) p h))
step_at post (e ∷ es) (suc n) p h = step_at post es n p h

pub Lacks-map : {E : Type 0} (post : E → Post) (es : List E) (step : ℕ) → ((n : ℕ) (e : E) → slice_get es n ≡ Some e → (post e).time ≢ step) → Lacks step (map post es)
Lacks-map post [] step none = All-nil (λ (p : Post). p.time ≢ step)
Lacks-map post (e ∷ es) step none = All-cons (λ (p : Post). p.time ≢ step) (post e) (map post es) (none zero e refl) (Lacks-map post es step (λ n x. none (suc n) x))

-- the last step of a time is the newest post of it
pub newest-map : {E : Type 0} (post : E → Post) (es : List E) (step n : ℕ) (e : E) → slice_get es n ≡ Some e → (post e).time ≡ step
    → ((m : ℕ) (x : E) → n < m → slice_get es m ≡ Some x → (post x).time ≢ step) → newest (map post es) step ≡ Some n
newest-map post es step n e at time last = last-newest (map post es) step n (record {
  post = post e;
  at = slice_get-map post es n ∙ ap (option_map post) at;
  time = time;
  last = no_later;
})
  where
    no_later : (later : ℕ) (p : Post) → slice_get (map post es) later ≡ Some p → p.time ≡ step → later ≤ n
    no_later later p there same = elim (cases_lt n later) [
      | inl less ↦ let step_is = step_at post es later p there in
          absurd (last later step_is.0 less step_is.1.0 (ap (λ (q : Post). q.time) step_is.1.1 ∙ same))
      | inr more ↦ omega (arith, more)
    ]

-- where no post of the time is there, none is to be followed
pub none-newer : (board : List Post) (step : ℕ) (after found : Option ℕ) → IsAfter board step after → found ≡ newest board step → IfNone found (newest board step ≡ after)
none-newer board step after (Some n) given is = tt
none-newer board step None None given is = sym is
none-newer board step (Some n) None given is = absurd (lacks-not board step n given (newest-lacks board step (sym is)))
