-- An answer, out of the rounds that were made, and what a refusal leaves.
use Rattle.std.proofs.Common.{◌≡◌, ◌⊎◌, inl, inr, ℕ, zero, suc, ◌+◌, ◌-◌, ◌*◌, ◌/◌, ◌%◌, ◌^◌, ◌<◌, ◌≤◌, Bool, true, List, [], ◌∷◌, ◌++◌, length, map, take, drop, refl, sym, ap, ◌∙◌, subst, arith, Some, None, Option}
use Rattle.std.specs.Prelude.{IfSome, min, slice_get, sum_by}
use Rattle.std.specs.List.{flat_map, fold, range_with_len}
use Rattle.std.proofs.lemmas.Bool.{cases_lt}
use Rattle.std.proofs.lemmas.List.{length-take-le, take_all}
use Rattle.std.proofs.lemmas.List.FromFn.{get_or-map-range_with_len, length-map-range_with_len, take-map-range_with_len}
use Rattle.std.proofs.lemmas.Option.{slice_get-get_or}
use Rattle.idx_outside.specs.Cause.{MadeReads}
use Rattle.idx_header.specs.Header.{HeaderValue}
use Rattle.idx_hall.specs.declared.key.Key.{Key}
use Rattle.idx_hall.specs.Posts.{IsNewestOf, Post, bytes_at}
use Rattle.idx_hall.specs.Hall.{HallValue, after_look}
use Rattle.idx_turn.specs.Stands.{MadeHolds}
use Rattle.idx_plan.specs.Answer.{answer_of}
use Rattle.idx_plan.specs.Needed.{needed, needed_keys, plan_fault}
use Rattle.idx_plan.specs.Plan.{IsPlan, PlanValue}
use Rattle.idx_plan.specs.Rounds.{cut_at, cut_count, cut_into, rounds, width_for}
use Rattle.idx_plan.specs.declared.ask.Ask.{Ask}
use Rattle.idx_plan.proofs.RoundLemmas.{rounds-joined}
use Rattle.idx_query.specs.Answered.{IsDone, IsHeld, IsHeldAtFault, IsLeft}
use Rattle.idx_query.specs.Blocks.{AreCopied, IsPlanOf, blocks_of}
use Rattle.idx_query.specs.Rounds.{AreRounds, after_answer, after_rounds, holds_by}
use Rattle.idx_query.specs.Steps.{DidRounds, FirstLeft, LeftLook, RoundLeft}
use Rattle.idx_query.specs.declared.query_fault.QueryFault.{QueryFault}
use Rattle.idx_query.specs.declared.query_fault.QueryFault.TheVariants as faults
use Rattle.idx_query.specs.declared.report.Report.{Report}
use Rattle.idx_query.proofs.AnswerLemmas.{answer-is, plan_count}
use Rattle.idx_query.proofs.RoundsLemmas.{counts-add, rounds-stored}

-- ---- all rounds

module _ (h : HeaderValue) (ask : Ask) (plan : PlanValue) (of : IsPlanOf h ask plan) (post : Post) (number : ℕ) (tells : Bool) (kept_before kept_after : Option HallValue)
    (held_before held_after reads_before reads_after : ℕ) (report : Report) (out : List ℕ)
    (did : DidRounds ask plan (rounds h ask) post number tells kept_before kept_after held_before held_after reads_before reads_after report out) where
  keys_flat : flat_map (λ (ks : List Key). ks) (rounds h ask) ≡ plan.keys
  keys_flat = rounds-joined h ask ∙ sym of.keys

  many_flat : length (flat_map (λ (ks : List Key). ks) (rounds h ask)) ≡ length (needed h ask)
  many_flat = ap (λ (ks : List Key). length ks) keys_flat ∙ plan_count h ask plan of

  pub answer-made : ask.field < length h.fields → length ask.region ≡ length h.box → plan_fault h ask ≡ None → IsPlan plan → length out ≡ plan.bytes → IfSome post.stored (λ t. out ≡ answer_of h ask (bytes_at t))
  answer-made field axes sound valid room = each post.stored did.copied
    where
      each : (o : Option (List (List (List ℕ)))) → IfSome o (λ t. AreCopied plan (bytes_at t ask.field) (blocks_of (flat_map (λ (ks : List Key). ks) (rounds h ask))) out) → IfSome o (λ t. out ≡ answer_of h ask (bytes_at t))
      each None copied = tt
      each (Some t) copied =
          answer-is (Some (bytes_at t)) h ask plan out field axes sound valid.bits of room
          (subst (λ (ks : List Key). AreCopied plan (bytes_at t ask.field) (blocks_of ks) out) keys_flat copied)

  pub all-came : report.hits + report.reads + report.absent ≡ length (needed h ask)
  all-came = omega (arith, did.hits, did.all, many_flat)

  pub is-held : IsHeld h ask held_before held_after report
  is-held = record { fetched = did.fetched; each = did.each; all = did.sum ∙ sym did.all; held = did.held }

  pub is-done : (board : List Post) → (tells ≡ true → IfSome kept_before (λ hall. hall.board ≡ board)) → IsNewestOf board ask.time number post → report.post ≡ number → tells ≡ true →
      IfSome kept_before (λ hall. IsDone h ask hall kept_after held_before held_after report)
  is-done board boards newest same said = each kept_before (boards said) (did.told said)
    where
      stored_is : (hall left : HallValue) → AreRounds post number (rounds h ask) hall left did.missing (sum_by holds_by did.fetched) → (o : Option (List (List (List ℕ)))) → post.stored ≡ o → IfSome o (λ t. left ≡ after_answer h ask number t hall)
      stored_is hall left are None is = tt
      stored_is hall left are (Some t) is = rounds-stored post number t is (rounds h ask) hall left did.missing (sum_by holds_by did.fetched) are

      each : (o : Option HallValue) → IfSome o (λ hall. hall.board ≡ board) → IfSome o (λ hall. (left : HallValue) × (kept_after ≡ Some left) × AreRounds post number (rounds h ask) hall left did.missing (sum_by holds_by did.fetched)) →
          IfSome o (λ hall. IsDone h ask hall kept_after held_before held_after report)
      each None on told = tt
      each (Some hall) on told = record {
        post = post;
        is = subst (λ n. IsNewestOf hall.board ask.time n post) (sym same) (subst (λ (b : List Post). IsNewestOf b ask.time number post) (sym on) newest);
        missing = did.missing;
        holds = sum_by holds_by did.fetched;
        left = told.0;
        made = subst (λ n. AreRounds post n (rounds h ask) hall told.0 did.missing (sum_by holds_by did.fetched)) (sym same) told.2;
        hits = did.hits ∙ ap (λ (ks : List Key). length ks) (rounds-joined h ask);
        absent = did.absent;
        hall = told.1;
        stored = subst (λ n. IfSome post.stored (λ t. told.0 ≡ after_answer h ask n t hall)) (sym same) (stored_is hall told.0 told.2 post.stored refl);
        held = did.held;
      }

-- ---- a round that is refused

-- a round's keys
pub round-keys : (h : HeaderValue) (ask : Ask) (k : ℕ) → k < length (rounds h ask) → slice_get (rounds h ask) k ≡ Some (cut_at (width_for h ask.field) (needed_keys h ask) k)
round-keys h ask k within =
    let many : length (rounds h ask) ≡ cut_count (width_for h ask.field) (length (needed_keys h ask)) = length-map-range_with_len (cut_at (width_for h ask.field) (needed_keys h ask)) 0 (cut_count (width_for h ask.field) (length (needed_keys h ask))) in
    slice_get-get_or (rounds h ask) k [] within
    ∙ ap Some (get_or-map-range_with_len (cut_at (width_for h ask.field) (needed_keys h ask)) 0 (cut_count (width_for h ask.field) (length (needed_keys h ask))) k k [] (omega (arith, within, many)) (omega arith))

-- the rounds before
pub rounds-before : (h : HeaderValue) (ask : Ask) (k : ℕ) → k ≤ cut_count (width_for h ask.field) (length (needed_keys h ask)) →
    take k (rounds h ask) ≡ map (cut_at (width_for h ask.field) (needed_keys h ask)) (range_with_len 0 k)
rounds-before h ask k within = take-map-range_with_len (cut_at (width_for h ask.field) (needed_keys h ask)) 0 (cut_count (width_for h ask.field) (length (needed_keys h ask))) k within

few_from : (a : ℕ) (fetched : List ℕ) → fold (λ s n. s + holds_by n) a fetched ≤ a + 2 * length fetched
few_from a [] = omega arith
few_from a (zero ∷ fetched) = let later = few_from (a + 1) fetched in omega (arith, later)
few_from a (suc n ∷ fetched) = let later = few_from (a + 2) fetched in omega (arith, later)

-- the hall is held twice in a round, at most
pub few-held : (fetched : List ℕ) → sum_by holds_by fetched ≤ 2 * length fetched
few-held fetched = let all = few_from 0 fetched in omega (arith, all)

module _ (h : HeaderValue) (ask : Ask) (plan : PlanValue) (k : ℕ) (within : k < length (rounds h ask)) (keys : List Key) (at : slice_get (rounds h ask) k ≡ Some keys) (post : Post) (number : ℕ) (tells : Bool)
    (kept_before kept_between kept_after : Option HallValue) (held_before held_between held_after reads_before reads_between : ℕ) (report : Report) (out : List ℕ)
    (did : DidRounds ask plan (take k (rounds h ask)) post number tells kept_before kept_between held_before held_between reads_before reads_between report out)
    (posts board : List Post) (newest : IsNewestOf board ask.time number post) where
  abbrev held_so_far : ℕ
  held_so_far = sum_by holds_by did.fetched

  -- the look alone was made
  looked_at : tells ≡ true → IfSome kept_before (λ hall. hall.board ≡ board) → LeftLook number keys posts tells kept_between kept_after held_between held_after →
      IfSome kept_before (λ hall. IsLeft h ask hall kept_after held_before held_after (faults.StoreFault 0))
  looked_at said boards look = each kept_before boards (did.told said)
    where
      each : (o : Option HallValue) → IfSome o (λ hall. hall.board ≡ board) → IfSome o (λ hall. (left : HallValue) × (kept_between ≡ Some left) × AreRounds post number (take k (rounds h ask)) hall left did.missing held_so_far) →
          IfSome o (λ hall. IsLeft h ask hall kept_after held_before held_after (faults.StoreFault 0))
      each None on told = tt
      each (Some hall) on told = record {
        number = number;
        post = post;
        is = subst (λ (b : List Post). IsNewestOf b ask.time number post) (sym on) newest;
        made = k;
        within = within;
        missing = did.missing;
        holds = held_so_far;
        left = told.0;
        rounds = told.2;
        and_then = (
          keys,
          at,
          (subst (λ o. IfSome o (λ h. (h.board ≡ posts) × (kept_after ≡ Some (after_look number keys h)))) told.1 (look.0 said)).1,
          counts-add (2 ^ 64) held_before held_between held_after held_so_far 1 did.held look.1,
        );
      }

  stopped_at : tells ≡ true → IfSome kept_before (λ hall. hall.board ≡ board) → (tells ≡ true → kept_after ≡ kept_between) → MadeHolds held_between held_after 0 ⊎ MadeHolds held_between held_after 1 →
      IfSome kept_before (λ hall. IsLeft h ask hall kept_after held_before held_after faults.NoMemory)
  stopped_at said boards same holds = each kept_before boards (did.told said)
    where
      counted : MadeHolds held_between held_after 0 ⊎ MadeHolds held_between held_after 1 → MadeHolds held_before held_after held_so_far ⊎ MadeHolds held_before held_after (held_so_far + 1)
      counted (inl none) =
          let no_more : held_so_far + 0 ≡ held_so_far = omega arith in
          inl (subst (MadeHolds held_before held_after) no_more (counts-add (2 ^ 64) held_before held_between held_after held_so_far 0 did.held none))
      counted (inr one) = inr (counts-add (2 ^ 64) held_before held_between held_after held_so_far 1 did.held one)

      each : (o : Option HallValue) → IfSome o (λ hall. hall.board ≡ board) → IfSome o (λ hall. (left : HallValue) × (kept_between ≡ Some left) × AreRounds post number (take k (rounds h ask)) hall left did.missing held_so_far) →
          IfSome o (λ hall. IsLeft h ask hall kept_after held_before held_after faults.NoMemory)
      each None on told = tt
      each (Some hall) on told = inr (inl (record {
        number = number;
        post = post;
        is = subst (λ (b : List Post). IsNewestOf b ask.time number post) (sym on) newest;
        made = k;
        within = within;
        missing = did.missing;
        holds = held_so_far;
        left = told.0;
        rounds = told.2;
        and_then = (same said ∙ told.1, counted holds);
      }))

  as_memory : (o : Option HallValue) → IfSome o (λ hall. IsLeft h ask hall kept_after held_before held_after (faults.StoreFault 0)) → IfSome o (λ hall. IsLeft h ask hall kept_after held_before held_after faults.NoMemory)
  as_memory None look = tt
  as_memory (Some hall) look = inr (inr look)

  -- what a later round that is refused leaves
  pub round-left : (tells ≡ true → IfSome kept_before (λ hall. hall.board ≡ board)) → (fault : QueryFault) → RoundLeft number keys posts tells kept_between kept_after held_between held_after fault → tells ≡ true →
      IfSome kept_before (λ hall. IsLeft h ask hall kept_after held_before held_after fault)
  round-left boards (faults.StoreFault count) left said = looked_at said (boards said) left
  round-left boards faults.NoMemory (inl bare) said = stopped_at said (boards said) bare.0 bare.1
  round-left boards faults.NoMemory (inr look) said = as_memory kept_before (looked_at said (boards said) look)
  round-left boards (faults.NotPublished many) left said = absurd left
  round-left boards (faults.Plan fault) left said = absurd left

  one_more : (n : ℕ) → n ≤ 1 → MadeHolds held_between held_after n → (m : ℕ) × (m ≤ 2 * length (rounds h ask)) × MadeHolds held_before held_after m
  one_more n few made =
      let so_far : held_so_far ≤ 2 * length did.fetched = few-held did.fetched in
      let taken : length (take k (rounds h ask)) ≡ k = length-take-le k (rounds h ask) (omega (arith, within)) in
      (held_so_far + n, omega (arith, so_far, did.each, taken, within, few), counts-add (2 ^ 64) held_before held_between held_after held_so_far n did.held made)

  -- how often the hall was held
  pub round-held : (fault : QueryFault) → RoundLeft number keys posts tells kept_between kept_after held_between held_after fault → IsHeldAtFault h ask held_before held_after fault
  round-held (faults.StoreFault count) left = one_more 1 (omega arith) left.1
  round-held faults.NoMemory (inl bare) = elim bare.1 [
    | inl none ↦ one_more 0 (omega arith) none
    | inr one ↦ one_more 1 (omega arith) one
  ]
  round-held faults.NoMemory (inr look) = one_more 1 (omega arith) look.1
  round-held (faults.NotPublished many) left = absurd left
  round-held (faults.Plan fault) left = absurd left

-- ---- the first round

pub some-rounds : (h : HeaderValue) (ask : Ask) → 1 ≤ length (rounds h ask)
some-rounds h ask =
    let many : length (rounds h ask) ≡ cut_count (width_for h ask.field) (length (needed_keys h ask)) = length-map-range_with_len (cut_at (width_for h ask.field) (needed_keys h ask)) 0 (cut_count (width_for h ask.field) (length (needed_keys h ask))) in
    omega (arith, many)

module _ (h : HeaderValue) (ask : Ask) (keys : List Key) (at : slice_get (rounds h ask) 0 ≡ Some keys) (tells : Bool) (kept_before kept_after : Option HallValue) (held_before held_after : ℕ) (posts : List Post) where
  first_look : (number : ℕ) (post : Post) → IsNewestOf posts ask.time number post → LeftLook number keys posts tells kept_before kept_after held_before held_after → tells ≡ true →
      IfSome kept_before (λ hall. IsLeft h ask hall kept_after held_before held_after (faults.StoreFault 0))
  first_look number post newest look said = each kept_before (look.0 said)
    where
      each : (o : Option HallValue) → IfSome o (λ hall. (hall.board ≡ posts) × (kept_after ≡ Some (after_look number keys hall))) → IfSome o (λ hall. IsLeft h ask hall kept_after held_before held_after (faults.StoreFault 0))
      each None told = tt
      each (Some hall) told = record {
        number = number;
        post = post;
        is = subst (λ (b : List Post). IsNewestOf b ask.time number post) (sym told.0) newest;
        made = 0;
        within = some-rounds h ask;
        missing = [];
        holds = 0;
        left = hall;
        rounds = (refl, refl, refl);
        and_then = (keys, at, told.1, look.1);
      }

  bare : (o : Option HallValue) → kept_after ≡ o → MadeHolds held_before held_after 0 ⊎ MadeHolds held_before held_after 1 → IfSome o (λ hall. IsLeft h ask hall kept_after held_before held_after faults.NoMemory)
  bare None same holds = tt
  bare (Some hall) same holds = inl (same, holds)

  unpublished : (many : ℕ) (o : Option HallValue) → kept_after ≡ o → MadeHolds held_before held_after 1 → IfSome o (λ hall. IsLeft h ask hall kept_after held_before held_after (faults.NotPublished many))
  unpublished many None same holds = tt
  unpublished many (Some hall) same holds = (same, holds)

  first_memory : (o : Option HallValue) → IfSome o (λ hall. IsLeft h ask hall kept_after held_before held_after (faults.StoreFault 0)) → IfSome o (λ hall. IsLeft h ask hall kept_after held_before held_after faults.NoMemory)
  first_memory None look = tt
  first_memory (Some hall) look = inr (inr look)

  -- what the first round leaves where it is refused
  pub first-left : (fault : QueryFault) → FirstLeft ask.time keys posts tells kept_before kept_after held_before held_after fault → tells ≡ true →
      IfSome kept_before (λ hall. IsLeft h ask hall kept_after held_before held_after fault)
  first-left (faults.StoreFault count) left said = first_look left.0 left.1 left.2 left.3 said
  first-left faults.NoMemory (inl none) said = bare kept_before (none.0 said) none.1
  first-left faults.NoMemory (inr left) said = first_memory kept_before (first_look left.0 left.1 left.2 left.3 said)
  first-left (faults.NotPublished many) left said = unpublished many kept_before (left.0 said) left.1
  first-left (faults.Plan fault) left said = absurd left

  held_few : (n : ℕ) → n ≤ 1 → MadeHolds held_before held_after n → (m : ℕ) × (m ≤ 2 * length (rounds h ask)) × MadeHolds held_before held_after m
  held_few n few made = let some = some-rounds h ask in (n, omega (arith, some, few), made)

  pub first-held : (fault : QueryFault) → FirstLeft ask.time keys posts tells kept_before kept_after held_before held_after fault → IsHeldAtFault h ask held_before held_after fault
  first-held (faults.StoreFault count) left = held_few 1 (omega arith) left.3.1
  first-held faults.NoMemory (inl none) = elim none.1 [
    | inl zero_held ↦ held_few 0 (omega arith) zero_held
    | inr one ↦ held_few 1 (omega arith) one
  ]
  first-held faults.NoMemory (inr left) = held_few 1 (omega arith) left.3.1
  first-held (faults.NotPublished many) left = left.1
  first-held (faults.Plan fault) left = absurd left
