-- The questions of a drill in a run: what each reads, and what it leaves in the hall.
use Rattle.std.proofs.Common.{◌≡◌, ℕ, zero, suc, ◌+◌, ◌-◌, ◌^◌, ◌<◌, ◌≤◌, Bool, true, false, cond, not, List, [], ◌∷◌, ◌++◌, length, map, get_or, Option, Some, None, refl, sym, ap, ◌∙◌, subst, ⊎_elim, zero-add, arith, length-append}
use Rattle.std.specs.Prelude.{IfSome, IsSomeAnd, filter, slice_get}
use Rattle.std.specs.List.{AllByRecursion, range_with_len}
use Rattle.std.proofs.Math.Pow.{pow_mono}
use Rattle.std.proofs.lemmas.Bool.{cases_lt}
use Rattle.std.proofs.lemmas.List.{append-nil, length-map, map-append}
use Rattle.std.proofs.lemmas.List.FromFn.{get_or-map-range_with_len, length-map-range_with_len, length-range_with_len}
use Rattle.idx_header.specs.Header.{HeaderValue, block_count}
use Rattle.idx_layout.proofs.HeaderLemmas.{sum-more}
use Rattle.idx_layout.proofs.ListLemmas.{range_with_len-more}
use Rattle.idx_hall.specs.Hall.{HallValue, after_fill, after_look, name_eq, named_pairs, with_pairs}
use Rattle.idx_cache.specs.Cached.{put_all}
use Rattle.idx_hall.specs.Posts.{Lacks, Post, bytes_at, has_at, is_newest}
use Rattle.idx_hall.specs.declared.key.Key.{Key}
use Rattle.idx_turn.specs.Stands.{Begins}
use Rattle.idx_plan.specs.Answer.{answer_of}
use Rattle.idx_plan.specs.Needed.{needed}
use Rattle.idx_plan.specs.declared.ask.Ask.{Ask}
use Rattle.idx_plan.specs.declared.plan_fault.PlanFault.{PlanFault}
use Rattle.idx_query.specs.Answered.{IsAnswered, IsDone}
use Rattle.idx_query.specs.Blocks.{blocks_of, lacking}
use Rattle.idx_query.specs.Fault.{IsCaused}
use Rattle.idx_query.specs.Rounds.{AreRounds, IsRound, missed_in}
use Rattle.idx_query.specs.declared.query_fault.QueryFault.{QueryFault}
use Rattle.idx_query.specs.declared.query_fault.QueryFault.TheVariants.{NotPublished, Plan}
use Rattle.idx_query.specs.declared.report.Report.{Report}
use Rattle.idx_drill_model.specs.Blocks.{blocks_at, blocks_below, drill_key, new_blocks}
use Rattle.idx_drill_model.specs.Drill.{drill_ask, drill_asks, drill_bits, drill_box, drill_depth, drill_header}
use Rattle.idx_drill_model.proofs.CacheLemmas.{kept-round, missed-new}
use Rattle.idx_drill_model.proofs.RoundLemmas.{count-is, more-below, new-coarse, new-fine, one-round, sum-below}
use Rattle.idx_drill_model.proofs.TakenLemmas.{can-ask}
use Rattle.idx_drill.specs.Drilled.{drill_answer}
use Rattle.idx_drill.specs.Runs.{IsAskedBelow, answers_below, reads_below}

-- ---- the questions, and what the first ones answer and read

more : {A : Type 0} (f : ℕ → A) (l : ℕ) → map f (range_with_len 0 (l + 1)) ≡ map f (range_with_len 0 l) ++ f l ∷ []
more f l =
    let same : 0 + l ≡ l = omega arith in
    ap (map f) (range_with_len-more 0 l) ∙ map-append f (range_with_len 0 l) ((0 + l) ∷ []) ∙ ap (λ k. map f (range_with_len 0 l) ++ f k ∷ []) same

pub asks-next : (n l : ℕ) (asks : List Ask) (box : List (ℕ × ℕ)) → asks ≡ map (drill_ask n) (range_with_len 0 l) → box ≡ drill_box n →
    asks ++ record { time = 0; field = 0; region = box; lo = l; hi = l } ∷ [] ≡ map (drill_ask n) (range_with_len 0 (l + 1))
asks-next n l asks box is same =
    ap (λ (b : List (ℕ × ℕ)). asks ++ record { time = 0; field = 0; region = b; lo = l; hi = l } ∷ []) same
    ∙ ap (λ (xs : List Ask). xs ++ drill_ask n l ∷ []) is ∙ sym (more (drill_ask n) l)

pub answers-more : (n l : ℕ) → answers_below n (l + 1) ≡ answers_below n l ++ drill_answer n l ∷ []
answers-more n l = more (drill_answer n) l

pub reads-more : (n l : ℕ) → reads_below n (l + 1) ≡ reads_below n l + length (new_blocks n l)
reads-more n l = sum-more (λ k. length (new_blocks n k)) l

blocks-few : (n l : ℕ) → n ≤ 8 → l ≤ drill_depth n + 1 → blocks_below n l ≤ 4096
blocks-few n zero small deepest = omega arith
blocks-few n (suc l) small deepest =
    let exponent : l - drill_bits n ≤ 12 = omega arith in
    let power : 2 ^ (l - drill_bits n) ≤ 2 ^ 12 = pow_mono exponent in
    omega (arith, power)

pub reads-few : (n l : ℕ) → n ≤ 8 → l ≤ drill_depth n + 1 → reads_below n l ≤ 4096
reads-few n l small deepest = omega (arith, sum-below n l, blocks-few n l small deepest)

pub ask-count : (n : ℕ) → length (drill_asks n) ≡ drill_depth n + 1
ask-count n = length-map-range_with_len (drill_ask n) 0 (drill_depth n + 1)

pub ask-at : (n l : ℕ) (other : Ask) → l < drill_depth n + 1 → get_or (drill_asks n) l other ≡ drill_ask n l
ask-at n l other within = get_or-map-range_with_len (drill_ask n) 0 (drill_depth n + 1) l l other within (zero-add l)

-- ---- the new blocks of a level exist, and none is lacking

range-below : (limit a m : ℕ) → a + m ≤ limit → AllByRecursion (λ block. block < limit) (range_with_len a m)
range-below limit a zero to = tt
range-below limit a (suc m) to = (omega arith, range-below limit (a + 1) m (omega arith))

below-count : (n l : ℕ) → l ≤ drill_depth n → blocks_below n (l + 1) ≤ block_count (drill_header n)
below-count n l deepest =
    let next : l + 1 ≡ suc l = omega arith in
    let fewer : l - drill_bits n ≤ drill_depth n - drill_bits n = omega arith in
    let power : 2 ^ (l - drill_bits n) ≤ 2 ^ (drill_depth n - drill_bits n) = pow_mono fewer in
    omega (arith, ap (blocks_below n) next, power, count-is n)

new-exist : (n l : ℕ) → l ≤ drill_depth n → AllByRecursion (λ block. block < block_count (drill_header n)) (new_blocks n l)
new-exist n zero deepest = (omega (arith, more-below n 0, below-count n 0 deepest), tt)
new-exist n (suc l) deepest = ⊎_elim
    (λ (fine : drill_bits n < suc l).
    let count = ap length (new-fine n l fine) ∙ length-range_with_len (blocks_below n (suc l)) (blocks_below n (suc l)) in
    subst (λ (bs : List ℕ). AllByRecursion (λ block. block < block_count (drill_header n)) bs) (sym (new-fine n l fine))
    (range-below (block_count (drill_header n)) (blocks_below n (suc l)) (blocks_below n (suc l)) (omega (arith, count, more-below n (suc l), below-count n (suc l) deepest))))
    (λ (coarse : suc l ≤ drill_bits n). subst (λ (bs : List ℕ). AllByRecursion (λ block. block < block_count (drill_header n)) bs) (sym (new-coarse n l coarse)) tt)
    (cases_lt (drill_bits n) (suc l))

none-lacking : (has : ℕ → Bool) (limit : ℕ) (blocks : List ℕ) → ((block : ℕ) → block < limit → has block ≡ true) → AllByRecursion (λ block. block < limit) blocks → lacking has blocks ≡ 0
none-lacking has limit [] all exist = refl
none-lacking has limit (block ∷ blocks) all exist =
    ap (λ b. length (cond (not b) (block ∷ filter (λ k. not (has k)) blocks) (filter (λ k. not (has k)) blocks))) (all block exist.0)
    ∙ none-lacking has limit blocks all exist.1

same-blocks : (blocks : List ℕ) → blocks_of (map drill_key blocks) ≡ blocks
same-blocks [] = refl
same-blocks (block ∷ blocks) = ap (λ bs. block ∷ bs) (same-blocks blocks)

-- ---- the hall

pub opened : (P : HallValue → Type 0) (o : Option HallValue) → IsSomeAnd o P → (h : HallValue) × (o ≡ Some h) × P h
opened P None is = absurd is
opened P (Some h) is = (h, refl, is)

only-post : (p q : Post) (board : List Post) (k : ℕ) → board ≡ p ∷ [] → slice_get board k ≡ Some q → (k ≡ 0) × (q ≡ p)
only-post p q board k only at = by_place k (subst (λ (b : List Post). slice_get b k ≡ Some q) only at)
  where
    by_place : (k : ℕ) → slice_get (p ∷ []) k ≡ Some q → (k ≡ 0) × (q ≡ p)
    by_place zero at = (refl, cc)
    by_place (suc k) at = let wrong : ◌≡◌ {A = Option Post} None (Some q) = at in absurd (cc)

fill-keeps : (number : ℕ) (pairs : List (Key × List ℕ)) (h : HallValue) → ((after_fill number pairs h).shape ≡ h.shape) × ((after_fill number pairs h).board ≡ h.board)
fill-keeps number pairs h = by_test (is_newest h.board number)
  where
    filled : HallValue
    filled = with_pairs h (put_all name_eq h.cache.cap (named_pairs number pairs) h.cache.pairs)

    by_test : (b : Bool) → ((cond b filled h).shape ≡ h.shape) × ((cond b filled h).board ≡ h.board)
    by_test true = (refl, refl)
    by_test false = (refl, refl)

pub at-drill : (P : HeaderValue → Ask → Type 0) (n l : ℕ) (h : HeaderValue) (ask : Ask) → h ≡ drill_header n → ask ≡ drill_ask n l → P h ask → P (drill_header n) (drill_ask n l)
at-drill P n l h ask header asked is = subst (λ x. P (drill_header n) x) asked (subst (λ x. P x ask) header is)

-- a list that a list of one begins, and that begins that list, is that list
alone : (p : Post) (seen before after : List Post) → before ≡ p ∷ [] → after ≡ before → Begins before seen → Begins seen after → seen ≡ p ∷ []
alone p seen before after only same since until =
    let none : length since.rest ≡ 0 =
    omega (arith, ap length since.is, ap length until.is, ap length same, length-append before since.rest, length-append seen until.rest) in
    since.is ∙ ap (λ (xs : List Post). before ++ xs) (is-empty since.rest none) ∙ ap (λ (xs : List Post). xs ++ []) only
  where
    is-empty : (xs : List Post) → length xs ≡ 0 → xs ≡ []
    is-empty [] none = refl
    is-empty (x ∷ xs) none = absurd (omega (arith, none))

-- ---- the question of a level

module _ (n l : ℕ) (few : n ≤ 8) (within : l ≤ drill_depth n) (before : HallValue) (asked : IsAskedBelow n l before) where
  -- it has a plan, and its post is there
  pub no-plan-fault : (h : HeaderValue) (ask : Ask) (seen : List Post) (faults_before faults_after : ℕ) (refusal : QueryFault) (fault : PlanFault) → h ≡ drill_header n → ask ≡ drill_ask n l →
      refusal ≡ Plan fault → IsCaused h ask seen faults_before faults_after refusal → ⊥
  no-plan-fault h ask seen faults_before faults_after refusal fault header same is caused =
      let own : IsCaused (drill_header n) (drill_ask n l) seen faults_before faults_after refusal = at-drill (λ x y. IsCaused x y seen faults_before faults_after refusal) n l h ask header same caused in
      let some : ◌≡◌ {A = Option PlanFault} (Some fault) None = sym (subst (IsCaused (drill_header n) (drill_ask n l) seen faults_before faults_after) is own).0 ∙ (can-ask n l few within).plan in
      cc

  lacks-none : (seen : List Post) → seen ≡ before.board → Lacks 0 seen → ⊥
  lacks-none seen same lacks =
      let one = asked.cache.board in
      let all : Lacks 0 (one.post ∷ []) = subst (Lacks 0) (same ∙ one.only) lacks in
      all 0 one.post (omega arith) one.time

  pub no-lack : (h : HeaderValue) (ask : Ask) (seen_before seen_after : List Post) (faults_before faults_after : ℕ) (refusal : QueryFault) (board : ℕ) → h ≡ drill_header n → ask ≡ drill_ask n l →
      seen_before ≡ before.board → seen_after ≡ seen_before → refusal ≡ NotPublished board → IsCaused h ask seen_after faults_before faults_after refusal → ⊥
  no-lack h ask seen_before seen_after faults_before faults_after refusal board header same seen still is caused =
      let own : IsCaused (drill_header n) (drill_ask n l) seen_after faults_before faults_after refusal = at-drill (λ x y. IsCaused x y seen_after faults_before faults_after refusal) n l h ask header same caused in
      lacks-none seen_after (still ∙ seen) (subst (IsCaused (drill_header n) (drill_ask n l) seen_after faults_before faults_after) is own).1

  -- its answer is that of the volume
  pub answer-is : (h : HeaderValue) (ask : Ask) (seen_before seen_after : List Post) (start out : List ℕ) (report : Report) → h ≡ drill_header n → ask ≡ drill_ask n l → seen_before ≡ before.board → seen_after ≡ seen_before → start ≡ [] →
      IsAnswered h ask seen_before seen_after start out report → out ≡ drill_answer n l
  answer-is h ask seen_before seen_after start out report header same seen still empty is =
      let answered : IsAnswered (drill_header n) (drill_ask n l) seen_before seen_after [] out report =
      subst (λ (bs : List ℕ). IsAnswered (drill_header n) (drill_ask n l) seen_before seen_after bs out report) empty
      (at-drill (λ x y. IsAnswered x y seen_before seen_after start out report) n l h ask header same is) in
      let board : answered.board ≡ asked.post ∷ [] = alone asked.post answered.board seen_before seen_after (seen ∙ asked.board) still answered.since answered.until in
      let post : answered.post ≡ asked.post = (only-post asked.post answered.post answered.board report.post board answered.is.at).1 in
      subst (λ o. IfSome o (λ stored. out ≡ answer_of (drill_header n) (drill_ask n l) (bytes_at stored))) (ap (λ (p : Post). p.stored) post ∙ asked.is.told) answered.answer
      ∙ asked.is.answers (drill_ask n l) (can-ask n l few within)

  module _ (kept : Option HallValue) (held_before held_after : ℕ) (report : Report) (done : IsDone (drill_header n) (drill_ask n l) before kept held_before held_after report) where
    of-post : (report.post ≡ 0) × (done.post ≡ asked.post)
    of-post = only-post asked.post done.post before.board report.post asked.board done.is.at

    made : AreRounds done.post 0 (map drill_key (blocks_at n l) ∷ []) before done.left done.missing done.holds
    made = subst (λ k. AreRounds done.post k (map drill_key (blocks_at n l) ∷ []) before done.left done.missing done.holds) of-post.0
        (subst (λ (rs : List (List Key)). AreRounds done.post report.post rs before done.left done.missing done.holds) (one-round n l few within) done.made)

    round : IsRound done.post 0 (map drill_key (blocks_at n l)) before done.left
    round = subst (IsRound done.post 0 (map drill_key (blocks_at n l)) before) (sym made.6.0) made.3

    missing-is : done.missing ≡ map drill_key (new_blocks n l)
    missing-is =
        made.4 ∙ ap (λ (ks : List Key). missed_in 0 (map drill_key (blocks_at n l)) before ++ ks) made.6.1
        ∙ append-nil (missed_in 0 (map drill_key (blocks_at n l)) before) ∙ missed-new n l before asked.cache

    many : length done.missing ≡ length (new_blocks n l)
    many = ap (λ (ks : List Key). length ks) missing-is ∙ length-map (new_blocks n l) drill_key

    none-absent : report.absent ≡ 0
    none-absent =
        done.absent
        ∙ ap (λ (p : Post). lacking (has_at p 0) (blocks_of done.missing)) of-post.1
        ∙ ap (λ (ks : List Key). lacking (has_at asked.post 0) (blocks_of ks)) missing-is
        ∙ ap (lacking (has_at asked.post 0)) (same-blocks (new_blocks n l))
        ∙ none-lacking (has_at asked.post 0) (block_count (drill_header n)) (new_blocks n l) asked.is.has (new-exist n l within)

    -- it reads exactly its new blocks
    reads-are : report.hits + report.reads + report.absent ≡ length (needed (drill_header n) (drill_ask n l)) → report.reads ≡ length (new_blocks n l)
    reads-are all =
        omega (arith, all, done.hits, many, none-absent, length-map (needed (drill_header n) (drill_ask n l)) drill_key)

    left-keeps : (done.left.shape ≡ before.shape) × (done.left.board ≡ before.board)
    left-keeps =
        let fills = fill-keeps 0 round.pairs (after_look 0 (map drill_key (blocks_at n l)) before) in
        (ap (λ (h : HallValue). h.shape) round.leaves ∙ fills.0, ap (λ (h : HallValue). h.board) round.leaves ∙ fills.1)

    left-is : IsAskedBelow n (l + 1) done.left
    left-is = record {
      shape = left-keeps.0 ∙ asked.shape;
      cache = kept-round n l before asked.cache done.post done.left round;
      post = asked.post;
      board = left-keeps.1 ∙ asked.board;
      is = asked.is;
    }

  -- what it reads, and what it leaves
  pub reads-and-leaves : (h : HeaderValue) (ask : Ask) (told kept : Option HallValue) (held_before held_after : ℕ) (report : Report) → h ≡ drill_header n → ask ≡ drill_ask n l → told ≡ Some before →
      report.hits + report.reads + report.absent ≡ length (needed h ask) → IfSome told (λ hall. IsDone h ask hall kept held_before held_after report) →
      (report.reads ≡ length (new_blocks n l)) × IsSomeAnd kept (IsAskedBelow n (l + 1))
  reads-and-leaves h ask told kept held_before held_after report header same known all done =
      let made : IsDone h ask before kept held_before held_after report = subst (λ o. IfSome o (λ hall. IsDone h ask hall kept held_before held_after report)) known done in
      let own : IsDone (drill_header n) (drill_ask n l) before kept held_before held_after report = at-drill (λ x y. IsDone x y before kept held_before held_after report) n l h ask header same made in
      let count : report.hits + report.reads + report.absent ≡ length (needed (drill_header n) (drill_ask n l)) = at-drill (λ x y. report.hits + report.reads + report.absent ≡ length (needed x y)) n l h ask header same all in (
        reads-are kept held_before held_after report own count,
        subst (λ o. IsSomeAnd o (IsAskedBelow n (l + 1))) (sym own.hall) (left-is kept held_before held_after report own),
      )
