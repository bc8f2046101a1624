-- The rounds of an answer that were made so far.
use Rattle.std.proofs.Common.{◌≡◌, ℕ, zero, suc, ◌+◌, ◌-◌, ◌*◌, ◌%◌, ◌^◌, ◌<◌, ◌≤◌, inl, inr, Bool, true, List, [], ◌∷◌, ◌++◌, length, map, take, drop, refl, sym, ap, ◌∙◌, subst, zero-add, length-append, arith, Some, None, Option}
use Rattle.std.specs.Prelude.{IfSome, min, slice_get}
use Rattle.std.specs.List.{flat_map, range_with_len}
use Rattle.std.proofs.lemmas.Bool.{cases_lt}
use Rattle.std.proofs.lemmas.List.{length-drop, length-take, take_all}
use Rattle.std.proofs.lemmas.List.FromFn.{length-map-range_with_len, map-range_with_len_more, take-map-range_with_len}
use Rattle.std.proofs.Math.Seq.{take-append_seam}
use Rattle.idx_header.specs.Header.{HeaderValue}
use Rattle.idx_hall.specs.declared.key.Key.{Key}
use Rattle.idx_hall.specs.Posts.{IsNewestOf, IsPostOf, Post, bytes_at}
use Rattle.idx_hall.specs.Hall.{HallValue}
use Rattle.idx_turn.specs.Stands.{Begins}
use Rattle.idx_turn.proofs.BeginsLemmas.{begins_at, begins_more}
use Rattle.idx_plan.specs.Answer.{answer_of}
use Rattle.idx_plan.specs.Needed.{answer_bytes, needed_keys, plan_fault}
use Rattle.idx_plan.specs.Plan.{IsPlan, PlanValue}
use Rattle.idx_plan.specs.Rounds.{cut_at, cut_count, rounds, width_for}
use Rattle.idx_plan.specs.declared.ask.Ask.{Ask}
use Rattle.idx_plan.proofs.RoundLemmas.{joined-cut}
use Rattle.idx_query.specs.Answered.{IsAnswered}
use Rattle.idx_query.specs.Blocks.{IsPlanOf}
use Rattle.idx_query.specs.Reads.{ReadsAtMost}
use Rattle.idx_query.specs.Steps.{DidRound, DidRounds}
use Rattle.idx_query.specs.declared.report.Report.{Report}
use Rattle.idx_query.proofs.AnsweredLemmas.{all-came, answer-made, round-keys, some-rounds}
use Rattle.idx_query.proofs.RoundsLemmas.{counts-add, did-more, did-none}

-- The first so many rounds were made, out of the newest post of the time on a board that was taken.
pub record IsSoFar (ask : Ask) (plan : PlanValue) (width number : ℕ) (tells : Bool) (seen_before seen_now : List Post) (kept_before kept_now : Option HallValue)
    (held_before held_now reads_before reads_now : ℕ) (report : Report) (out : List ℕ) : Type 0 where
  pub board : List Post
  pub since : Begins seen_before board
  pub until : Begins board seen_now
  pub boards : tells ≡ true → IfSome kept_before (λ hall. hall.board ≡ board)
  pub post : Post
  pub newest : IsNewestOf board ask.time report.post post
  pub did : DidRounds ask plan (map (cut_at width plan.keys) (range_with_len 0 number)) post report.post tells kept_before kept_now held_before held_now reads_before reads_now report out

-- no more items are taken than there are
pub take-min : (width : ℕ) (keys : List Key) → take (min (length keys) width) keys ≡ take width keys
take-min width keys = elim (cases_lt (length keys) width) [
  | inl few ↦
      let less : min (length keys) width ≡ length keys = grind (arith, few) in
      ap (λ n. take n keys) less ∙ take_all (length keys) keys (omega arith) ∙ sym (take_all width keys (omega (arith, few)))
  | inr many ↦
      let less : min (length keys) width ≡ width = grind (arith, many) in
      ap (λ n. take n keys) less
]

-- the first keys are those of the first round
pub first-cut : (width many : ℕ) (keys : List Key) → many ≡ min (length keys) width → take many keys ≡ cut_at width keys 0
first-cut width many keys is =
    let none : 0 ≡ 0 * width = omega arith in
    ap (λ n. take n keys) is ∙ take-min width keys ∙ ap (λ n. take width (drop n keys)) none

-- the next keys are those of the next round
pub next-cut : (width number first many : ℕ) (keys : List Key) → first ≡ number * width → many ≡ min (length keys - first) width → take many (drop first keys) ≡ cut_at width keys number
next-cut width number first many keys start is =
    ap (λ n. take n (drop first keys)) (is ∙ ap (λ n. min n width) (sym (length-drop first keys))) ∙ take-min width (drop first keys) ∙ ap (λ n. take width (drop n keys)) start

-- the first round was made
pub so-far-first : (ask : Ask) (plan : PlanValue) (width : ℕ) (tells : Bool) (seen_before seen_now : List Post) (kept_before kept_now : Option HallValue) (held_before held_now reads_before reads_now : ℕ) (report : Report) (out_old out : List ℕ)
    (board : List Post) → Begins seen_before board → Begins board seen_now → (tells ≡ true → IfSome kept_before (λ hall. hall.board ≡ board)) → (post : Post) → IsNewestOf board ask.time report.post post → (keys : List Key) → keys ≡ cut_at width plan.keys 0 →
    DidRound ask plan keys post report.post tells kept_before kept_now held_before held_now reads_before reads_now report out_old out →
    IsSoFar ask plan width 1 tells seen_before seen_now kept_before kept_now held_before held_now reads_before reads_now report out
so-far-first ask plan width tells seen_before seen_now kept_before kept_now held_before held_now reads_before reads_now report out_old out board since until boards post newest keys are did = record {
  board = board;
  since = since;
  until = until;
  boards = boards;
  post = post;
  newest = newest;
  did = did-more ask plan [] (cut_at width plan.keys 0) post report.post tells kept_before kept_before kept_now held_before held_before held_now reads_before reads_before reads_now none report report out_old out
      (did-none ask plan post report.post tells kept_before held_before reads_before none out_old refl)
      (subst (λ ks. DidRound ask plan ks post report.post tells kept_before kept_now held_before held_now reads_before reads_now report out_old out) are did)
      (λ i. record { post = report.post; hits = sym (zero-add report.hits) i; reads = sym (zero-add report.reads) i; absent = sym (zero-add report.absent) i });
}
  where
    none : Report
    none = record { post = report.post; hits = 0; reads = 0; absent = 0 }

module _ (ask : Ask) (plan : PlanValue) (width number : ℕ) (tells : Bool) (seen_before seen_between : List Post) (kept_before kept_between : Option HallValue)
    (held_before held_between reads_before reads_between : ℕ) (report : Report) (out_old : List ℕ)
    (so_far : IsSoFar ask plan width number tells seen_before seen_between kept_before kept_between held_before held_between reads_before reads_between report out_old) where
  -- the post stands where it stood
  pub post-stands : slice_get seen_between report.post ≡ Some so_far.post
  post-stands = begins_at report.post so_far.post so_far.newest.at so_far.until

  -- and is of the time
  pub still-there : (post : Post) × IsPostOf seen_between ask.time report.post post
  still-there = (so_far.post, record { at = post-stands; time = so_far.newest.time })

  -- one round more
  pub so-far-more : (seen_after : List Post) (kept_after : Option HallValue) (held_after reads_after : ℕ) (one both : Report) (out : List ℕ) (keys : List Key) → Begins seen_between seen_after → keys ≡ cut_at width plan.keys number →
      DidRound ask plan keys so_far.post report.post tells kept_between kept_after held_between held_after reads_between reads_after one out_old out →
      both ≡ record { post = report.post; hits = report.hits + one.hits; reads = report.reads + one.reads; absent = report.absent + one.absent } →
      IsSoFar ask plan width (number + 1) tells seen_before seen_after kept_before kept_after held_before held_after reads_before reads_after both out
  so-far-more seen_after kept_after held_after reads_after one both out keys later are did sum = record {
    board = so_far.board;
    since = so_far.since;
    until = begins_more so_far.until later;
    boards = so_far.boards;
    post = so_far.post;
    newest = subst (λ n. IsNewestOf so_far.board ask.time n so_far.post) (sym same) so_far.newest;
    did = subst (λ n. DidRounds ask plan (map (cut_at width plan.keys) (range_with_len 0 (number + 1))) so_far.post n tells kept_before kept_after held_before held_after reads_before reads_after both out) (sym same)
        (subst (λ rs. DidRounds ask plan rs so_far.post report.post tells kept_before kept_after held_before held_after reads_before reads_after both out)
        (sym (map-range_with_len_more (cut_at width plan.keys) 0 number number (omega arith)))
        (did-more ask plan (map (cut_at width plan.keys) (range_with_len 0 number)) (cut_at width plan.keys number) so_far.post report.post tells kept_before kept_between kept_after held_before held_between held_after
        reads_before reads_between reads_after report one both out_old out so_far.did
        (subst (λ ks. DidRound ask plan ks so_far.post report.post tells kept_between kept_after held_between held_after reads_between reads_after one out_old out) are did) sum));
  }
    where
      same : both.post ≡ report.post
      same = ap (λ (r : Report). r.post) sum

  many_flat : length (flat_map (λ (ks : List Key). ks) (map (cut_at width plan.keys) (range_with_len 0 number))) ≡ min (number * width) (length plan.keys)
  many_flat = ap (λ (ks : List Key). length ks) (joined-cut width plan.keys number) ∙ length-take (number * width) plan.keys

  -- no more blocks came than there are keys
  pub few-hits : report.hits ≤ length plan.keys
  few-hits = grind (arith, so_far.did.hits, many_flat)

  pub few-reads : report.reads ≤ length plan.keys
  few-reads = grind (arith, so_far.did.hits, so_far.did.all, many_flat)

  pub few-absent : report.absent ≤ length plan.keys
  few-absent = grind (arith, so_far.did.hits, so_far.did.all, many_flat)

  -- and in so many rounds no more than these have
  reads_so_far : report.reads ≤ number * width
  reads_so_far = grind (arith, so_far.did.hits, so_far.did.all, many_flat)

  pub reads-till : (first many after : ℕ) → first ≡ number * width → many ≤ length plan.keys - first → first ≤ length plan.keys → ReadsAtMost reads_between after many → ReadsAtMost reads_before after (length plan.keys)
  reads-till first many after start rest within more = record {
    reads = report.reads + more.reads;
    few = omega (arith, reads_so_far, more.few, rest, within, start);
    made = counts-add (2 ^ 64) reads_before reads_between after report.reads more.reads so_far.did.reads more.made;
  }

-- all rounds are those of the question
pub all-rounds : (h : HeaderValue) (ask : Ask) (plan : PlanValue) (width number : ℕ) → IsPlanOf h ask plan → width ≡ width_for h ask.field → number ≡ cut_count width (length plan.keys) →
    map (cut_at width plan.keys) (range_with_len 0 number) ≡ rounds h ask
all-rounds h ask plan width number of wide count =
    ap (λ n. map (cut_at width plan.keys) (range_with_len 0 n)) count
    ∙ ap (λ w. map (cut_at w plan.keys) (range_with_len 0 (cut_count w (length plan.keys)))) wide
    ∙ ap (λ (ks : List Key). map (cut_at (width_for h ask.field) ks) (range_with_len 0 (cut_count (width_for h ask.field) (length ks)))) of.keys

-- the keys of the first round, and of a later one
pub first-at : (h : HeaderValue) (ask : Ask) (plan : PlanValue) (width many : ℕ) → IsPlanOf h ask plan → width ≡ width_for h ask.field → many ≡ min (length plan.keys) width → slice_get (rounds h ask) 0 ≡ Some (take many plan.keys)
first-at h ask plan width many of wide is =
    round-keys h ask 0 (some-rounds h ask)
    ∙ ap Some (sym (first-cut width many plan.keys is ∙ ap (λ w. cut_at w plan.keys 0) wide ∙ ap (λ (ks : List Key). cut_at (width_for h ask.field) ks 0) of.keys))

pub next-at : (h : HeaderValue) (ask : Ask) (plan : PlanValue) (width number first many : ℕ) → IsPlanOf h ask plan → width ≡ width_for h ask.field → number < length (rounds h ask) → first ≡ number * width → many ≡ min (length plan.keys - first) width →
    slice_get (rounds h ask) number ≡ Some (take many (drop first plan.keys))
next-at h ask plan width number first many of wide within start is =
    round-keys h ask number within
    ∙ ap Some (sym (next-cut width number first many plan.keys start is ∙ ap (λ w. cut_at w plan.keys number) wide ∙ ap (λ (ks : List Key). cut_at (width_for h ask.field) ks number) of.keys))

-- how many rounds there are
pub many-rounds : (h : HeaderValue) (ask : Ask) (plan : PlanValue) (width number : ℕ) → IsPlanOf h ask plan → width ≡ width_for h ask.field → number ≡ cut_count width (length plan.keys) → length (rounds h ask) ≡ number
many-rounds h ask plan width number of wide count =
    ap length (sym (all-rounds h ask plan width number of wide count)) ∙ length-map-range_with_len (cut_at width plan.keys) 0 number

-- the rounds before a later one
pub taken-rounds : (h : HeaderValue) (ask : Ask) (plan : PlanValue) (width number k : ℕ) → IsPlanOf h ask plan → width ≡ width_for h ask.field → number ≡ cut_count width (length plan.keys) → k ≤ number →
    map (cut_at width plan.keys) (range_with_len 0 k) ≡ take k (rounds h ask)
taken-rounds h ask plan width number k of wide count within =
    sym (ap (take k) (sym (all-rounds h ask plan width number of wide count)) ∙ take-map-range_with_len (cut_at width plan.keys) 0 number k within)

-- what is said of an answer that is alone
pub seen-answered : (h : HeaderValue) (ask : Ask) (plan : PlanValue) (width number : ℕ) (tells : Bool) (seen_before seen_now : List Post) (kept_before kept_now : Option HallValue) (held_before held_now reads_before reads_now : ℕ) (report : Report) (out : List ℕ) →
    IsPlanOf h ask plan → IsPlan plan → plan_fault h ask ≡ None → ask.field < length h.fields → length ask.region ≡ length h.box → width ≡ width_for h ask.field → number ≡ cut_count width (length plan.keys) → length out ≡ plan.bytes →
    IsSoFar ask plan width number tells seen_before seen_now kept_before kept_now held_before held_now reads_before reads_now report out → IsAnswered h ask seen_before seen_now [] out report
seen-answered h ask plan width number tells seen_before seen_now kept_before kept_now held_before held_now reads_before reads_now report out of valid sound field axes wide count room so_far = record {
  board = so_far.board;
  since = so_far.since;
  until = so_far.until;
  post = so_far.post;
  is = so_far.newest;
  answer = answer-made h ask plan of so_far.post report.post tells kept_before kept_now held_before held_now reads_before reads_now report out did field axes sound valid room;
  front = refl;
  many = let whole : length out ≡ answer_bytes h ask = room ∙ of.bytes in omega (arith, whole);
  all = all-came h ask plan of so_far.post report.post tells kept_before kept_now held_before held_now reads_before reads_now report out did;
}
  where
    did : DidRounds ask plan (rounds h ask) so_far.post report.post tells kept_before kept_now held_before held_now reads_before reads_now report out
    did = subst (λ rs. DidRounds ask plan rs so_far.post report.post tells kept_before kept_now held_before held_now reads_before reads_now report out) (all-rounds h ask plan width number of wide count) so_far.did

pub seen-did : (h : HeaderValue) (ask : Ask) (plan : PlanValue) (width number : ℕ) (tells : Bool) (seen_before seen_now : List Post) (kept_before kept_now : Option HallValue) (held_before held_now reads_before reads_now : ℕ) (report : Report) (out : List ℕ) →
    IsPlanOf h ask plan → width ≡ width_for h ask.field → number ≡ cut_count width (length plan.keys) → (so_far : IsSoFar ask plan width number tells seen_before seen_now kept_before kept_now held_before held_now reads_before reads_now report out) →
    DidRounds ask plan (rounds h ask) so_far.post report.post tells kept_before kept_now held_before held_now reads_before reads_now report out
seen-did h ask plan width number tells seen_before seen_now kept_before kept_now held_before held_now reads_before reads_now report out of wide count so_far =
    subst (λ rs. DidRounds ask plan rs so_far.post report.post tells kept_before kept_now held_before held_now reads_before reads_now report out) (all-rounds h ask plan width number of wide count) so_far.did

-- an answer alone, and what it is behind what was there
pub answered-behind : (h : HeaderValue) (ask : Ask) (seen_before seen_now : List Post) (before after out : List ℕ) (report : Report) → after ≡ before ++ out → IsAnswered h ask seen_before seen_now [] out report → IsAnswered h ask seen_before seen_now before after report
answered-behind h ask seen_before seen_now before after out report is alone = record {
  board = alone.board;
  since = alone.since;
  until = alone.until;
  post = alone.post;
  is = alone.is;
  answer = by_stored alone.post.stored alone.answer;
  front = ap (take (length before)) is ∙ take-append_seam before out;
  many = let alone_many : length out ≡ answer_bytes h ask = omega (arith, alone.many) in ap length is ∙ length-append before out ∙ ap (λ n. length before + n) alone_many;
  all = alone.all;
}
  where
    by_stored : (o : Option (List (List (List ℕ)))) → IfSome o (λ t. out ≡ answer_of h ask (bytes_at t)) → IfSome o (λ t. after ≡ before ++ answer_of h ask (bytes_at t))
    by_stored None known = tt
    by_stored (Some t) known = is ∙ ap (λ (l : List ℕ). before ++ l) known
