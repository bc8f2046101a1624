-- Rounds one after another.
use Rattle.std.proofs.Common.{◌≡◌, ◌≢◌, ◌⊎◌, inl, inr, ℕ, zero, suc, ◌+◌, ◌-◌, ◌*◌, ◌%◌, ◌^◌, ◌<◌, ◌≤◌, Bool, true, List, [], ◌∷◌, ◌++◌, length, map, take, drop, filter, refl, sym, ap, ◌∙◌, subst, arith, append_assoc, append-nil, length-append, zero-add, Some, None, Option}
use Rattle.std.specs.Prelude.{All, IfSome, not, slice_get, sum_by}
use Rattle.std.specs.List.{IsDistinct, flat_map}
use Rattle.std.proofs.lemmas.Grind.{flat_map-append}
use Rattle.std.proofs.lemmas.List.{length-drop, length-map, map-append}
use Rattle.std.proofs.lemmas.List.Elements.{All-weaker, filter-append}
use Rattle.std.proofs.lemmas.List.Sums.{sum_by-append}
use Rattle.std.proofs.lemmas.Option.{same_Some}
use Rattle.std.proofs.Math.Nat.{add-mod-mod}
use Rattle.std.proofs.Math.Seq.{drop-nil}
use Rattle.idx_outside.specs.Shape.{Shape}
use Rattle.idx_outside.specs.Cause.{MadeReads}
use Rattle.idx_hall.specs.declared.key.Key.{Key}
use Rattle.idx_hall.specs.Posts.{Post, bytes_at, has_at}
use Rattle.idx_hall.specs.Hall.{HallValue, IsBlockOf, after_fill, after_look, key_eq, named, noted}
use Rattle.idx_turn.specs.Stands.{MadeHolds}
use Rattle.idx_plan.specs.Plan.{PlanValue}
use Rattle.idx_plan.specs.declared.ask.Ask.{Ask}
use Rattle.idx_query.specs.Blocks.{AreCopied, blocks_of, lacking}
use Rattle.idx_query.specs.Rounds.{AreRounds, IsRound, after_rounds, holds_by, holds_for, missed, missed_in, with_bytes}
use Rattle.idx_query.specs.Steps.{DidRound, DidRounds, IsSeen, MadeRound, held_for}
use Rattle.idx_query.specs.declared.report.Report.{Report}
use Rattle.idx_query.proofs.CopyLemmas.{none-copied}
use Rattle.idx_query.proofs.FillLemmas.{last-enough, loaded-are, missed-apart}

-- ---- counts modulo 2^64

-- so many, and then so many more
pub counts-add : (m before between after n k : ℕ) → between % m ≡ (before + n) % m → after % m ≡ (between + k) % m → after % m ≡ (before + (n + k)) % m
counts-add m before between after n k first second =
    let turned : between + k ≡ k + between = omega arith in
    let moved : k + (before + n) ≡ before + (n + k) = omega arith in
    second ∙ ap (λ x. x % m) turned ∙ sym (add-mod-mod k between m) ∙ ap (λ x. (k + x) % m) first ∙ add-mod-mod k (before + n) m ∙ ap (λ x. x % m) moved

-- ---- what rounds leave in a hall

-- one round more
pub rounds-more : (post : Post) (number : ℕ) (rounds : List (List Key)) (keys : List Key) (before between after : HallValue) (missing : List Key) (holds : ℕ) →
    AreRounds post number rounds before between missing holds → IsRound post number keys between after →
    AreRounds post number (rounds ++ keys ∷ []) before after (missing ++ missed_in number keys between) (holds + holds_for (missed_in number keys between))
rounds-more post number [] keys before between after missing holds are is =
    let here : between ≡ before = are.0 in (
      after,
      [],
      0,
      subst (λ (h : HallValue). IsRound post number keys h after) here is,
      ap (λ ms. ms ++ missed_in number keys between) are.1 ∙ ap (λ (h : HallValue). missed_in number keys h) here ∙ sym (append-nil (missed_in number keys before)),
      (let same : holds_for (missed_in number keys between) ≡ holds_for (missed_in number keys before) = ap (λ (h : HallValue). holds_for (missed_in number keys h)) here in let sum : holds + holds_for (missed_in number keys between) ≡ holds_for (missed_in number keys before) + 0 = omega (arith, same, are.2) in sum),
      (refl, refl, refl),
    )
rounds-more post number (first ∷ rounds) keys before between after missing holds are is =
    let more = rounds-more post number rounds keys are.0 between after are.1 are.2 are.6 is in (
      are.0,
      are.1 ++ missed_in number keys between,
      are.2 + holds_for (missed_in number keys between),
      are.3,
      ap (λ ms. ms ++ missed_in number keys between) are.4 ∙ append_assoc (missed_in number first before) are.1 (missed_in number keys between),
      (let sum : holds + holds_for (missed_in number keys between) ≡ holds_for (missed_in number first before) + (are.2 + holds_for (missed_in number keys between)) = omega (arith, are.5) in sum),
      more,
    )

-- where what the post stores is known, a hall is left as the definition says
pub rounds-stored : (post : Post) (number : ℕ) (t : List (List (List ℕ))) → post.stored ≡ Some t → (rounds : List (List Key)) (before after : HallValue) (missing : List Key) (holds : ℕ) →
    AreRounds post number rounds before after missing holds → after ≡ after_rounds number t rounds before
rounds-stored post number t known [] before after missing holds are = are.0
rounds-stored post number t known (keys ∷ rounds) before after missing holds are =
    rounds-stored post number t known rounds are.0 after are.1 are.2 are.6
    ∙ ap (after_rounds number t rounds) (are.3.leaves ∙ ap (λ ps. after_fill number ps (after_look number keys before)) pairs_are)
  where
    pairs_are : are.3.pairs ≡ with_bytes t (missed_in number keys before)
    pairs_are = loaded-are t are.3.pairs (missed_in number keys before) are.3.of_missed
        (All-weaker (IsBlockOf before.shape post) (λ (pair : Key × List ℕ). pair.1 ≡ bytes_at t pair.0.field pair.0.block)
        (λ pair block. subst (λ (o : Option (List (List (List ℕ)))). IfSome o (λ u. pair.1 ≡ bytes_at u pair.0.field pair.0.block)) known block.stored) are.3.pairs are.3.blocks)

-- ---- a round, with its look

-- what is said of what is known
known : {A : Type 0} (P : A → Type 0) (o : Option A) (x : A) → IfSome o P → o ≡ Some x → P x
known P o x said is = subst (λ p. IfSome p P) is said

-- the keys of pairs are as many
hold_more : (pairs : List (Key × List ℕ)) (room : ℕ) (missing : List Key) → map (λ pair. pair.0) pairs ≡ missing → 0 < room → 1 + held_for (drop (length pairs - room) pairs) ≡ holds_for missing
hold_more [] room missing same some = ap (λ ps. 1 + held_for ps) (drop-nil (0 - room)) ∙ ap holds_for same
hold_more (pair ∷ pairs) room missing same some =
    some_left (drop (length (pair ∷ pairs) - room) (pair ∷ pairs)) left ∙ ap holds_for same
  where
    left : 0 < length (drop (length (pair ∷ pairs) - room) (pair ∷ pairs))
    left = omega (arith, some, length_dropped)
      where
        length_dropped : length (drop (length (pair ∷ pairs) - room) (pair ∷ pairs)) ≡ length (pair ∷ pairs) - (length (pair ∷ pairs) - room)
        length_dropped = length-drop (length (pair ∷ pairs) - room) (pair ∷ pairs)

    some_left : (ps : List (Key × List ℕ)) → 0 < length ps → 1 + held_for ps ≡ 2
    some_left [] none = absurd (omega (arith, none))
    some_left (p ∷ ps) more = refl

module _ (ask : Ask) (plan : PlanValue) (keys : List Key) (found : List (Option (List ℕ))) (s : Shape) (post : Post) (number room : ℕ) (tells : Bool)
    (kept_before kept_between kept_after : Option HallValue) (held_before held_between held_after reads_before reads_after : ℕ) (report : Report) (out_old out_new : List ℕ)
    (posts : List Post) (apart : IsDistinct key_eq keys) (some : 0 < room) (look_held : MadeHolds held_before held_between 1)
    (look_told : tells ≡ true → IfSome kept_before (λ hall. IsSeen hall number s keys kept_between posts found room))
    (made : MadeRound ask plan keys found s post number room tells kept_between kept_after held_between held_after reads_before reads_after report out_old out_new) where
  many : length made.pairs ≡ length (missed keys found)
  many = sym (length-map made.pairs (λ pair. pair.0)) ∙ ap length made.of_missed

  told : tells ≡ true → IfSome kept_before (λ hall. (missed keys found ≡ missed_in number keys hall) × (left : HallValue) × (kept_after ≡ Some left) × IsRound post number keys hall left)
  told said = each kept_before (look_told said)
    where
      each : (o : Option HallValue) → IfSome o (λ hall. IsSeen hall number s keys kept_between posts found room) → IfSome o (λ hall. (missed keys found ≡ missed_in number keys hall) × (left : HallValue) × (kept_after ≡ Some left) × IsRound post number keys hall left)
      each None seen = tt
      each (Some hall) seen =
          let same : missed keys found ≡ missed_in number keys hall = ap (missed keys) seen.found in
          let looked : HallValue = after_look number keys hall in
          let filled : kept_after ≡ Some (after_fill number (drop (length made.pairs - room) made.pairs) looked) =
          known (λ h. kept_after ≡ Some (after_fill number (drop (length made.pairs - room) made.pairs) h)) kept_between looked (made.told said) seen.hall in
          let enough : after_fill number (drop (length made.pairs - room) made.pairs) looked ≡ after_fill number made.pairs looked =
          ap (λ r. after_fill number (drop (length made.pairs - r) made.pairs) looked) seen.room_is
          ∙ last-enough number made.pairs looked (omega (arith, some, seen.room_is)) (subst (IsDistinct key_eq) (sym made.of_missed) (missed-apart keys found apart)) in (
            same,
            after_fill number made.pairs looked,
            filled ∙ ap Some enough,
            record {
              pairs = made.pairs;
              of_missed = made.of_missed ∙ same;
              blocks = subst (λ (x : Shape). All (IsBlockOf x post) made.pairs) (sym seen.shape) made.blocks;
              leaves = refl;
            },
          )

  pub did-round : DidRound ask plan keys post number tells kept_before kept_after held_before held_after reads_before reads_after report out_old out_new
  did-round = record {
    copied = made.copied;
    missing = missed keys found;
    hits = omega (arith, made.hits, many);
    all = made.all ∙ many;
    absent = made.absent;
    reads = made.reads;
    held = subst (λ n. MadeHolds held_before held_after n) (hold_more made.pairs room (missed keys found) made.of_missed some) (counts-add (2 ^ 64) held_before held_between held_after 1 (held_for (drop (length made.pairs - room) made.pairs)) look_held made.held);
    told = told;
  }

-- ---- rounds, and one more

holds_same : (missing : List Key) → holds_by (length missing) ≡ holds_for missing
holds_same [] = refl
holds_same (key ∷ missing) = refl

one_sum : (f : ℕ → ℕ) (n : ℕ) → sum_by f (n ∷ []) ≡ f n
one_sum f n = zero-add (f n)

lacking-append : (has : ℕ → Bool) (xs ys : List ℕ) → lacking has (xs ++ ys) ≡ lacking has xs + lacking has ys
lacking-append has xs ys =
    ap length (filter-append (λ b. not (has b)) xs ys) ∙ length-append (filter (λ b. not (has b)) xs) (filter (λ b. not (has b)) ys)

-- the keys of rounds, with those of one more
flat_more : (rounds : List (List Key)) (keys : List Key) → flat_map (λ (ks : List Key). ks) (rounds ++ keys ∷ []) ≡ flat_map (λ (ks : List Key). ks) rounds ++ keys
flat_more rounds keys = flat_map-append (λ (ks : List Key). ks) rounds (keys ∷ []) ∙ ap (λ l. flat_map (λ (ks : List Key). ks) rounds ++ l) (append-nil keys)

-- nothing was done yet
pub did-none : (ask : Ask) (plan : PlanValue) (post : Post) (number : ℕ) (tells : Bool) (kept : Option HallValue) (held reads : ℕ) (report : Report) (out : List ℕ) → report ≡ record { post = number; hits = 0; reads = 0; absent = 0 } →
    DidRounds ask plan [] post number tells kept kept held held reads reads report out
did-none ask plan post number tells kept held reads report out is = record {
  copied = none post.stored;
  missing = [];
  fetched = [];
  each = refl;
  sum = refl;
  hits = ap (λ (r : Report). r.hits + 0) is;
  all = ap (λ (r : Report). r.reads + r.absent) is;
  absent = ap (λ (r : Report). r.absent) is;
  reads = let no : report.reads ≡ 0 = ap (λ (r : Report). r.reads) is in let same : reads ≡ reads + report.reads = omega (arith, no) in ap (λ n. n % 2 ^ 64) same;
  held = let same : held ≡ held + 0 = omega arith in ap (λ n. n % 2 ^ 64) same;
  told = λ said. untouched kept;
}
  where
    none : (o : Option (List (List (List ℕ)))) → IfSome o (λ t. AreCopied plan (bytes_at t ask.field) [] out)
    none None = tt
    none (Some t) = none-copied plan (bytes_at t ask.field) out

    untouched : (o : Option HallValue) → IfSome o (λ hall. (left : HallValue) × (o ≡ Some left) × AreRounds post number [] hall left [] 0)
    untouched None = tt
    untouched (Some hall) = (hall, refl, (refl, refl, refl))

module _ (ask : Ask) (plan : PlanValue) (rounds : List (List Key)) (keys : List Key) (post : Post) (number : ℕ) (tells : Bool) (kept_before kept_between kept_after : Option HallValue)
    (held_before held_between held_after reads_before reads_between reads_after : ℕ) (so_far one both : Report) (out_old out_new : List ℕ)
    (did : DidRounds ask plan rounds post number tells kept_before kept_between held_before held_between reads_before reads_between so_far out_old)
    (more : DidRound ask plan keys post number tells kept_between kept_after held_between held_after reads_between reads_after one out_old out_new)
    (sum : both ≡ record { post = so_far.post; hits = so_far.hits + one.hits; reads = so_far.reads + one.reads; absent = so_far.absent + one.absent }) where
  hits_sum : both.hits ≡ so_far.hits + one.hits
  hits_sum = ap (λ (r : Report). r.hits) sum

  reads_sum : both.reads ≡ so_far.reads + one.reads
  reads_sum = ap (λ (r : Report). r.reads) sum

  absent_sum : both.absent ≡ so_far.absent + one.absent
  absent_sum = ap (λ (r : Report). r.absent) sum

  many_missing : length (did.missing ++ more.missing) ≡ length did.missing + length more.missing
  many_missing = length-append did.missing more.missing

  many_keys : length (flat_map (λ (ks : List Key). ks) (rounds ++ keys ∷ [])) ≡ length (flat_map (λ (ks : List Key). ks) rounds) + length keys
  many_keys = ap length (flat_more rounds keys) ∙ length-append (flat_map (λ (ks : List Key). ks) rounds) keys

  copied_more : IfSome post.stored (λ t. AreCopied plan (bytes_at t ask.field) (blocks_of (flat_map (λ (ks : List Key). ks) (rounds ++ keys ∷ []))) out_new)
  copied_more = each post.stored did.copied more.copied
    where
      blocks_are : blocks_of (flat_map (λ (ks : List Key). ks) rounds) ++ blocks_of keys ≡ blocks_of (flat_map (λ (ks : List Key). ks) (rounds ++ keys ∷ []))
      blocks_are = sym (ap blocks_of (flat_more rounds keys) ∙ map-append (λ (key : Key). key.block) (flat_map (λ (ks : List Key). ks) rounds) keys)

      each : (o : Option (List (List (List ℕ)))) → IfSome o (λ t. AreCopied plan (bytes_at t ask.field) (blocks_of (flat_map (λ (ks : List Key). ks) rounds)) out_old) →
          IfSome o (λ t. (done : List ℕ) → AreCopied plan (bytes_at t ask.field) done out_old → AreCopied plan (bytes_at t ask.field) (done ++ blocks_of keys) out_new) →
          IfSome o (λ t. AreCopied plan (bytes_at t ask.field) (blocks_of (flat_map (λ (ks : List Key). ks) (rounds ++ keys ∷ []))) out_new)
      each None before next = tt
      each (Some t) before next = subst (λ bs. AreCopied plan (bytes_at t ask.field) bs out_new) blocks_are (next (blocks_of (flat_map (λ (ks : List Key). ks) rounds)) before)

  held_sum : sum_by holds_by (did.fetched ++ length more.missing ∷ []) ≡ sum_by holds_by did.fetched + holds_for more.missing
  held_sum =
      sum_by-append holds_by did.fetched (length more.missing ∷ [])
      ∙ ap (λ n. sum_by holds_by did.fetched + n) (one_sum holds_by (length more.missing) ∙ holds_same more.missing)

  told_more : tells ≡ true → IfSome kept_before (λ hall. (left : HallValue) × (kept_after ≡ Some left) × AreRounds post number (rounds ++ keys ∷ []) hall left (did.missing ++ more.missing) (sum_by holds_by (did.fetched ++ length more.missing ∷ [])))
  told_more said = each kept_before (did.told said)
    where
      each : (o : Option HallValue) → IfSome o (λ hall. (left : HallValue) × (kept_between ≡ Some left) × AreRounds post number rounds hall left did.missing (sum_by holds_by did.fetched)) →
          IfSome o (λ hall. (left : HallValue) × (kept_after ≡ Some left) × AreRounds post number (rounds ++ keys ∷ []) hall left (did.missing ++ more.missing) (sum_by holds_by (did.fetched ++ length more.missing ∷ [])))
      each None before = tt
      each (Some hall) before =
          let next = known (λ mid. (more.missing ≡ missed_in number keys mid) × (left : HallValue) × (kept_after ≡ Some left) × IsRound post number keys mid left) kept_between before.0 (more.told said) before.1 in (
            next.1,
            next.2,
            subst (λ n. AreRounds post number (rounds ++ keys ∷ []) hall next.1 (did.missing ++ more.missing) n) (sym held_sum)
                (subst (λ ms. AreRounds post number (rounds ++ keys ∷ []) hall next.1 (did.missing ++ ms) (sum_by holds_by did.fetched + holds_for ms)) (sym next.0)
                (rounds-more post number rounds keys hall before.0 next.1 did.missing (sum_by holds_by did.fetched) before.2 next.3)),
          )

  pub did-more : DidRounds ask plan (rounds ++ keys ∷ []) post number tells kept_before kept_after held_before held_after reads_before reads_after both out_new
  did-more = record {
    copied = copied_more;
    missing = did.missing ++ more.missing;
    fetched = did.fetched ++ length more.missing ∷ [];
    each = length-append did.fetched (length more.missing ∷ []) ∙ ap (λ n. n + 1) did.each ∙ sym (length-append rounds (keys ∷ []));
    sum = sum_by-append (λ n. n) did.fetched (length more.missing ∷ []) ∙ (λ i. did.sum i + one_sum (λ n. n) (length more.missing) i) ∙ sym many_missing;
    hits = omega (arith, hits_sum, many_missing, many_keys, did.hits, more.hits);
    all = omega (arith, reads_sum, absent_sum, many_missing, did.all, more.all);
    absent = absent_sum ∙ (λ i. did.absent i + more.absent i) ∙ sym (lacking-append (has_at post ask.field) (blocks_of did.missing) (blocks_of more.missing))
        ∙ ap (lacking (has_at post ask.field)) (sym (map-append (λ (key : Key). key.block) did.missing more.missing));
    reads = counts-add (2 ^ 64) reads_before reads_between reads_after so_far.reads one.reads did.reads more.reads ∙ ap (λ n. (reads_before + n) % 2 ^ 64) (sym reads_sum);
    held = counts-add (2 ^ 64) held_before held_between held_after (sum_by holds_by did.fetched) (holds_for more.missing) did.held more.held ∙ ap (λ n. (held_before + n) % 2 ^ 64) (sym held_sum);
    told = told_more;
  }
