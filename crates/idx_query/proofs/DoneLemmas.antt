-- One key more of an answer.
use Rattle.std.proofs.Common.{rules, ◌≡◌, ◌⊎◌, inl, inr, ◌↔◌, ℕ, zero, suc, ◌+◌, ◌-◌, ◌%◌, ◌^◌, ◌<◌, ◌≤◌, Bool, true, false, cond, nat_lt, List, [], ◌∷◌, ◌++◌, length, take, drop, filter, Some, None, refl, sym, ap, ◌∙◌, subst, ⊎_elim, append_assoc, length-append, arith}
use Rattle.std.specs.Prelude.{IfSome, Option, not, slice_get}
use Rattle.std.proofs.lemmas.List.{append-nil, drop-append-le, drop_all, map-append}
use Rattle.std.proofs.lemmas.List.Elements.{All-nil, All-push, filter-append}
use Rattle.std.proofs.lemmas.Option.{get_or_from_slice_get, slice_get_within}
use Rattle.std.proofs.Math.Nat.{add-mod-mod}
use Rattle.std.proofs.Math.Seq.{drop-nil}
use Rattle.idx_outside.specs.Cause.{MadeReads}
use Rattle.idx_outside.specs.declared.blocks.Fetched.{Fetched}
use Rattle.idx_outside.specs.declared.blocks.Fetched.TheVariants.{Read, Absent}
use Rattle.idx_hall.specs.declared.key.Key.{Key}
use Rattle.idx_plan.specs.Plan.{PlanValue}
use Rattle.idx_scatter.specs.Scatter.{IsScattered}
use Rattle.idx_query.specs.Blocks.{blocks_of, lacking}
use Rattle.idx_query.specs.Rounds.{missed}
use Rattle.idx_query.specs.Steps.{AreDone, IsBlock, IsCameBy, LoadingValue, load_state, with_absent, with_block, with_hit, with_read}
use Rattle.idx_query.specs.declared.report.Report.{Report}
use Rattle.idx_query.proofs.CopyLemmas.{KnownCopiedTo, copied-first, copied-more, key_at}

-- ---- how a block came

-- what was found, by the bytes that were read of it
pub found_bytes : (slot : Option (Option (List ℕ))) (block read bytes : List ℕ) → Some (Some block) ≡ slot → read ≡ block → bytes ≡ read → slot ≡ Some (Some bytes)
found_bytes slot block read bytes is is_read are = sym is ∙ ap (λ (b : List ℕ). Some (Some b)) (sym is_read ∙ sym are)

true_from : (b : Bool) → (b ≡ false → ⊥) → b ≡ true
true_from true other = refl
true_from false other = absurd (other refl)

-- what was fetched came by a read where it is there, and by none where it is lacking
pub fetched_came : (there : Bool) (before after : ℕ) (old new : Report) (fetched : Fetched) → ((fetched ≡ Absent) ↔ (there ≡ false)) →
    (fetched ≡ Absent → after ≡ before) → (fetched ≡ Read → MadeReads before after 1) → (fetched ≡ Read → new ≡ with_read old) → (fetched ≡ Absent → new ≡ with_absent old) →
    ((there ≡ true) × (new ≡ with_read old) × MadeReads before after 1) ⊎ ((there ≡ false) × (new ≡ with_absent old) × (after ≡ before))
fetched_came there before after old new Read lacks no_read one_read is_read is_absent =
    inl (true_from there (λ e. let wrong : Read ≡ Absent = lacks.1 e in cc), is_read refl, one_read refl)
fetched_came there before after old new Absent lacks no_read one_read is_read is_absent = inr (lacks.0 refl, is_absent refl, no_read refl)

-- ---- which blocks were not found

missed_next : (keys : List Key) (found : List (Option (List ℕ))) (i : ℕ) (key : Key) → slice_get keys i ≡ Some key → slice_get found i ≡ Some None →
    missed (take (suc i) keys) (take (suc i) found) ≡ missed (take i keys) (take i found) ++ key ∷ []
missed_next [] found i key at none = absurd (omega (arith, slice_get_within [] i key at))
missed_next (k ∷ keys) [] i key at none = absurd (omega (arith, slice_get_within [] i None none))
missed_next (k ∷ keys) (None ∷ found) zero key at none = ap (λ (x : Key). x ∷ []) (get_or_from_slice_get (k ∷ keys) 0 key k at)
missed_next (k ∷ keys) (Some b ∷ found) zero key at none = let wrong : Some b ≡ None = get_or_from_slice_get (Some b ∷ found) 0 None None none in absurd (apart b wrong)
  where
    apart : (b : List ℕ) → Some b ≡ None → ⊥
    apart b e = cc
missed_next (k ∷ keys) (None ∷ found) (suc i) key at none = ap (λ (xs : List Key). k ∷ xs) (missed_next keys found i key at none)
missed_next (k ∷ keys) (Some b ∷ found) (suc i) key at none = missed_next keys found i key at none

-- one key more, of which nothing was found
pub missed-more : (keys : List Key) (found : List (Option (List ℕ))) (i : ℕ) (key : Key) → slice_get keys i ≡ Some key → slice_get found i ≡ Some None →
    missed (take (i + 1) keys) (take (i + 1) found) ≡ missed (take i keys) (take i found) ++ key ∷ []
missed-more keys found i key at none = let more : suc i ≡ i + 1 = omega arith in
    subst (λ n. missed (take n keys) (take n found) ≡ missed (take i keys) (take i found) ++ key ∷ []) more (missed_next keys found i key at none)

found_next : (keys : List Key) (found : List (Option (List ℕ))) (i : ℕ) (bytes : List ℕ) → slice_get found i ≡ Some (Some bytes) →
    missed (take (suc i) keys) (take (suc i) found) ≡ missed (take i keys) (take i found)
found_next [] found zero bytes some = refl
found_next [] found (suc i) bytes some = refl
found_next (k ∷ keys) [] i bytes some = absurd (omega (arith, slice_get_within [] i (Some bytes) some))
found_next (k ∷ keys) (None ∷ found) zero bytes some = let wrong : None ≡ Some bytes = get_or_from_slice_get (None ∷ found) 0 (Some bytes) None some in absurd (apart wrong)
  where
    apart : None ≡ Some bytes → ⊥
    apart e = cc
found_next (k ∷ keys) (Some b ∷ found) zero bytes some = refl
found_next (k ∷ keys) (None ∷ found) (suc i) bytes some = ap (λ (xs : List Key). k ∷ xs) (found_next keys found i bytes some)
found_next (k ∷ keys) (Some b ∷ found) (suc i) bytes some = found_next keys found i bytes some

-- one key more, whose block was found
pub missed-same : (keys : List Key) (found : List (Option (List ℕ))) (i : ℕ) (bytes : List ℕ) → slice_get found i ≡ Some (Some bytes) →
    missed (take (i + 1) keys) (take (i + 1) found) ≡ missed (take i keys) (take i found)
missed-same keys found i bytes some = let more : suc i ≡ i + 1 = omega arith in
    subst (λ n. missed (take n keys) (take n found) ≡ missed (take i keys) (take i found)) more (found_next keys found i bytes some)

-- ---- which blocks are kept

kept_next : (skip : ℕ) (loaded : List (Key × List ℕ)) (bytes : ℕ) (pairs : List (Key × List ℕ)) (pair : Key × List ℕ) (some : Bool) → nat_lt 0 (skip - length pairs) ≡ some →
    cond some (load_state (skip - length pairs - 1) (loaded ++ drop skip pairs) bytes) (load_state (skip - length pairs) ((loaded ++ drop skip pairs) ++ pair ∷ []) bytes)
    ≡ load_state (skip - length (pairs ++ pair ∷ [])) (loaded ++ drop skip (pairs ++ pair ∷ [])) bytes
kept_next skip loaded bytes pairs pair true is =
    let more : length (pairs ++ pair ∷ []) ≡ length pairs + 1 = length-append pairs (pair ∷ []) in
    let past : 0 < skip - length pairs = search (rules, is) in
    let left : skip - length pairs - 1 ≡ skip - length (pairs ++ pair ∷ []) = omega (arith, more, past) in
    let none : drop skip pairs ≡ drop skip (pairs ++ pair ∷ []) = drop_all skip pairs (omega (arith, past)) ∙ sym (drop_all skip (pairs ++ pair ∷ []) (omega (arith, more, past))) in
    λ j. load_state (left j) (loaded ++ none j) bytes
kept_next skip loaded bytes pairs pair false is =
    let more : length (pairs ++ pair ∷ []) ≡ length pairs + 1 = length-append pairs (pair ∷ []) in
    let past : skip ≤ length pairs = search (rules, is) in
    let left : skip - length pairs ≡ skip - length (pairs ++ pair ∷ []) = omega (arith, more, past) in
    let kept : (loaded ++ drop skip pairs) ++ pair ∷ [] ≡ loaded ++ drop skip (pairs ++ pair ∷ []) =
    append_assoc loaded (drop skip pairs) (pair ∷ []) ∙ ap (λ xs. loaded ++ xs) (sym (drop-append-le skip pairs (pair ∷ []) past)) in
    λ j. load_state (left j) (kept j) bytes

-- one block more behind those of which the first are skipped
pub kept-more : (skip : ℕ) (loaded : List (Key × List ℕ)) (bytes : ℕ) (pairs : List (Key × List ℕ)) (pair : Key × List ℕ) →
    with_block pair (load_state (skip - length pairs) (loaded ++ drop skip pairs) bytes) ≡ load_state (skip - length (pairs ++ pair ∷ [])) (loaded ++ drop skip (pairs ++ pair ∷ [])) bytes
kept-more skip loaded bytes pairs pair = kept_next skip loaded bytes pairs pair (nat_lt 0 (skip - length pairs)) refl

-- ---- what is counted

lacking-more : (has : ℕ → Bool) (blocks : List ℕ) (block : ℕ) (there : Bool) → has block ≡ there → lacking has (blocks ++ block ∷ []) ≡ lacking has blocks + cond there 0 1
lacking-more has blocks block there is =
    ap length (filter-append (λ b. not (has b)) blocks (block ∷ []))
    ∙ length-append (filter (λ b. not (has b)) blocks) (filter (λ b. not (has b)) (block ∷ []))
    ∙ ap (λ n. lacking has blocks + n) (one ∙ last there)
  where
    last : (t : Bool) → length (cond (not t) (block ∷ []) []) ≡ cond t 0 1
    last true = refl
    last false = refl

    one : length (filter (λ b. not (has b)) (block ∷ [])) ≡ length (cond (not there) (block ∷ []) [])
    one = ap (λ (b : Bool). length (cond (not b) (block ∷ []) [])) is

-- how many blocks of some keys and one key more are lacking
lacking-key : (has : ℕ → Bool) (keys : List Key) (key : Key) (there : Bool) → has key.block ≡ there → lacking has (blocks_of (keys ++ key ∷ [])) ≡ lacking has (blocks_of keys) + cond there 0 1
lacking-key has keys key there is = ap (lacking has) (map-append (λ (k : Key). k.block) keys (key ∷ [])) ∙ lacking-more has (blocks_of keys) key.block there is

reads-more : (m before between after n : ℕ) → between % m ≡ (before + n) % m → after % m ≡ (between + 1) % m → after % m ≡ (before + (n + 1)) % m
reads-more m before between after n first second =
    let turned : between + 1 ≡ 1 + between = omega arith in
    let moved : 1 + (before + n) ≡ before + (n + 1) = omega arith in
    second ∙ ap (λ x. x % m) turned ∙ sym (add-mod-mod 1 between m) ∙ ap (λ x. (1 + x) % m) first ∙ add-mod-mod 1 (before + n) m ∙ ap (λ x. x % m) moved

-- ---- what is done

-- no key has come
pub done-first : (plan : PlanValue) (field : ℕ) (has : ℕ → Bool) (stored : Option (ℕ → ℕ → List ℕ)) (found : List (Option (List ℕ))) (before : ℕ) (old : LoadingValue) (post : ℕ) (report : Report) (out : List ℕ) →
    report ≡ record { post = post; hits = 0; reads = 0; absent = 0 } → AreDone plan field has stored found 0 before before old old report out out
done-first plan field has stored found before old post report out is =
    let reads : report.reads ≡ 0 = ap (λ (r : Report). r.reads) is in
    let hits : report.hits ≡ 0 = ap (λ (r : Report). r.hits) is in
    let absent : report.absent ≡ 0 = ap (λ (r : Report). r.absent) is in
    let left : old.skip ≡ old.skip - 0 = omega arith in
    let kept : old.loaded ≡ old.loaded ++ drop old.skip [] = sym (append-nil old.loaded) ∙ ap (λ xs. old.loaded ++ xs) (sym (drop-nil old.skip)) in
    record {
      copied = copied-first stored plan field out;
      pairs = [];
      keys = refl;
      blocks = All-nil (IsBlock old.bytes field stored);
      loaded = λ j. load_state (left j) (kept j) old.bytes;
      hits = omega (arith, hits);
      all = omega (arith, reads, absent);
      absent = absent;
      reads = let none : before ≡ before + report.reads = omega (arith, reads) in ap (λ n. n % 2 ^ 64) none;
    }

-- the bytes of a block stay as many
pub done-bytes : {plan : PlanValue} {field : ℕ} {has : ℕ → Bool} {stored : Option (ℕ → ℕ → List ℕ)} {found : List (Option (List ℕ))} {n before after : ℕ} {old new : LoadingValue} {report : Report} {start out : List ℕ} →
    AreDone plan field has stored found n before after old new report start out → new.bytes ≡ old.bytes
done-bytes done = ap (λ (l : LoadingValue). l.bytes) done.loaded

-- the post stays the same
pub came-post : {plan : PlanValue} {field : ℕ} {has : ℕ → Bool} {stored : Option (ℕ → ℕ → List ℕ)} {found : List (Option (List ℕ))} {i before after : ℕ} {old new : LoadingValue} {report_old report_new : Report} {out_old out_new : List ℕ} →
    IsCameBy plan field has stored found i before after old new report_old report_new out_old out_new → report_new.post ≡ report_old.post
came-post came = ⊎_elim (λ hit. ap (λ (r : Report). r.post) hit.2) (λ miss. ⊎_elim (λ read. ap (λ (r : Report). r.post) read.1) (λ lack. ap (λ (r : Report). r.post) lack.1) miss.2) came.came

-- the block of one key more was found
done_hit : (plan : PlanValue) (field : ℕ) (has : ℕ → Bool) (stored : Option (ℕ → ℕ → List ℕ)) (found : List (Option (List ℕ))) (i before mid after : ℕ) (old between new : LoadingValue) (report_old report_new : Report) (start out_old out_new : List ℕ) (bytes : List ℕ) →
    AreDone plan field has stored found i before mid old between report_old start out_old → slice_get found i ≡ Some (Some bytes) → new ≡ between → report_new ≡ with_hit report_old → after ≡ mid →
    KnownCopiedTo stored plan field (blocks_of (take (i + 1) plan.keys)) start out_new → AreDone plan field has stored found (i + 1) before after old new report_new start out_new
done_hit plan field has stored found i before mid after old between new report_old report_new start out_old out_new bytes done some same is no_read copied =
    let so = missed-same plan.keys found i bytes some in
    let reads : report_new.reads ≡ report_old.reads = ap (λ (r : Report). r.reads) is in
    let hits : report_new.hits ≡ report_old.hits + 1 = ap (λ (r : Report). r.hits) is in
    let absent : report_new.absent ≡ report_old.absent = ap (λ (r : Report). r.absent) is in
    record {
      copied = copied;
      pairs = done.pairs;
      keys = done.keys ∙ sym so;
      blocks = done.blocks;
      loaded = same ∙ done.loaded;
      hits = omega (arith, hits, done.hits);
      all = omega (arith, reads, absent, done.all);
      absent = absent ∙ done.absent ∙ ap (λ keys. lacking has (blocks_of keys)) (sym so);
      reads = ap (λ n. n % 2 ^ 64) no_read ∙ done.reads ∙ ap (λ n. (before + n) % 2 ^ 64) (sym reads);
    }

-- the block of one key more was loaded
done_miss : (plan : PlanValue) (field : ℕ) (has : ℕ → Bool) (stored : Option (ℕ → ℕ → List ℕ)) (found : List (Option (List ℕ))) (i before mid after : ℕ) (old between new : LoadingValue) (report_old report_new : Report) (start out_old out_new : List ℕ) (key : Key) (bytes : List ℕ) (there : Bool) →
    AreDone plan field has stored found i before mid old between report_old start out_old → slice_get plan.keys i ≡ Some key → slice_get found i ≡ Some None → IsBlock old.bytes field stored (key, bytes) →
    new ≡ with_block (key, bytes) between → has key.block ≡ there → report_new ≡ cond there (with_read report_old) (with_absent report_old) → MadeReads mid after (cond there 1 0) →
    KnownCopiedTo stored plan field (blocks_of (take (i + 1) plan.keys)) start out_new → AreDone plan field has stored found (i + 1) before after old new report_new start out_new
done_miss plan field has stored found i before mid after old between new report_old report_new start out_old out_new key bytes there done at none block kept is_there is_report made copied =
    let so = missed-more plan.keys found i key at none in
    let more : length (done.pairs ++ (key, bytes) ∷ []) ≡ length done.pairs + 1 = length-append done.pairs ((key, bytes) ∷ []) in
    let lacks : lacking has (blocks_of (missed (take (i + 1) plan.keys) (take (i + 1) found))) ≡ lacking has (blocks_of (missed (take i plan.keys) (take i found))) + cond there 0 1 =
    ap (λ keys. lacking has (blocks_of keys)) so ∙ lacking-key has (missed (take i plan.keys) (take i found)) key there is_there in
    let counts = counted there is_report made in
    let reads = counts.1 in
    let absent = counts.2 in
    record {
      copied = copied;
      pairs = done.pairs ++ (key, bytes) ∷ [];
      keys = map-append (λ (pair : Key × List ℕ). pair.0) done.pairs ((key, bytes) ∷ []) ∙ ap (λ keys. keys ++ key ∷ []) done.keys ∙ sym so;
      blocks = All-push (IsBlock old.bytes field stored) done.pairs (key, bytes) done.blocks block;
      loaded = kept ∙ ap (with_block (key, bytes)) done.loaded ∙ kept-more old.skip old.loaded old.bytes done.pairs (key, bytes);
      hits = omega (arith, counts.0, done.hits, more);
      all = counts.4 more;
      absent = counts.2 ∙ ap (λ n. n + cond there 0 1) done.absent ∙ sym lacks;
      reads = counts.3;
    }
  where
    counted : (t : Bool) → report_new ≡ cond t (with_read report_old) (with_absent report_old) → MadeReads mid after (cond t 1 0) →
        (report_new.hits ≡ report_old.hits) × (report_new.reads ≡ report_old.reads + cond t 1 0) × (report_new.absent ≡ report_old.absent + cond t 0 1) × MadeReads before after report_new.reads
        × (length (done.pairs ++ (key, bytes) ∷ []) ≡ length done.pairs + 1 → report_new.reads + report_new.absent ≡ length (done.pairs ++ (key, bytes) ∷ []))
    counted true is made =
        let reads : report_new.reads ≡ report_old.reads + 1 = ap (λ (r : Report). r.reads) is in
        let hits : report_new.hits ≡ report_old.hits = ap (λ (r : Report). r.hits) is in
        let absent : report_new.absent ≡ report_old.absent = ap (λ (r : Report). r.absent) is in
        (hits, reads, omega (arith, absent), reads-more (2 ^ 64) before mid after report_old.reads done.reads made ∙ ap (λ n. (before + n) % 2 ^ 64) (sym reads), λ more. omega (arith, more, reads, absent, done.all))
    counted false is made =
        let reads : report_new.reads ≡ report_old.reads = ap (λ (r : Report). r.reads) is in
        let hits : report_new.hits ≡ report_old.hits = ap (λ (r : Report). r.hits) is in
        let absent : report_new.absent ≡ report_old.absent + 1 = ap (λ (r : Report). r.absent) is in
        let same : mid + 0 ≡ mid = omega arith in
        (hits, omega (arith, reads), absent, made ∙ ap (λ n. n % 2 ^ 64) same ∙ done.reads ∙ ap (λ n. (before + n) % 2 ^ 64) (sym reads), λ more. omega (arith, more, reads, absent, done.all))

-- one key more has come
pub done-more : (plan : PlanValue) (field : ℕ) (has : ℕ → Bool) (stored : Option (ℕ → ℕ → List ℕ)) (found : List (Option (List ℕ))) (i before mid after : ℕ) (old between new : LoadingValue) (report_old report_new : Report) (start out_old out_new : List ℕ) →
    AreDone plan field has stored found i before mid old between report_old start out_old → IsCameBy plan field has stored found i mid after between new report_old report_new out_old out_new →
    AreDone plan field has stored found (i + 1) before after old new report_new start out_new
done-more plan field has stored found i before mid after old between new report_old report_new start out_old out_new done came =
    let within : i < length plan.keys = slice_get_within plan.keys i came.key came.at in
    let own : came.key ≡ key_at plan.keys i = sym (get_or_from_slice_get plan.keys i came.key (record { time = 0; field = 0; block = 0 }) came.at) in
    let block : IsBlock old.bytes field stored (came.key, came.bytes) = subst (λ n. IsBlock n field stored (came.key, came.bytes)) (done-bytes done) came.block in
    let copied : KnownCopiedTo stored plan field (blocks_of (take (i + 1) plan.keys)) start out_new =
    copied-more stored plan field i came.bytes start out_old out_new within (subst (λ (k : Key). IsScattered plan.asked plan.bits k.block plan.size came.bytes out_old out_new) own came.scattered)
    (subst (λ (k : Key). IfSome stored (λ stored. came.bytes ≡ stored field k.block)) own came.block.stored) done.copied in
    ⊎_elim
    (λ hit. done_hit plan field has stored found i before mid after old between new report_old report_new start out_old out_new came.bytes done hit.0 hit.1 hit.2 hit.3 copied)
    (λ miss. ⊎_elim
    (λ read. done_miss plan field has stored found i before mid after old between new report_old report_new start out_old out_new came.key came.bytes true done came.at miss.0 block miss.1 read.0 read.1 read.2 copied)
    (λ lack. done_miss plan field has stored found i before mid after old between new report_old report_new start out_old out_new came.key came.bytes false done came.at miss.0 block miss.1 lack.0 lack.1
    (let same : after ≡ mid + 0 = omega (arith, lack.2) in ap (λ n. n % 2 ^ 64) same) copied)
    miss.2)
    came.came
