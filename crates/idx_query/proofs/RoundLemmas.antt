-- A round of an answer, out of what its steps say.
use Rattle.std.proofs.Common.{◌≡◌, ℕ, ◌+◌, ◌-◌, ◌*◌, ◌/◌, ◌^◌, ◌<◌, ◌≤◌, ◌⊎◌, inl, inr, Bool, List, [], ◌∷◌, ◌++◌, length, map, get_or, take, drop, refl, sym, ap, ◌∙◌, subst, arith, Some, None, Option}
use Rattle.std.specs.Prelude.{◌≢◌, All, IfSome, option_map, slice_get, slice_index, true}
use Rattle.std.specs.List.{IsDistinct}
use Rattle.std.proofs.lemmas.List.{take_all, length-map}
use Rattle.std.proofs.lemmas.List.Elements.{All-cons, All-drop, All-nil, All-get_or, All-from_get_or, All-head, All-tail, All-take}
use Rattle.std.proofs.lemmas.Option.{get_or_from_slice_get, same_Some, slice_get_within}
use Rattle.idx_outside.specs.Shape.{Shape}
use Rattle.idx_header.specs.Header.{HeaderValue, block_bytes}
use Rattle.idx_hz.specs.Address.{hz_address}
use Rattle.idx_layout.specs.Shape.{shape_of}
use Rattle.idx_hall.specs.declared.key.Key.{Key}
use Rattle.idx_hall.specs.Posts.{IsNewestOf, IsPostOf, Lacks, Post, bytes_at, has_at, table_of}
use Rattle.idx_hall.specs.Hall.{HallValue, IsBlockOf, after_fill, after_look, key_eq}
use Rattle.idx_hall.specs.Calls.{AreBlocksOf}
use Rattle.idx_hall.specs.Looked.{LookedValue}
use Rattle.idx_turn.specs.Stands.{MadeHolds}
use Rattle.idx_plan.specs.Needed.{key_of, needed, needed_keys, plan_fault}
use Rattle.idx_plan.specs.Plan.{IsPlan, PlanValue}
use Rattle.idx_plan.specs.declared.ask.Ask.{Ask}
use Rattle.idx_query.specs.Blocks.{AreCopied, IsPlanOf, blocks_of, lacking}
use Rattle.idx_query.specs.Fault.{HasPost, IsCaused, IsUnread}
use Rattle.idx_query.specs.Rounds.{missed}
use Rattle.idx_query.specs.Steps.{AreDone, CanCopy, HasLooked, IsBlock, FirstLeft, IsEditionOf, IsPartOf, IsSeen, IsStoreFault, LeftFirstLook, LeftLook, LoadingValue, MadeRound, RoundLeft, held_for, part_of}
use Rattle.idx_query.specs.declared.query_fault.QueryFault.{QueryFault}
use Rattle.idx_query.specs.declared.query_fault.QueryFault.TheVariants as faults
use Rattle.idx_query.specs.declared.report.Report.{Report}
use Rattle.idx_query.proofs.AnswerLemmas.{field_length, has_field, keys_exist, plan_length}
use Rattle.idx_query.proofs.CopyLemmas.{KnownCopiedTo, copied-agree, copied-all}
use Rattle.idx_query.proofs.FillLemmas.{drop-apart, keyed, lacking-agree, missed-all, needed-apart, take-apart}
use Rattle.idx_query.proofs.PostLemmas.{block-is, entry-table, found-are, has-is, stored-is}

-- ---- keys

-- what holds of all holds of each
at_each : {A : Type 0} (P : A → Type 0) (xs : List A) (i : ℕ) (x : A) → All P xs → slice_get xs i ≡ Some x → P x
at_each P xs i x all at = subst P (get_or_from_slice_get xs i x x at) (All-get_or P xs i x (slice_get_within xs i x at) all)

-- the keys that a question needs are of its time and of its field
times-of : (ask : Ask) (blocks : List ℕ) → All (λ (key : Key). key.time ≡ ask.time) (map (key_of ask) blocks)
times-of ask [] = All-nil (λ (key : Key). key.time ≡ ask.time)
times-of ask (block ∷ blocks) = All-cons (λ (key : Key). key.time ≡ ask.time) (key_of ask block) (map (key_of ask) blocks) refl (times-of ask blocks)

fields-of : (ask : Ask) (blocks : List ℕ) → All (λ (key : Key). key.field ≡ ask.field) (map (key_of ask) blocks)
fields-of ask [] = All-nil (λ (key : Key). key.field ≡ ask.field)
fields-of ask (block ∷ blocks) = All-cons (λ (key : Key). key.field ≡ ask.field) (key_of ask block) (map (key_of ask) blocks) refl (fields-of ask blocks)

-- what holds of each key of a plan holds of each of a part of it
part-all : (P : Key → Type 0) (plan part : PlanValue) → IsPartOf plan part → All P plan.keys → All P part.keys
part-all P plan part of all = subst (λ (q : PlanValue). All P q.keys) (sym of.is) (All-take P of.many (drop of.first plan.keys) (All-drop P of.first plan.keys all))

pub part-times : (h : HeaderValue) (ask : Ask) (plan part : PlanValue) → IsPlanOf h ask plan → IsPartOf plan part → All (λ (key : Key). key.time ≡ ask.time) part.keys
part-times h ask plan part of sub =
    part-all (λ (key : Key). key.time ≡ ask.time) plan part sub (subst (λ (ks : List Key). All (λ (key : Key). key.time ≡ ask.time) ks) (sym of.keys) (times-of ask (needed h ask)))

part-fields : (h : HeaderValue) (ask : Ask) (plan part : PlanValue) → IsPlanOf h ask plan → IsPartOf plan part → All (λ (key : Key). key.field ≡ ask.field) part.keys
part-fields h ask plan part of sub =
    part-all (λ (key : Key). key.field ≡ ask.field) plan part sub (subst (λ (ks : List Key). All (λ (key : Key). key.field ≡ ask.field) ks) (sym of.keys) (fields-of ask (needed h ask)))

-- a plan's keys differ, and so do those of a part of it
pub part-apart : (h : HeaderValue) (ask : Ask) (plan : PlanValue) (first many : ℕ) → IsPlanOf h ask plan → IsDistinct key_eq (take many (drop first plan.keys))
part-apart h ask plan first many of =
    take-apart many (drop first plan.keys) (drop-apart first plan.keys (subst (IsDistinct key_eq) (sym of.keys) (needed-apart h ask)))

blocks_all : (P : ℕ → Type 0) (keys : List Key) → All (λ (key : Key). P key.block) keys → All P (blocks_of keys)
blocks_all P [] all = All-nil P
blocks_all P (key ∷ keys) all = All-cons P key.block (blocks_of keys) (All-head (λ (k : Key). P k.block) key keys all) (blocks_all P keys (All-tail (λ (k : Key). P k.block) key keys all))

-- ---- a round

module _ {E : Type 0} (time : E → ℕ) (shape : E → Shape) (has : E → ℕ → ℕ → Bool) (stored : E → Option (ℕ → ℕ → List ℕ))
    (h : HeaderValue) (ask : Ask) (plan part : PlanValue) (s : Shape) (posts : List Post) (number : ℕ) (looked : LookedValue E)
    (shaped : s ≡ shape_of h) (field : ask.field < length h.fields) (of : IsPlanOf h ask plan) (valid : IsPlan plan) (sub : IsPartOf plan part)
    (look : HasLooked time shape has stored s posts ask.time number part.keys looked) where
  there : ask.field < length s.lengths
  there = has_field h s ask.field shaped field

  exist : All (λ (key : Key). key.block < s.blocks) part.keys
  exist = part-all (λ (key : Key). key.block < s.blocks) plan part sub (keys_exist h ask plan s shaped of valid.exist)

  each : block_bytes h ask.field ≡ slice_index s.lengths ask.field
  each = sym (field_length h s ask.field shaped field)

  -- how many blocks there are, by the plan
  many_blocks : 2 ^ (length plan.asked.mask - plan.bits) ≡ s.blocks
  many_blocks = (λ i. 2 ^ (length (of.asked i).mask - of.bits i)) ∙ sym (ap (λ (x : Shape). x.blocks) shaped)

  pub can-copy : CanCopy shape stored look.edition ask.field part (block_bytes h ask.field) looked.found
  can-copy = record {
    field = subst (λ (x : Shape). ask.field < length x.lengths) (sym look.is.shaped) there;
    exist = subst (λ (x : Shape). All (λ (key : Key). key.block < x.blocks) part.keys) (sym look.is.shaped) exist;
    bytes = each ∙ sym (ap (λ (x : Shape). slice_index x.lengths ask.field) look.is.shaped);
    block = plan_length h ask plan of ∙ sym (ap (λ (q : PlanValue). q.size * 2 ^ q.bits) sub.is);
    count = look.many;
    found = found-are time shape has stored s look.post look.edition look.is ask.field (block_bytes h ask.field) part.keys looked.found
        (λ i key at. at_each (λ (k : Key). k.field ≡ ask.field) part.keys i key (part-fields h ask plan part of sub) at) each look.blocks;
  }

  module _ (before after : ℕ) (old new : LoadingValue) (report : Report) (start out : List ℕ) (bytes : old.bytes ≡ block_bytes h ask.field)
      (done : AreDone part ask.field (has look.edition ask.field) (stored look.edition) looked.found (length part.keys) before after old new report start out) where
    keys_missed : map (λ pair. pair.0) done.pairs ≡ missed part.keys looked.found
    keys_missed = done.keys ∙ ap (λ ks. missed ks (take (length part.keys) looked.found)) (take_all (length part.keys) part.keys (omega arith))
        ∙ ap (missed part.keys) (take_all (length part.keys) looked.found (omega (arith, look.many)))

    pub many-missed : length done.pairs ≡ length (missed part.keys looked.found)
    many-missed = sym (length-map done.pairs (λ pair. pair.0)) ∙ ap length keys_missed

    -- each loaded block is the post's
    pub pairs-are : All (IsBlockOf s look.post) done.pairs
    pairs-are = All-from_get_or (IsBlockOf s look.post) done.pairs (record { time = 0; field = 0; block = 0 }, []) (λ i within.
        let d : Key × List ℕ = (record { time = 0; field = 0; block = 0 }, []) in
        block-is time shape has stored s look.post look.edition look.is ask.field (block_bytes h ask.field) (pair_at i) there each
        (All-get_or (λ (pair : Key × List ℕ). pair.0.time ≡ ask.time) done.pairs i d within times ∙ sym look.at.time)
        (All-get_or (λ (pair : Key × List ℕ). pair.0.field ≡ ask.field) done.pairs i d within fields)
        (All-get_or (λ (pair : Key × List ℕ). pair.0.block < s.blocks) done.pairs i d within blocks)
        (subst (λ m. IsBlock m ask.field (stored look.edition) (pair_at i)) bytes (All-get_or (IsBlock old.bytes ask.field (stored look.edition)) done.pairs i d within done.blocks)))
      where
        pair_at : ℕ → Key × List ℕ
        pair_at i = get_or done.pairs i (record { time = 0; field = 0; block = 0 }, [])

        times : All (λ (pair : Key × List ℕ). pair.0.time ≡ ask.time) done.pairs
        times = keyed (λ (key : Key). key.time ≡ ask.time) done.pairs (missed part.keys looked.found) keys_missed (missed-all (λ (key : Key). key.time ≡ ask.time) part.keys looked.found (part-times h ask plan part of sub))

        fields : All (λ (pair : Key × List ℕ). pair.0.field ≡ ask.field) done.pairs
        fields = keyed (λ (key : Key). key.field ≡ ask.field) done.pairs (missed part.keys looked.found) keys_missed (missed-all (λ (key : Key). key.field ≡ ask.field) part.keys looked.found (part-fields h ask plan part of sub))

        blocks : All (λ (pair : Key × List ℕ). pair.0.block < s.blocks) done.pairs
        blocks = keyed (λ (key : Key). key.block < s.blocks) done.pairs (missed part.keys looked.found) keys_missed (missed-all (λ (key : Key). key.block < s.blocks) part.keys looked.found exist)

    -- the samples are the post's
    post_copied : IfSome look.post.stored (λ t. (so_far : List ℕ) → AreCopied plan (bytes_at t ask.field) so_far start → AreCopied plan (bytes_at t ask.field) (so_far ++ blocks_of part.keys) out)
    post_copied =
        subst (λ (o : Option (List (List (List ℕ)))). IfSome o (λ t. (so_far : List ℕ) → AreCopied plan (bytes_at t ask.field) so_far start → AreCopied plan (bytes_at t ask.field) (so_far ++ blocks_of part.keys) out))
        (stored-is time shape has stored s look.post look.edition look.is)
        (by_post (stored look.edition) (subst (λ (q : PlanValue). KnownCopiedTo (stored look.edition) q ask.field (blocks_of part.keys) start out) sub.is whole))
      where
        whole : KnownCopiedTo (stored look.edition) part ask.field (blocks_of part.keys) start out
        whole = copied-all (stored look.edition) part ask.field (length part.keys) start out (omega arith) done.copied

        by_post : (o : Option (ℕ → ℕ → List ℕ)) → KnownCopiedTo o (part_of plan sub.first sub.many) ask.field (blocks_of part.keys) start out →
            IfSome (option_map (table_of s) o) (λ t. (so_far : List ℕ) → AreCopied plan (bytes_at t ask.field) so_far start → AreCopied plan (bytes_at t ask.field) (so_far ++ blocks_of part.keys) out)
        by_post None copied = tt
        by_post (Some f) copied = λ so_far so.
            copied-agree plan (f ask.field) (bytes_at (table_of s f) ask.field) (so_far ++ blocks_of part.keys) out valid.bits (λ b exists. sym (same b exists))
            (copied so_far (copied-agree plan (bytes_at (table_of s f) ask.field) (f ask.field) so_far start valid.bits same so))
          where
            same : (b : ℕ) → b < 2 ^ (length plan.asked.mask - plan.bits) → bytes_at (table_of s f) ask.field b ≡ f ask.field b
            same b exists = entry-table [] s f ask.field b there (subst (λ m. b < m) many_blocks exists)

    absent_is : report.absent ≡ lacking (has_at look.post ask.field) (blocks_of (missed part.keys looked.found))
    absent_is =
        done.absent ∙ ap (λ ks. lacking (has look.edition ask.field) (blocks_of (missed ks (take (length part.keys) looked.found)))) (take_all (length part.keys) part.keys (omega arith))
        ∙ ap (λ f. lacking (has look.edition ask.field) (blocks_of (missed part.keys f))) (take_all (length part.keys) looked.found (omega (arith, look.many)))
        ∙ lacking-agree (has look.edition ask.field) (has_at look.post ask.field) (λ b. b < s.blocks) (λ b exists. has-is time shape has stored s look.post look.edition look.is ask.field b there exists)
        (blocks_of (missed part.keys looked.found)) (blocks_all (λ b. b < s.blocks) (missed part.keys looked.found) (missed-all (λ (key : Key). key.block < s.blocks) part.keys looked.found exist))

    -- all that a round did behind its look
    pub made-round : (room : ℕ) (tells : Bool) (kept_before kept_after : Option HallValue) (held_before held_after : ℕ) (loaded : List (Key × List ℕ)) → loaded ≡ drop (length (missed part.keys looked.found) - room) done.pairs →
        MadeHolds held_before held_after (held_for loaded) → (tells ≡ true → IfSome kept_before (λ hall. kept_after ≡ Some (after_fill number loaded hall))) →
        MadeRound ask plan part.keys looked.found s look.post number room tells kept_before kept_after held_before held_after before after report start out
    made-round room tells kept_before kept_after held_before held_after loaded last held told = record {
      copied = post_copied;
      pairs = done.pairs;
      of_missed = keys_missed;
      blocks = pairs-are;
      hits = done.hits;
      all = done.all;
      absent = absent_is;
      reads = done.reads;
      held = subst (λ ps. MadeHolds held_before held_after (held_for ps)) last_is held;
      told = λ yes. subst (λ ps. IfSome kept_before (λ hall. kept_after ≡ Some (after_fill number ps hall))) last_is (told yes);
    }
      where
        last_is : loaded ≡ drop (length done.pairs - room) done.pairs
        last_is = last ∙ ap (λ n. drop (n - room) done.pairs) (sym many-missed)

-- what follows from what is said
pub following : {A : Type 0} (P Q : A → Type 0) (o : Option A) → IfSome o P → ((x : A) → P x → Q x) → IfSome o Q
following P Q None said next = tt
following P Q (Some x) said next = next x said

-- ---- a round that is refused

-- a fault of the reader is a cause where the step was seen
pub store-caused : (h : HeaderValue) (ask : Ask) (seen : List Post) (before after : ℕ) → plan_fault h ask ≡ None → HasPost seen ask.time → (fault : QueryFault) → IsStoreFault before after fault → IsCaused h ask seen before after fault
store-caused h ask seen before after sound post (faults.StoreFault count) is = (sound, post, is.0, is.1)
store-caused h ask seen before after sound post faults.NoMemory is = is
store-caused h ask seen before after sound post (faults.Plan fault) is = absurd is
store-caused h ask seen before after sound post (faults.NotPublished board) is = absurd is

-- a look that is refused has its cause
pub look-caused : (h : HeaderValue) (ask : Ask) (seen : List Post) (count : ℕ) → plan_fault h ask ≡ None → (fault : QueryFault) → (fault ≡ faults.NoMemory) ⊎ ((fault ≡ faults.NotPublished (length seen)) × Lacks ask.time seen) → IsCaused h ask seen count count fault
look-caused h ask seen count sound fault (inl memory) = subst (IsCaused h ask seen count count) (sym memory) refl
look-caused h ask seen count sound fault (inr lacks) = subst (IsCaused h ask seen count count) (sym lacks.0) (sound, lacks.1, refl, refl)

-- behind its look a round leaves the look alone
pub look-left : (number : ℕ) (s : Shape) (keys : List Key) (posts now : List Post) (found : List (Option (List ℕ))) (room : ℕ) (tells : Bool) (kept_before kept_between kept_after : Option HallValue) (held_before held_between held_after : ℕ) →
    (tells ≡ true → IfSome kept_before (λ hall. IsSeen hall number s keys kept_between posts found room)) → MadeHolds held_before held_between 1 → kept_after ≡ kept_between → held_after ≡ held_between → now ≡ posts →
    LeftLook number keys now tells kept_before kept_after held_before held_after
look-left number s keys posts now found room tells kept_before kept_between kept_after held_before held_between held_after told held same_kept same_held same_posts = (
  λ yes. following (λ hall. IsSeen hall number s keys kept_between posts found room) (λ hall. (hall.board ≡ now) × (kept_after ≡ Some (after_look number keys hall))) kept_before (told yes)
      (λ hall seen. (seen.board ∙ sym same_posts, same_kept ∙ seen.hall)),
  subst (λ n. MadeHolds held_before n 1) (sym same_held) held,
)

pub first-refused : (step : ℕ) (keys : List Key) (posts : List Post) (tells : Bool) (kept_before kept_after : Option HallValue) (held_before held_after before after : ℕ) →
    LeftFirstLook step keys posts tells kept_before kept_after held_before held_after → (fault : QueryFault) → IsStoreFault before after fault → FirstLeft step keys posts tells kept_before kept_after held_before held_after fault
first-refused step keys posts tells kept_before kept_after held_before held_after before after look (faults.StoreFault count) is = look
first-refused step keys posts tells kept_before kept_after held_before held_after before after look faults.NoMemory is = inr look
first-refused step keys posts tells kept_before kept_after held_before held_after before after look (faults.Plan fault) is = absurd is
first-refused step keys posts tells kept_before kept_after held_before held_after before after look (faults.NotPublished board) is = absurd is

pub later-refused : (number : ℕ) (keys : List Key) (posts : List Post) (tells : Bool) (kept_before kept_after : Option HallValue) (held_before held_after before after : ℕ) →
    LeftLook number keys posts tells kept_before kept_after held_before held_after → (fault : QueryFault) → IsStoreFault before after fault → RoundLeft number keys posts tells kept_before kept_after held_before held_after fault
later-refused number keys posts tells kept_before kept_after held_before held_after before after look (faults.StoreFault count) is = look
later-refused number keys posts tells kept_before kept_after held_before held_after before after look faults.NoMemory is = inr look
later-refused number keys posts tells kept_before kept_after held_before held_after before after look (faults.Plan fault) is = absurd is
later-refused number keys posts tells kept_before kept_after held_before held_after before after look (faults.NotPublished board) is = absurd is

-- a look that is refused leaves no more than its hold
pub look-refused : (step : ℕ) (keys : List Key) (posts : List Post) (tells : Bool) (kept_before kept_after : Option HallValue) (held_before held_after : ℕ) → (tells ≡ true → kept_after ≡ kept_before) → MadeHolds held_before held_after 1 →
    (fault : QueryFault) → (fault ≡ faults.NoMemory) ⊎ ((fault ≡ faults.NotPublished (length posts)) × Lacks step posts) → FirstLeft step keys posts tells kept_before kept_after held_before held_after fault
look-refused step keys posts tells kept_before kept_after held_before held_after kept held fault (inl memory) = subst (FirstLeft step keys posts tells kept_before kept_after held_before held_after) (sym memory) (inl (kept, inr held))
look-refused step keys posts tells kept_before kept_after held_before held_after kept held fault (inr lacks) = subst (FirstLeft step keys posts tells kept_before kept_after held_before held_after) (sym lacks.0) (kept, held)

-- a step with a post is not lacked
pub not-lacked : (posts : List Post) (step number : ℕ) (post : Post) → IsNewestOf posts step number post → Lacks step posts → ⊥
not-lacked posts step number post newest lacks = at_each (λ (p : Post). p.time ≢ step) posts number post lacks newest.at newest.time

-- a fault of the reader comes behind its first read
pub store-read : (before after : ℕ) (fault : QueryFault) → IsStoreFault before after fault → IsUnread fault → ⊥
store-read before after (faults.StoreFault count) is unread = unread
store-read before after faults.NoMemory is unread = unread
store-read before after (faults.Plan fault) is unread = is
store-read before after (faults.NotPublished board) is unread = is
