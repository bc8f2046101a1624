-- What is said between the steps of an answer.
use Rattle.std.specs.Prelude.{◌≡◌, ◌⊎◌, ℕ, ◌+◌, ◌-◌, ◌*◌, ◌^◌, ◌<◌, Bool, true, false, nat_lt, if◌then◌else◌, List, [], ◌∷◌, ◌++◌, length, take, drop, map, sum_by, All, IfSome, Option, Some, None, slice_get, slice_index}
use Rattle.std.specs.List.{flat_map}
use Rattle.idx_outside.specs.Cause.{MadeReads, Rose}
use Rattle.idx_outside.specs.Shape.{Shape}
use Rattle.idx_hall.specs.declared.key.Key.{Key}
use Rattle.idx_hall.specs.Posts.{IsNewestOf, IsPostOf, Post, bytes_at, has_at, post_of}
use Rattle.idx_hall.specs.Hall.{HallValue, IsBlockOf, after_fill, after_look, named, noted}
use Rattle.idx_hall.specs.Looked.{LookedValue}
use Rattle.idx_hall.specs.Calls.{AreBlocksOf}
use Rattle.idx_turn.specs.Stands.{MadeHolds}
use Rattle.idx_plan.specs.Plan.{PlanValue}
use Rattle.idx_plan.specs.declared.ask.Ask.{Ask}
use Rattle.idx_scatter.specs.Scatter.{IsScattered}
use Rattle.idx_query.specs.declared.query_fault.QueryFault.{QueryFault}
use Rattle.idx_query.specs.declared.query_fault.QueryFault.TheVariants as faults
use Rattle.idx_query.specs.Blocks.{AreCopied, blocks_of, lacking}
use Rattle.idx_query.specs.Rounds.{AreRounds, IsRound, holds_by, holds_for, missed, missed_in}
use Rattle.idx_query.specs.declared.report.Report.{Report}

-- a report with one block more, which was cached, which came by a read, or which is absent
abbrev pub with_hit : Report → Report
with_hit r = record { post = r.post; hits = r.hits + 1; reads = r.reads; absent = r.absent }

abbrev pub with_read : Report → Report
with_read r = record { post = r.post; hits = r.hits; reads = r.reads + 1; absent = r.absent }

abbrev pub with_absent : Report → Report
with_absent r = record { post = r.post; hits = r.hits; reads = r.reads; absent = r.absent + 1 }

-- the blocks that a round loads: how many of the next ones are not kept, those that are, and how many bytes each has
pub record LoadingValue : Type 0 where
  pub skip : ℕ
  pub loaded : List (Key × List ℕ)
  pub bytes : ℕ

abbrev pub load_state : ℕ → List (Key × List ℕ) → ℕ → LoadingValue
load_state skip loaded bytes = record { skip = skip; loaded = loaded; bytes = bytes }

-- with one block more, which is kept unless it is to be skipped
abbrev pub with_block : Key × List ℕ → LoadingValue → LoadingValue
with_block pair l = if nat_lt 0 l.skip then load_state (l.skip - 1) l.loaded l.bytes else load_state l.skip (l.loaded ++ pair ∷ []) l.bytes

-- the bytes are as many as a block has, and are the block where it is known
pub record IsBlock (bytes_each field : ℕ) (known : Option (ℕ → ℕ → List ℕ)) (pair : Key × List ℕ) : Type 0 where
  pub many : length pair.1 ≡ bytes_each
  pub stored : IfSome known (λ stored. pair.1 ≡ stored field pair.0.block)

-- what was found of each key is its block
abbrev pub AreFound : ℕ → ℕ → Option (ℕ → ℕ → List ℕ) → List Key → List (Option (List ℕ)) → Type 0
AreFound bytes_each field stored keys found = (i : ℕ) (key : Key) (bytes : List ℕ) →
    slice_get keys i ≡ Some key → slice_get found i ≡ Some (Some bytes) → IsBlock bytes_each field stored (key, bytes)

-- an edition of this shape is this post
pub record IsEditionOf {E : Type 0} (time : E → ℕ) (shape : E → Shape) (has : E → ℕ → ℕ → Bool) (stored : E → Option (ℕ → ℕ → List ℕ))
    (s : Shape) (post : Post) (e : E) : Type 0 where
  pub shaped : shape e ≡ s
  pub is : post_of s (time e) (has e) (stored e) ≡ post

-- The first so many keys of a plan have come: their samples are copied beside those that were copied before, and of those of which nothing was found the blocks are
-- loaded, but for the first ones that are skipped.
pub record AreDone (plan : PlanValue) (field : ℕ) (has : ℕ → Bool) (stored : Option (ℕ → ℕ → List ℕ)) (found : List (Option (List ℕ))) (n : ℕ)
    (before after : ℕ) (old new : LoadingValue) (report : Report) (out_old out : List ℕ) : Type 0 where
  pub copied : IfSome stored (λ stored. (done : List ℕ) → AreCopied plan (stored field) done out_old →
      AreCopied plan (stored field) (done ++ blocks_of (take n plan.keys)) out)
  pub pairs : List (Key × List ℕ)
  pub keys : map (λ pair. pair.0) pairs ≡ missed (take n plan.keys) (take n found)
  pub blocks : All (IsBlock old.bytes field stored) pairs
  pub loaded : new ≡ load_state (old.skip - length pairs) (old.loaded ++ drop old.skip pairs) old.bytes
  pub hits : report.hits + length pairs ≡ n
  pub all : report.reads + report.absent ≡ length pairs
  pub absent : report.absent ≡ lacking has (blocks_of (missed (take n plan.keys) (take n found)))
  pub reads : MadeReads before after report.reads

-- One key more has come. What was found of it is copied; where nothing was, its block is loaded, by a read or as zeros.
pub record IsCameBy (plan : PlanValue) (field : ℕ) (has : ℕ → Bool) (stored : Option (ℕ → ℕ → List ℕ)) (found : List (Option (List ℕ))) (i : ℕ)
    (before after : ℕ) (old new : LoadingValue) (report_old report_new : Report) (out_old out_new : List ℕ) : Type 0 where
  pub key : Key
  pub at : slice_get plan.keys i ≡ Some key
  pub bytes : List ℕ
  pub block : IsBlock old.bytes field stored (key, bytes)
  pub scattered : IsScattered plan.asked plan.bits key.block plan.size bytes out_old out_new
  pub came : ((slice_get found i ≡ Some (Some bytes)) × (new ≡ old) × (report_new ≡ with_hit report_old) × (after ≡ before))
      ⊎ ((slice_get found i ≡ Some None) × (new ≡ with_block (key, bytes) old)
      × (((has key.block ≡ true) × (report_new ≡ with_read report_old) × MadeReads before after 1)
      ⊎ ((has key.block ≡ false) × (report_new ≡ with_absent report_old) × (after ≡ before))))

-- a fault is the reader's, whose count it has, or want of memory
abbrev pub IsStoreFault : ℕ → ℕ → QueryFault → Type 0
IsStoreFault before after (faults.StoreFault count) = (count ≡ after) × Rose before after
IsStoreFault before after faults.NoMemory = after ≡ before
IsStoreFault before after fault = ⊥

-- What was seen of a told hall in the post of a number, and what the look left.
pub record IsSeen (before : HallValue) (number : ℕ) (s : Shape) (keys : List Key) (after : Option HallValue) (posts : List Post) (looked : List (Option (List ℕ))) (room : ℕ) : Type 0 where
  pub shape : before.shape ≡ s
  pub board : before.board ≡ posts
  pub found : looked ≡ noted (named number keys) before.cache.pairs
  pub hall : after ≡ Some (after_look number keys before)
  pub room_is : room ≡ before.cache.cap

-- What a look gave: the post of this number, which is of the time and among those that were seen; what was found of each key is its
-- block in the post; and the edition is the post.
pub record HasLooked {E : Type 0} (time : E → ℕ) (shape : E → Shape) (has : E → ℕ → ℕ → Bool) (stored : E → Option (ℕ → ℕ → List ℕ))
    (s : Shape) (posts : List Post) (step number : ℕ) (keys : List Key) (looked : LookedValue E) : Type 0 where
  pub post : Post
  pub at : IsPostOf posts step number post
  pub blocks : AreBlocksOf s post keys looked.found
  pub many : length looked.found ≡ length keys
  pub edition : E
  pub here : looked.edition ≡ Some edition
  pub is : IsEditionOf time shape has stored s post edition

-- what a round may be copied with: an edition with the field and with the plan's blocks, whose found blocks are its own
pub record CanCopy {E : Type 0} (shape : E → Shape) (stored : E → Option (ℕ → ℕ → List ℕ)) (e : E) (f : ℕ) (plan : PlanValue) (n : ℕ)
    (looked : List (Option (List ℕ))) : Type 0 where
  pub field : f < length (shape e).lengths
  pub exist : All (λ key. key.block < (shape e).blocks) plan.keys
  pub bytes : n ≡ slice_index (shape e).lengths f
  pub block : n ≡ plan.size * 2 ^ plan.bits
  pub count : length looked ≡ length plan.keys
  pub found : AreFound n f (stored e) plan.keys looked

-- of the blocks that are to be loaded only as many are kept, the last ones, as the cache has room for
abbrev pub kept_last : List Key → List (Option (List ℕ)) → ℕ → LoadingValue → LoadingValue
kept_last keys found room l = load_state (length (missed keys found) - room) l.loaded l.bytes

-- a plan with some of its keys: so many from one on
abbrev pub part_of : PlanValue → ℕ → ℕ → PlanValue
part_of plan first many = record {
  samples = plan.samples;
  bytes = plan.bytes;
  keys = take many (drop first plan.keys);
  asked = plan.asked;
  bits = plan.bits;
  size = plan.size;
}

-- a plan with some of the keys of another
pub record IsPartOf (plan part : PlanValue) : Type 0 where
  pub first : ℕ
  pub many : ℕ
  pub is : part ≡ part_of plan first many

-- how often the hall is held to put these blocks: not at all, where there are none
abbrev pub held_for : List (Key × List ℕ) → ℕ
held_for [] = 0
held_for (pair ∷ pairs) = 1

-- What a round did behind its look, out of the post of this number, with these keys, of which this was found. Its samples are copied beside
-- those that were copied before, and the missing blocks are put, or the last of them, where the cache has room for no more.
pub record MadeRound (ask : Ask) (plan : PlanValue) (keys : List Key) (found : List (Option (List ℕ))) (s : Shape) (post : Post) (number room : ℕ) (tells : Bool)
    (kept_before kept_after : Option HallValue) (held_before held_after reads_before reads_after : ℕ) (report : Report) (out_old out_new : List ℕ) : Type 0 where
  pub copied : IfSome post.stored (λ t. (done : List ℕ) → AreCopied plan (bytes_at t ask.field) done out_old →
      AreCopied plan (bytes_at t ask.field) (done ++ blocks_of keys) out_new)
  pub pairs : List (Key × List ℕ)
  pub of_missed : map (λ pair. pair.0) pairs ≡ missed keys found
  pub blocks : All (IsBlockOf s post) pairs
  pub hits : report.hits + length pairs ≡ length keys
  pub all : report.reads + report.absent ≡ length pairs
  pub absent : report.absent ≡ lacking (has_at post ask.field) (blocks_of (missed keys found))
  pub reads : MadeReads reads_before reads_after report.reads
  pub held : MadeHolds held_before held_after (held_for (drop (length pairs - room) pairs))
  pub told : tells ≡ true → IfSome kept_before (λ hall. kept_after ≡ Some (after_fill number (drop (length pairs - room) pairs) hall))

-- What one round did out of the post of this number, with these keys. Its samples are copied beside those that were copied before. Where the
-- hall is told, the keys of which nothing was cached are the missing ones, and it is as a round leaves it.
pub record DidRound (ask : Ask) (plan : PlanValue) (keys : List Key) (post : Post) (number : ℕ) (tells : Bool) (kept_before kept_after : Option HallValue)
    (held_before held_after reads_before reads_after : ℕ) (report : Report) (out_old out_new : List ℕ) : Type 0 where
  pub copied : IfSome post.stored (λ t. (done : List ℕ) → AreCopied plan (bytes_at t ask.field) done out_old →
      AreCopied plan (bytes_at t ask.field) (done ++ blocks_of keys) out_new)
  pub missing : List Key
  pub hits : report.hits + length missing ≡ length keys
  pub all : report.reads + report.absent ≡ length missing
  pub absent : report.absent ≡ lacking (has_at post ask.field) (blocks_of missing)
  pub reads : MadeReads reads_before reads_after report.reads
  pub held : MadeHolds held_before held_after (holds_for missing)
  pub told : tells ≡ true → IfSome kept_before (λ hall. (missing ≡ missed_in number keys hall)
      × (left : HallValue) × (kept_after ≡ Some left) × IsRound post number keys hall left)

-- The same of rounds one after another.
pub record DidRounds (ask : Ask) (plan : PlanValue) (rounds : List (List Key)) (post : Post) (number : ℕ) (tells : Bool) (kept_before kept_after : Option HallValue)
    (held_before held_after reads_before reads_after : ℕ) (report : Report) (out : List ℕ) : Type 0 where
  pub copied : IfSome post.stored (λ t. AreCopied plan (bytes_at t ask.field) (blocks_of (flat_map (λ keys. keys) rounds)) out)
  pub missing : List Key
  pub fetched : List ℕ
  pub each : length fetched ≡ length rounds
  pub sum : sum_by (λ n. n) fetched ≡ length missing
  pub hits : report.hits + length missing ≡ length (flat_map (λ keys. keys) rounds)
  pub all : report.reads + report.absent ≡ length missing
  pub absent : report.absent ≡ lacking (has_at post ask.field) (blocks_of missing)
  pub reads : MadeReads reads_before reads_after report.reads
  pub held : MadeHolds held_before held_after (sum_by holds_by fetched)
  pub told : tells ≡ true → IfSome kept_before (λ hall. (left : HallValue) × (kept_after ≡ Some left)
      × AreRounds post number rounds hall left missing (sum_by holds_by fetched))

-- what a refused round left: nothing, but perhaps a hold for a look that was refused
abbrev pub LeftBare : Bool → Option HallValue → Option HallValue → ℕ → ℕ → Type 0
LeftBare tells kept_before kept_after held_before held_after =
    (tells ≡ true → kept_after ≡ kept_before) × (MadeHolds held_before held_after 0 ⊎ MadeHolds held_before held_after 1)

-- or its look alone, in the post of this number
abbrev pub LeftLook : ℕ → List Key → List Post → Bool → Option HallValue → Option HallValue → ℕ → ℕ → Type 0
LeftLook number keys posts tells kept_before kept_after held_before held_after =
    (tells ≡ true → IfSome kept_before (λ hall. (hall.board ≡ posts) × (kept_after ≡ Some (after_look number keys hall))))
    × MadeHolds held_before held_after 1

-- what each refusal of a round leaves, behind the first one
abbrev pub RoundLeft : ℕ → List Key → List Post → Bool → Option HallValue → Option HallValue → ℕ → ℕ → QueryFault → Type 0
RoundLeft number keys posts tells kept_before kept_after held_before held_after (faults.StoreFault count) =
    LeftLook number keys posts tells kept_before kept_after held_before held_after
RoundLeft number keys posts tells kept_before kept_after held_before held_after faults.NoMemory =
    LeftBare tells kept_before kept_after held_before held_after
    ⊎ LeftLook number keys posts tells kept_before kept_after held_before held_after
RoundLeft number keys posts tells kept_before kept_after held_before held_after fault = ⊥

-- the look of the first round alone, in the newest post of the time
abbrev pub LeftFirstLook : ℕ → List Key → List Post → Bool → Option HallValue → Option HallValue → ℕ → ℕ → Type 0
LeftFirstLook step keys posts tells kept_before kept_after held_before held_after =
    (number : ℕ) × (post : Post) × IsNewestOf posts step number post
    × LeftLook number keys posts tells kept_before kept_after held_before held_after

-- what each refusal of the first round leaves
abbrev pub FirstLeft : ℕ → List Key → List Post → Bool → Option HallValue → Option HallValue → ℕ → ℕ → QueryFault → Type 0
FirstLeft step keys posts tells kept_before kept_after held_before held_after (faults.StoreFault count) =
    LeftFirstLook step keys posts tells kept_before kept_after held_before held_after
FirstLeft step keys posts tells kept_before kept_after held_before held_after faults.NoMemory =
    LeftBare tells kept_before kept_after held_before held_after
    ⊎ LeftFirstLook step keys posts tells kept_before kept_after held_before held_after
FirstLeft step keys posts tells kept_before kept_after held_before held_after (faults.NotPublished board) =
    (tells ≡ true → kept_after ≡ kept_before) × MadeHolds held_before held_after 1
FirstLeft step keys posts tells kept_before kept_after held_before held_after (faults.Plan fault) = ⊥
