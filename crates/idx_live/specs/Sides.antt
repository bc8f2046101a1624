-- The two sides, those who serve and the one who writes: what each is handed, and what comes of it.
use Rattle.std.specs.Prelude.{◌≡◌, ◌⊎◌, ℕ, ◌<◌, ◌≤◌, true, false, List, drop, length, map, vec_len, Option, Some}
use Rattle.idx_outside.specs.Cause.{NeverFalls}
use Rattle.idx_outside.specs.Counts.{EachMeetsOnce}
use Rattle.idx_outside.specs.Objects.{SameContents, contents_at}
use Rattle.idx_outside.specs.Shape.{Shape}
use Rattle.idx_outside.specs.declared.bay_call.BayCall.{BayCall}
use Rattle.idx_outside.specs.declared.mem_file.MemFile.{MemFile}
use Rattle.idx_seal.specs.Rows.{MeetsOnceOrRow}
use Rattle.idx_header.specs.Header.{at_revision}
use Rattle.idx_layout.specs.Shape.{shape_of}
use Rattle.idx_pieces.specs.Ranks.{rank_count}
use Rattle.idx_hall.specs.Posts.{Post}
use Rattle.idx_turn.specs.LockId.{LockId}
use Rattle.idx_lock.specs.Seats.{SeatValue}
use Rattle.idx_gather.specs.Gather.{HasFolder, HaveSame, NoneFalls}
use Rattle.idx_serve.specs.declared.door.Summary.{Summary}
use Rattle.idx_serve.specs.declared.site.Site.{Site}
use Rattle.idx_workers.specs.Jobs.{seat_in}
use Rattle.idx_workers.specs.Workers.{AreServed, NoneBegan, Tells}
use Rattle.idx_ingest.specs.Ingested.{EndsFailed, IsIngested, known}
use Rattle.idx_ingest.specs.declared.ingest_end.IngestEnd.{IngestEnd}
use Rattle.idx_live.specs.Stages.{IsNew}
use Rattle.idx_live.specs.declared.sides.Serving.{Serving}
use Rattle.idx_live.specs.declared.sides.Writing.{Writing}

-- a seat of this lock, in its place, that stands for values of this shape
pub record IsSeated (lock : LockId) (shape : Shape) (place : Option SeatValue) : Type 0 where
  pub is : place ≡ Some (seat_in place)
  pub of : (seat_in place).lock ≡ lock
  pub stands : (seat_in place).seen.shape ≡ shape

module _ {S D : Type 0} where
  -- those who serve have a seat that is no writer's, and each a door and a reader, of so many readers
  pub record CanServe (lock : LockId) (shape : Shape) (readers : ℕ) (s : Serving S D) : Type 0 where
    pub seated : IsSeated lock shape s.place
    pub reader : (seat_in s.place).writer ≡ false
    pub some : 0 < s.workers
    pub few : s.workers ≤ 64
    pub a_door : s.workers ≤ vec_len s.doors
    pub a_reader : s.workers ≤ readers

  -- what came of serving, with the seat that comes back
  pub record HasServed {L R : Type 0} (tell : Tells L D R) (site : Site) (old new : Serving S D) (readers_old readers_new : List R)
      (result : SeatValue × Summary) : Type 0 where
    pub served : AreServed tell site old.workers (seat_in old.place) result.0
        old.doors.items new.doors.items readers_old readers_new result.1
        ⊎ NoneBegan (seat_in old.place) result.0 old.doors.items new.doors.items readers_old readers_new result.1

-- What came of gathering and publishing a step at a revision of the site's header, by the posts before and at the end. The functions
-- are ghost members of sources and of bays.
pub record IsWritten {V B : Type 0} (contents : V → Option (List ℕ)) (raw_faults : V → ℕ) (header : B → Option (List ℕ))
    (files : B → Option (List MemFile)) (begun : B → Option (List ℕ)) (failed : B → Option BayCall) (faults : B → ℕ)
    (site : Site) (time revision : ℕ) (posts last : List Post) (raws_old raws_new : List V) (bay_old bay_new : B)
    (end : IngestEnd) : Type 0 where
  pub ingested : IsIngested (at_revision revision site.header) time
      (known (contents_at contents raws_old 0) (map raw_faults raws_old) (map raw_faults raws_new)
      (files bay_old) (files bay_new) (faults bay_old) (faults bay_new)) posts last end
  pub failed_is : EndsFailed (files bay_old) (files bay_new) (failed bay_old) (failed bay_new) end
  pub header_same : header bay_new ≡ header bay_old
  pub begun_same : begun bay_new ≡ begun bay_old
  pub count : NeverFalls (faults bay_old) (faults bay_new)
  pub once : MeetsOnceOrRow (failed bay_new) (length raws_old) (faults bay_old) (faults bay_new)
  pub same : SameContents contents raws_old raws_new
  pub idle : drop (rank_count site.header.box (length raws_old)) raws_new ≡ drop (rank_count site.header.box (length raws_old)) raws_old
  pub raw_count : NoneFalls (map raw_faults raws_old) (map raw_faults raws_new)
  pub raws_once : EachMeetsOnce (map raw_faults raws_old) (map raw_faults raws_new)

module _ {S V B : Type 0} where
  -- the one who writes has the writer's seat, and what ingesting asks
  pub record CanWrite (contents : V → Option (List ℕ)) (files : B → Option (List MemFile)) (admits : B → List ℕ → Type 0)
      (lock : LockId) (site : Site) (w : Writing S V) (bay : B) : Type 0 where
    pub seated : IsSeated lock (shape_of site.header) w.place
    pub writer : (seat_in w.place).writer ≡ true
    pub few_revisions : w.revision ≤ 255
    pub some : 0 < vec_len w.raws
    pub few : vec_len w.raws ≤ 256
    pub alike : HaveSame contents w.raws.items
    pub folder : HasFolder (at_revision w.revision site.header) w.time
    pub new : IsNew files admits (at_revision w.revision site.header) w.time bay

  -- what came of it, with the writer's seat that comes back
  pub record HasWritten (contents : V → Option (List ℕ)) (raw_faults : V → ℕ) (header : B → Option (List ℕ))
      (files : B → Option (List MemFile)) (begun : B → Option (List ℕ)) (failed : B → Option BayCall) (faults : B → ℕ)
      (site : Site) (old new : Writing S V) (bay_old bay_new : B) (result : SeatValue × IngestEnd) : Type 0 where
    pub lock : result.0.lock ≡ (seat_in old.place).lock
    pub writer : result.0.writer ≡ true
    pub shape : result.0.seen.shape ≡ (seat_in old.place).seen.shape
    pub written : IsWritten contents raw_faults header files begun failed faults site old.time old.revision
        (seat_in old.place).seen.posts result.0.seen.posts old.raws.items new.raws.items bay_old bay_new result.1
