-- What the stages before the first link say: which fault is answered, what is known by then, and what is handed on.
use Rattle.std.specs.Prelude.{◌≡◌, ◌≤◌, ℕ, true, List, map, Option, IfSome}
use Rattle.std.specs.Option.{ForSome}
use Rattle.idx_outside.specs.Files.{HasStep, LiesIn}
use Rattle.idx_outside.specs.Objects.{contents_at}
use Rattle.idx_outside.specs.declared.bay_call.BayCall.{BayCall}
use Rattle.idx_outside.specs.declared.mem_file.MemFile.{MemFile}
use Rattle.idx_header.specs.Header.{HeaderValue, at_revision}
use Rattle.idx_header.specs.Names.{step_folder}
use Rattle.idx_header.specs.OfBay.{Gives}
use Rattle.idx_layout.specs.Shape.{shape_of}
use Rattle.idx_turn.specs.LockId.{LockId}
use Rattle.idx_lock.specs.Seats.{SeatValue}
use Rattle.idx_serve.specs.declared.site.Site.{Site}
use Rattle.idx_query.specs.Capacity.{capacity_for}
use Rattle.idx_board.specs.Standing.{standing_posts}
use Rattle.idx_convert.specs.Convert.{BeginsAt, IsNext}
use Rattle.idx_convert.specs.Known.{Known}
use Rattle.idx_host.specs.Host.{IsLoaded}
use Rattle.idx_live.specs.Live.{IsReady, IsSound}
use Rattle.idx_outside.specs.declared.bay_fault.BayFault.{BayFault}
use Rattle.idx_outside.specs.declared.bay_fault.BayFault.TheVariants as bays
use Rattle.idx_header.specs.declared.header_refusal.HeaderRefusal.{HeaderRefusal}
use Rattle.idx_header.specs.declared.header_refusal.HeaderRefusal.TheVariants as headers
use Rattle.idx_edition.specs.declared.load_fault.LoadFault.{LoadFault}
use Rattle.idx_edition.specs.declared.load_fault.LoadFault.TheVariants as loads
use Rattle.idx_live.specs.declared.live_fault.LiveFault.{LiveFault}
use Rattle.idx_live.specs.declared.live_fault.LiveFault.TheVariants as faults

-- where a header is refused
abbrev pub fault_of_header : HeaderRefusal → LiveFault
fault_of_header (headers.Fault line kind) = faults.Header line kind
fault_of_header headers.Outage = faults.StoreFault
fault_of_header headers.NoMemory = faults.NoMemory

-- where a bay does not say which revisions stand
abbrev pub fault_of_bay : BayFault → LiveFault
fault_of_bay bays.Outage = faults.StoreFault
fault_of_bay bays.NoMemory = faults.NoMemory

-- where a step is not loaded
abbrev pub fault_of_load : LoadFault → LiveFault
fault_of_load (loads.BadTable file row kind) = faults.BadTable file row kind
fault_of_load (loads.StoreFault count) = faults.StoreFault
fault_of_load loads.NoMemory = faults.NoMemory

-- What is known, with this of the bay: its header text and its committed files before, and which call counted the last fault and the
-- counts of faults before and after. The first four are the ghost members of bays.
abbrev pub seen_by : {B : Type 0} → (B → Option (List ℕ)) → (B → Option (List MemFile)) → (B → Option BayCall) → (B → ℕ) → B → B → Known → Known
seen_by header files failed faults old new k =
    record k {
      header = header old;
      files = files old;
      failed = failed old;
      failed_after = failed new;
      bay_before = faults old;
      bay_after = faults new;
    }

-- What is known, with this of the raw volumes: their bytes, and their counts of faults. The first two are the ghost members of sources.
abbrev pub measured : {V : Type 0} → (V → Option (List ℕ)) → (V → ℕ) → List V → List V → Known → Known
measured contents faults old new k =
    record k { raw = contents_at contents old 0; raw_before = map faults old; raw_after = map faults new }

-- What was opened before the first link: the site, the revision of the step that is written next and was begun, and the lock with the
-- seat of its writer, which has seen the steps that stand and nothing else.
pub record IsOpened {R : Type 0} (faults reads : R → ℕ) (name : List ℕ) (cache time : ℕ) (k : Known) (readers_old readers_new : List R)
    (site : Site) (revision : ℕ) (lock : LockId) (writer : SeatValue) : Type 0 where
  pub named : site.name ≡ name
  pub gives : Gives k.header site.header
  pub ready : IsReady site.header time k
  pub few : revision ≤ 255
  pub next : IsNext site.header time k.files (at_revision revision site.header)
  pub begun : BeginsAt (at_revision revision site.header) time k
  pub sound : IsSound site.header k.files
  pub standing : IfSome k.files (λ files. writer.seen.posts ≡ standing_posts site.header files)
  pub shape : writer.seen.shape ≡ shape_of site.header
  pub capacity : writer.seen.capacity ≡ capacity_for site.header cache
  pub of : writer.lock ≡ lock
  pub writes : writer.writer ≡ true
  pub loaded : IsLoaded faults reads site.header k.files readers_old readers_new

-- What stands behind a lock before the first link: the steps that stand, and nothing else, which the seat of its writer has seen. The
-- first reader loaded them, and no row of their files is faulty.
pub record IsLocked {R : Type 0} (faults reads : R → ℕ) (h : HeaderValue) (cache : ℕ) (files : Option (List MemFile)) (readers_old readers_new : List R)
    (lock : LockId) (writer : SeatValue) : Type 0 where
  pub sound : IsSound h files
  pub standing : IfSome files (λ files. writer.seen.posts ≡ standing_posts h files)
  pub shape : writer.seen.shape ≡ shape_of h
  pub capacity : writer.seen.capacity ≡ capacity_for h cache
  pub of : writer.lock ≡ lock
  pub writes : writer.writer ≡ true
  pub loaded : IsLoaded faults reads h files readers_old readers_new

-- The bay admits the drafts of a step of this header, in whose folder no committed file lies.
pub record IsNew {B : Type 0} (files : B → Option (List MemFile)) (admits : B → List ℕ → Type 0) (written : HeaderValue) (time : ℕ) (bay : B) : Type 0 where
  pub admitted : ForSome (step_folder written time) (λ folder. (path : List ℕ) → LiesIn folder path → admits bay path)
  pub lacks : ForSome (step_folder written time) (λ folder. ForSome (files bay) (λ files. ¬ HasStep folder files))
