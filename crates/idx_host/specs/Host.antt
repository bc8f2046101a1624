-- What serving a dataset promises: by what is known of its header text and its committed files, by the counts of the bay and the
-- reader, and by what the door tells.
use Rattle.std.specs.Prelude.{◌≡◌, ◌≢◌, ◌⊎◌, ℕ, false, List, length, Option, Some, None, IfSome, Err}
use Rattle.idx_outside.specs.Cause.{MadeReads}
use Rattle.idx_outside.specs.Objects.{OthersUntouched, faults_at}
use Rattle.idx_outside.specs.declared.bay_call.BayCall.{BayCall}
use Rattle.idx_outside.specs.declared.mem_file.MemFile.{MemFile}
use Rattle.idx_header.specs.declared.header_kind.HeaderKind.TheVariants as kinds
use Rattle.idx_header.specs.Header.{HeaderValue}
use Rattle.idx_header.specs.HeaderOf.{header_of}
use Rattle.idx_layout.specs.Shape.{shape_of}
use Rattle.idx_hall.specs.Posts.{Post}
use Rattle.idx_turn.specs.LockId.{LockId}
use Rattle.idx_turn.specs.Stands.{Begins, stand}
use Rattle.idx_lock.specs.Seats.{SeatValue, seat_value}
use Rattle.idx_edition.specs.Loaded.{IsBayFault, IsReaderFault}
use Rattle.idx_edition.specs.declared.load_fault.LoadFault.TheVariants as loads
use Rattle.idx_extract.specs.Extract.{IsHeaderFault, Known, Under}
use Rattle.idx_serve.specs.declared.door.Summary.{Summary}
use Rattle.idx_serve.specs.declared.site.Site.{Site}
use Rattle.idx_workers.specs.Workers.{AreServed, NoneBegan, Tells}
use Rattle.idx_query.specs.Capacity.{capacity_for}
use Rattle.idx_board.specs.Standing.{first_bad_row, reads_of, standing_posts, step_numbers}
use Rattle.idx_host.specs.declared.host_fault.HostFault.{HostFault}
use Rattle.idx_host.specs.declared.host_fault.HostFault.TheVariants as faults

-- the site of a header and a name
abbrev pub site_of : HeaderValue → List ℕ → Site
site_of h name = record { header = h; name = name }

-- The steps that stand were loaded: the first reader made one read of each file of their newest revisions that is there and counted no
-- fault, and no other was touched.
pub record IsLoaded {R : Type 0} (faults reads : R → ℕ) (h : HeaderValue) (files : Option (List MemFile)) (old new : List R) : Type 0 where
  pub made : IfSome files (λ files. MadeReads (faults_at reads old 0) (faults_at reads new 0) (reads_of h files (step_numbers h)))
  pub quiet : faults_at faults new 0 ≡ faults_at faults old 0
  pub others : OthersUntouched old new 0
  pub number : length new ≡ length old

-- The seat that serves before the first link: its lock's hall keeps so many blocks, it has seen exactly these posts, and adds none.
abbrev pub serving_seat : LockId → HeaderValue → ℕ → List Post → SeatValue
serving_seat lock h capacity posts = seat_value lock (stand (shape_of h) capacity posts) false

-- So many workers served a site side by side, each at a door and with a reader of its own, out of one hall that keeps so many blocks, on
-- seats that had seen exactly these posts before the first link; or there was no memory for the workers. In the end these are all
-- posts, and what each worker has seen by then is their beginning.
pub record AreServedOut {L D R : Type 0} (tell : Tells L D R) (site : Site) (capacity workers : ℕ) (doors_old doors_new : List D)
    (readers_old readers_new : List R) (posts last : List Post) (summary : Summary) : Type 0 where
  pub lock : LockId
  pub back : SeatValue
  pub served : AreServed tell site workers (serving_seat lock site.header capacity posts) back doors_old doors_new readers_old readers_new summary
      ⊎ NoneBegan (serving_seat lock site.header capacity posts) back doors_old doors_new readers_old readers_new summary
  pub seen : Begins back.seen.posts last

-- No row of the steps that stand is faulty, their newest revisions were published by rising time, and the workers served out of
-- them, with a cache of the capacity that follows from what was wished for.
pub record IsHosted {L D R : Type 0} (tell : Tells L D R) (h : HeaderValue) (name : List ℕ) (files : Option (List MemFile))
    (cache workers : ℕ) (doors_old doors_new : List D) (readers_old readers_new : List R) (posts last : List Post)
    (summary : Summary) : Type 0 where
  pub sound : IfSome files (λ files. first_bad_row h files ≡ None)
  pub standing : IfSome files (λ files. posts ≡ standing_posts h files)
  pub loaded : List R
  pub load : IsLoaded tell.reader_faults tell.reads h files readers_old loaded
  pub served : AreServedOut tell (site_of h name) (capacity_for h cache) workers doors_old doors_new loaded readers_new posts last summary

-- The same under the header of the text, where that is known: no post was added meanwhile.
abbrev pub Hosted : {L D R : Type 0} → Tells L D R → List ℕ → Option (List ℕ) → Option (List MemFile) → ℕ → ℕ → List D → List D → List R → List R → Summary → Type 0
Hosted tell name header files cache workers doors_old doors_new readers_old readers_new summary =
    Under header (λ h. (posts : List Post)
    × IsHosted tell h name files cache workers doors_old doors_new readers_old readers_new posts posts summary)

-- what is known of a bay and of the first reader, by the ghost members of their traits
abbrev pub known_first : {B R : Type 0} → (B → Option (List ℕ)) → (B → Option (List MemFile)) → (B → ℕ) → (B → Option BayCall) → (R → ℕ) → (R → ℕ) → B → B → List R → List R → Known
known_first header files bay_faults failed reader_faults reads bay_old bay_new readers_old readers_new =
    record {
      header = header bay_old;
      files = files bay_old;
      counts = record {
        bay_before = bay_faults bay_old;
        bay_after = bay_faults bay_new;
        failed_before = failed bay_old;
        failed_after = failed bay_new;
        reader_before = faults_at reader_faults readers_old 0;
        reader_after = faults_at reader_faults readers_new 0;
      };
      reads_before = faults_at reads readers_old 0;
      reads_after = faults_at reads readers_new 0;
    }

-- What each fault says. No link was handed out then.
abbrev pub IsCause : Known → HostFault → Type 0
IsCause k (faults.Header line kind) =
    (kind ≢ kinds.NoMemory) × IfSome k.header (λ text. header_of text ≡ Err (record { line = line; kind = kind }))
IsCause k (faults.BadTable file row kind) =
    Under k.header (λ h. IfSome k.files (λ files. first_bad_row h files ≡ Some (loads.BadTable file row kind)))
IsCause k faults.StoreFault = IsHeaderFault k.counts ⊎ Under k.header (λ h. IsBayFault k.counts ⊎ IsReaderFault k.counts)
IsCause k faults.NoMemory = Unit {0}
