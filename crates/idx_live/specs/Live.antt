-- What serving a dataset while a step of it is gathered promises: by what is known of the header text, the committed files and the
-- raw volumes, by the counts of the bay, the raw volumes and the first reader, and by what the doors tell.
use Rattle.std.specs.Prelude.{◌≡◌, ◌≢◌, ◌⊎◌, ℕ, ◌≤◌, List, drop, length, map, slice_index, Option, Some, None, IfSome, IsSome, Result, Err}
use Rattle.idx_outside.specs.Cause.{MeetsOnce, NeverFalls, Rose}
use Rattle.idx_outside.specs.Counts.{EachMeetsOnce}
use Rattle.idx_outside.specs.Files.{StillAdmits}
use Rattle.idx_outside.specs.Objects.{OthersUntouched, SameContents, faults_at}
use Rattle.idx_outside.specs.declared.bay_call.BayCall.{BayCall}
use Rattle.idx_outside.specs.declared.bay_call.BayCall.TheVariants as calls
use Rattle.idx_outside.specs.declared.mem_file.MemFile.{MemFile}
use Rattle.idx_header.specs.declared.header_kind.HeaderKind.TheVariants as kinds
use Rattle.idx_header.specs.Header.{HeaderValue, volume_bytes}
use Rattle.idx_header.specs.OfBay.{IsFaultOf}
use Rattle.idx_header.specs.Revisions.{IsRevisionOf, header_to_write}
use Rattle.idx_pieces.specs.Ranks.{rank_count}
use Rattle.idx_hall.specs.Posts.{Post}
use Rattle.idx_edition.specs.declared.load_fault.LoadFault.TheVariants as loads
use Rattle.idx_gather.specs.Gather.{HasFolder, HasVolume, NoneFalls, too_large}
use Rattle.idx_extract.specs.Extract.{Under}
use Rattle.idx_workers.specs.Workers.{Tells}
use Rattle.idx_board.specs.Standing.{first_bad_row}
use Rattle.idx_convert.specs.Convert.{BeginsAt, IsNext}
use Rattle.idx_convert.specs.Known.{Known}
use Rattle.idx_ingest.specs.Ingested.{EndsFailed, IsIngested, known}
use Rattle.idx_host.specs.Host.{IsHosted}
use Rattle.idx_live.specs.declared.live_end.Live.{Live}
use Rattle.idx_live.specs.declared.live_fault.LiveFault.{LiveFault}
use Rattle.idx_live.specs.declared.live_fault.LiveFault.TheVariants as faults

-- The header has a time and the step, and no step of it is too large to write.
pub record MayWrite (h : HeaderValue) (time : ℕ) : Type 0 where
  pub folder : HasFolder h time
  pub small : too_large h ≡ None

-- A revision of the step is left to write, as far as the committed files are known.
abbrev pub HasLeft : HeaderValue → ℕ → Option (List MemFile) → Type 0
HasLeft h time files = IfSome files (λ files. IsSome (header_to_write h time files))

-- The step may be written at one more revision, out of raw volumes that have the right length where their bytes are known.
pub record IsReady (h : HeaderValue) (time : ℕ) (k : Known) : Type 0 where
  pub may_write : MayWrite h time
  pub left : HasLeft h time k.files
  pub size : HasVolume h k.raw

-- no row of the newest revisions of the steps that stand is faulty, as far as the committed files are known
abbrev pub IsSound : HeaderValue → Option (List MemFile) → Type 0
IsSound h files = IfSome files (λ files. first_bad_row h files ≡ None)

-- The dataset was served, and the step was gathered and published beside those who served, or not.
pub record IsLive {V L D R : Type 0} (tell : Tells L D R) (h : HeaderValue) (name : List ℕ) (time : ℕ) (k : Known) (cache workers : ℕ)
    (raws_old raws_new : List V) (doors_old doors_new : List D) (readers_old readers_new : List R) (live : Live) : Type 0 where
  pub ready : IsReady h time k
  -- the header at the revision of the step that was written: the next one
  pub written : HeaderValue
  pub revised : IsRevisionOf h written
  pub next : IsNext h time k.files written
  pub begun : BeginsAt written time k
  -- the posts that stood before the first link, and those at the end: what ingesting says of them is what all posts are
  pub posts : List Post
  pub last : List Post
  pub hosted : IsHosted tell h name k.files cache workers doors_old doors_new readers_old readers_new posts last live.summary
  pub ingested : IsIngested written time (known k.raw k.raw_before k.raw_after k.files k.files_after k.bay_before k.bay_after)
      posts last live.ingested
  -- which call of the bay counted the last fault; and the raw volumes for which the box has no part were not touched
  pub failed : EndsFailed k.files k.files_after k.failed k.failed_after live.ingested
  pub idle : drop (rank_count h.box (length raws_old)) raws_new ≡ drop (rank_count h.box (length raws_old)) raws_old

-- What the call of the bay that failed before the first link tells, in the order of the calls: the header is asked for first; then
-- the revisions of a step that may be written; the files of the steps that stand only where a revision is left and the raw volume has
-- the right length; and the step is begun where no row of these files is faulty.
abbrev pub IsFailedCall : ℕ → Known → Option BayCall → Type 0
IsFailedCall time k (Some calls.Header) = Unit {0}
IsFailedCall time k (Some calls.HasStep) = Under k.header (λ h. MayWrite h time)
IsFailedCall time k (Some calls.Leaf) = Under k.header (λ h. IsReady h time k)
IsFailedCall time k (Some calls.BeginStep) = Under k.header (λ h. IsReady h time k × IsSound h k.files)
IsFailedCall time k call = ⊥

-- the bay counted a fault, and the first reader none, by its counts before and after
pub record IsBayFault (time : ℕ) (k : Known) (before after : ℕ) : Type 0 where
  pub rose : Rose k.bay_before k.bay_after
  pub call : IsFailedCall time k k.failed_after
  pub reader : after ≡ before

-- the first reader counted a fault, for a step that may be written, and the bay none
pub record IsReaderFault (time : ℕ) (k : Known) (before after : ℕ) : Type 0 where
  pub rose : Rose before after
  pub ready : Under k.header (λ h. IsReady h time k)
  pub quiet : k.bay_after ≡ k.bay_before
  pub unfailed : k.failed_after ≡ k.failed

-- What each fault says, with the counts of the first reader before and after. No link was handed out then. An earlier refusal comes
-- first: the header, the step, its size, its revisions, the raw volume, the tables.
abbrev pub IsCause : ℕ → Known → ℕ → ℕ → LiveFault → Type 0
IsCause time k before after (faults.Header line kind) =
    (kind ≢ kinds.NoMemory) × IfSome k.header (λ text. IsFaultOf text line kind)
IsCause time k before after faults.NoStep = Under k.header (λ h. ¬ HasFolder h time)
IsCause time k before after (faults.TooLarge bytes) = Under k.header (λ h. HasFolder h time × (too_large h ≡ Some bytes))
IsCause time k before after faults.AlreadyPublished =
    Under k.header (λ h. MayWrite h time × IfSome k.files (λ files. header_to_write h time files ≡ None))
IsCause time k before after (faults.RawWrongSize want found) =
    Under k.header (λ h. MayWrite h time × HasLeft h time k.files
    × (want ≡ volume_bytes h) × (found ≢ want) × IfSome k.raw (λ bytes. found ≡ length bytes))
IsCause time k before after faults.RawFault =
    Under k.header (λ h. MayWrite h time × HasLeft h time k.files
    × Rose (slice_index k.raw_before 0) (slice_index k.raw_after 0))
IsCause time k before after (faults.BadTable file row kind) =
    Under k.header (λ h. IsReady h time k × IfSome k.files (λ files. first_bad_row h files ≡ Some (loads.BadTable file row kind)))
IsCause time k before after faults.StoreFault = IsBayFault time k before after ⊎ IsReaderFault time k before after
IsCause time k before after faults.NoMemory = Unit {0}

-- What a call that begins no step leaves of the bay: its header text, its files and the folder last begun. Its changes and its faults
-- are as before, unless a fault of the store is answered. The first seven are the ghost members of bays.
pub record OnlyLooks {S T : Type 0} (header : S → Option (List ℕ)) (files : S → Option (List MemFile))
    (begun : S → Option (List ℕ)) (changes : S → ℕ) (failed : S → Option BayCall) (admits : S → List ℕ → Type 0) (counts : S → ℕ)
    (old new : S) (result : Result T LiveFault) : Type 0 where
  pub header_same : header new ≡ header old
  pub files_same : files new ≡ files old
  pub begun_same : begun new ≡ begun old
  pub admits_still : StillAdmits admits old new
  pub unchanged : result ≢ Err faults.StoreFault → changes new ≡ changes old
  pub unfailed : result ≢ Err faults.StoreFault → failed new ≡ failed old
  pub quiet : result ≢ Err faults.StoreFault → counts new ≡ counts old
  pub count : NeverFalls (counts old) (counts new)
  pub once : MeetsOnce (counts old) (counts new)

-- What a call that asks the first raw volume for its length alone leaves of the raw volumes: their bytes, what was asked of them, and
-- all behind the first. Their faults are as before, unless a fault of theirs is answered. The first three are the ghost members
-- of sources.
pub record OnlyMeasures {V T : Type 0} (contents : V → Option (List ℕ)) (asked faults_of : V → ℕ) (old new : List V)
    (result : Result T LiveFault) : Type 0 where
  pub same : SameContents contents old new
  pub unasked : map asked new ≡ map asked old
  pub behind : (n : ℕ) → 1 ≤ n → drop n new ≡ drop n old
  pub number : length new ≡ length old
  pub quiet : result ≢ Err faults.RawFault → map faults_of new ≡ map faults_of old
  pub count : NoneFalls (map faults_of old) (map faults_of new)
  pub once : EachMeetsOnce (map faults_of old) (map faults_of new)

-- What a call that loads with the first reader alone leaves of the readers: all but that one. Its faults are as before, unless a fault
-- of the store is answered.
pub record OnlyLoads {R T : Type 0} (faults_of : R → ℕ) (old new : List R) (result : Result T LiveFault) : Type 0 where
  pub others : OthersUntouched old new 0
  pub number : length new ≡ length old
  pub quiet : result ≢ Err faults.StoreFault → faults_at faults_of new 0 ≡ faults_at faults_of old 0
  pub count : NeverFalls (faults_at faults_of old 0) (faults_at faults_of new 0)
  pub once : MeetsOnce (faults_at faults_of old 0) (faults_at faults_of new 0)
