-- What is seen of the objects of a run: each object as it was before and as it is after, with the ghost members of its trait.
use Rattle.std.specs.Prelude.{◌≡◌, ℕ, List, Option, map}
use Rattle.idx_outside.specs.Input.{Reading}
use Rattle.idx_outside.specs.Doors.{DoorTold}
use Rattle.idx_outside.specs.Objects.{contents_at, faults_at}
use Rattle.idx_outside.specs.declared.bay_call.BayCall.{BayCall}
use Rattle.idx_outside.specs.declared.mem_file.MemFile.{MemFile}
use Rattle.idx_serve.specs.Visits.{LinkTells, link_tells}

-- Raw volumes. What they hold is known or not, and how many faults were counted and how many bytes were asked for is told.
pub record RawsSeen (V : Type 0) : Type 0 where
  pub contents : V → Option (List ℕ)
  pub faults : V → ℕ
  pub asked : V → ℕ
  pub old : List V
  pub new : List V

-- A bay: its header text, its committed files and the folder last begun, known or not; how many calls changed it, which call
-- counted the last fault, and how many faults were counted.
pub record BaySeen (B : Type 0) : Type 0 where
  pub header : B → Option (List ℕ)
  pub files : B → Option (List MemFile)
  pub begun : B → Option (List ℕ)
  pub changes : B → ℕ
  pub failed : B → Option BayCall
  pub faults : B → ℕ
  pub old : B
  pub new : B

-- Readers, with their counts of faults, of reads and of the bytes that were asked for.
pub record ReadersSeen (R : Type 0) : Type 0 where
  pub faults : R → ℕ
  pub reads : R → ℕ
  pub asked : R → ℕ
  pub old : List R
  pub new : List R

-- A sink: what was written to it, known or not, and its count of faults.
pub record SinkSeen (K : Type 0) : Type 0 where
  pub contents : K → Option (List ℕ)
  pub faults : K → ℕ
  pub old : K
  pub new : K

-- Doors: what a door tells of the links that it hands out, and its count of faults; and what links tell.
pub record DoorsSeen (D L : Type 0) : Type 0 where
  pub told : D → Option (DoorTold L)
  pub faults : D → ℕ
  pub links : LinkTells L
  pub old : List D
  pub new : List D

-- the bytes of the first raw volume, and its counts before and after
abbrev pub raw_bytes : {V : Type 0} → RawsSeen V → Option (List ℕ)
raw_bytes raws = contents_at raws.contents raws.old 0

abbrev pub raw_before : {V : Type 0} → RawsSeen V → ℕ
raw_before raws = faults_at raws.faults raws.old 0

abbrev pub raw_after : {V : Type 0} → RawsSeen V → ℕ
raw_after raws = faults_at raws.faults raws.new 0

-- the counts of all raw volumes, before and after
abbrev pub raws_before : {V : Type 0} → RawsSeen V → List ℕ
raws_before raws = map raws.faults raws.old

abbrev pub raws_after : {V : Type 0} → RawsSeen V → List ℕ
raws_after raws = map raws.faults raws.new

-- how many bytes were asked of each raw volume, before and after
abbrev pub raws_asked_before : {V : Type 0} → RawsSeen V → List ℕ
raws_asked_before raws = map raws.asked raws.old

abbrev pub raws_asked_after : {V : Type 0} → RawsSeen V → List ℕ
raws_asked_after raws = map raws.asked raws.new

-- how many bytes were asked of the first raw volume, before and after
abbrev pub raw_asked_before : {V : Type 0} → RawsSeen V → ℕ
raw_asked_before raws = faults_at raws.asked raws.old 0

abbrev pub raw_asked_after : {V : Type 0} → RawsSeen V → ℕ
raw_asked_after raws = faults_at raws.asked raws.new 0

-- The bay was not changed: its header text and its committed files are as they were, no call changed it, and no step was begun.
pub record IsUnchanged {B : Type 0} (bay : BaySeen B) : Type 0 where
  pub header : bay.header bay.new ≡ bay.header bay.old
  pub files : bay.files bay.new ≡ bay.files bay.old
  pub begun : bay.begun bay.new ≡ bay.begun bay.old
  pub changes : bay.changes bay.new ≡ bay.changes bay.old

-- the bay's counts before and after
abbrev pub bay_before : {B : Type 0} → BaySeen B → ℕ
bay_before bay = bay.faults bay.old

abbrev pub bay_after : {B : Type 0} → BaySeen B → ℕ
bay_after bay = bay.faults bay.new

-- the first reader's counts of faults before and after
abbrev pub reader_before : {R : Type 0} → ReadersSeen R → ℕ
reader_before readers = faults_at readers.faults readers.old 0

abbrev pub reader_after : {R : Type 0} → ReadersSeen R → ℕ
reader_after readers = faults_at readers.faults readers.new 0

-- The counts of a reader before and after: of its faults, and of its reads.
pub record ReaderCounts : Type 0 where
  pub faults_before : ℕ
  pub faults_after : ℕ
  pub reads_before : ℕ
  pub reads_after : ℕ

-- those of the first reader
abbrev pub reader_counts : {R : Type 0} → ReadersSeen R → ReaderCounts
reader_counts readers =
    record {
      faults_before = faults_at readers.faults readers.old 0;
      faults_after = faults_at readers.faults readers.new 0;
      reads_before = faults_at readers.reads readers.old 0;
      reads_after = faults_at readers.reads readers.new 0;
    }

-- how many reads the first reader made, and how many bytes were asked of it, before and after
pub record FirstReads : Type 0 where
  pub reads_before : ℕ
  pub reads_after : ℕ
  pub asked_before : ℕ
  pub asked_after : ℕ

abbrev pub first_reads : {R : Type 0} → ReadersSeen R → FirstReads
first_reads readers =
    record {
      reads_before = faults_at readers.reads readers.old 0;
      reads_after = faults_at readers.reads readers.new 0;
      asked_before = faults_at readers.asked readers.old 0;
      asked_after = faults_at readers.asked readers.new 0;
    }

-- the sink's counts before and after
abbrev pub sink_before : {K : Type 0} → SinkSeen K → ℕ
sink_before sink = sink.faults sink.old

abbrev pub sink_after : {K : Type 0} → SinkSeen K → ℕ
sink_after sink = sink.faults sink.new

-- the counts of faults of all readers, before and after
abbrev pub readers_before : {R : Type 0} → ReadersSeen R → List ℕ
readers_before readers = map readers.faults readers.old

abbrev pub readers_after : {R : Type 0} → ReadersSeen R → List ℕ
readers_after readers = map readers.faults readers.new

-- those of all doors
abbrev pub doors_before : {D L : Type 0} → DoorsSeen D L → List ℕ
doors_before doors = map doors.faults doors.old

abbrev pub doors_after : {D L : Type 0} → DoorsSeen D L → List ℕ
doors_after doors = map doors.faults doors.new

-- what is seen of these objects, by the ghost members of their traits
abbrev pub raws_seen : {V : Type 0} → (V → Option (List ℕ)) → (V → ℕ) → (V → ℕ) → List V → List V → RawsSeen V
raws_seen contents faults asked old new =
    record { contents = contents; faults = faults; asked = asked; old = old; new = new }

abbrev pub bay_seen : {B : Type 0} → (B → Option (List ℕ)) → (B → Option (List MemFile)) → (B → Option (List ℕ)) → (B → ℕ) → (B → Option BayCall) → (B → ℕ) → B → B → BaySeen B
bay_seen header files begun changes failed faults old new =
    record {
      header = header;
      files = files;
      begun = begun;
      changes = changes;
      failed = failed;
      faults = faults;
      old = old;
      new = new;
    }

abbrev pub readers_seen : {R : Type 0} → (R → ℕ) → (R → ℕ) → (R → ℕ) → List R → List R → ReadersSeen R
readers_seen faults reads asked old new = record { faults = faults; reads = reads; asked = asked; old = old; new = new }

abbrev pub sink_seen : {K : Type 0} → (K → Option (List ℕ)) → (K → ℕ) → K → K → SinkSeen K
sink_seen contents faults old new = record { contents = contents; faults = faults; old = old; new = new }

abbrev pub doors_seen : {D L : Type 0} → (D → Option (DoorTold L)) → (D → ℕ) → (L → Option (List ℕ)) → (L → Option (List ℕ)) → (L → Option (List Reading)) → (L → ℕ) → List D → List D → DoorsSeen D L
doors_seen told faults incoming written readings link_faults old new =
    record { told = told; faults = faults; links = link_tells incoming written readings link_faults; old = old; new = new }
