-- What answering a question out of a dataset promises: by the question, what is known of the header text and of the committed
-- files, and the counts of faults and of reads.
use Rattle.std.specs.Prelude.{◌≡◌, ◌≢◌, ◌⊎◌, ℕ, ◌+◌, ◌<◌, List, length, filter, Option, Some, None, IfSome, Ok, Err}
use Rattle.idx_outside.specs.Cause.{MadeReads, Rose}
use Rattle.idx_outside.specs.declared.bay_call.BayCall.{BayCall}
use Rattle.idx_outside.specs.declared.bay_call.BayCall.TheVariants as calls
use Rattle.idx_outside.specs.declared.mem_file.MemFile.{MemFile}
use Rattle.idx_fields.specs.Field.{field_at}
use Rattle.idx_header.specs.declared.header_kind.HeaderKind.TheVariants as kinds
use Rattle.idx_header.specs.Header.{HeaderValue}
use Rattle.idx_header.specs.HeaderOf.{header_of}
use Rattle.idx_plan.specs.Answer.{answer_of}
use Rattle.idx_plan.specs.Needed.{answer_bytes, needed, plan_fault}
use Rattle.idx_plan.specs.declared.ask.Ask.{Ask}
use Rattle.idx_edition.specs.Loaded.{Counts, IsBayFault, IsReaderFault, counts}
use Rattle.idx_edition.specs.Reads.{most_reads}
use Rattle.idx_edition.specs.Newest.{HasBadTable, IsNewest}
use Rattle.idx_edition.specs.Stored.{IsAbsent, StandsAs, first_bad, found_files, has_block, stored_block}
use Rattle.idx_edition.specs.declared.load_fault.LoadFault.TheVariants as load_faults
use Rattle.idx_plan.specs.QuestionValue.{QuestionValue}
use Rattle.idx_query.specs.Reads.{ReadsAtMost}
use Rattle.idx_extract.specs.declared.extract_fault.ExtractFault.{ExtractFault}
use Rattle.idx_extract.specs.declared.extract_fault.ExtractFault.TheVariants as faults

-- What a question asks of a dataset: the samples of the one field that has the name, at the points of a region of as many axes.
pub record IsAsk (h : HeaderValue) (q : QuestionValue) (ask : Ask) : Type 0 where
  pub axes : length q.region ≡ length h.box
  pub field : ask.field < length h.fields
  pub named : (field_at h.fields ask.field).name ≡ q.field
  pub only : (i : ℕ) → i < length h.fields → (field_at h.fields i).name ≡ q.field → i ≡ ask.field
  pub same : ask ≡ record { time = q.time; field = ask.field; region = q.region; lo = q.lo; hi = q.hi }

-- the question asks this of the dataset, and of it this holds
abbrev pub Asks : QuestionValue → HeaderValue → (Ask → Type 0) → Type 0
Asks q h P = (ask : Ask) × (IsAsk h q ask × P ask)

-- no field has the name
abbrev pub LacksField : HeaderValue → QuestionValue → Type 0
LacksField h q = (i : ℕ) → i < length h.fields → (field_at h.fields i).name ≢ q.field

-- The header text, where it is known, is that of a header of which this holds.
abbrev pub Under : Option (List ℕ) → (HeaderValue → Type 0) → Type 0
Under known P = (h : HeaderValue) × (IfSome known (λ text. header_of text ≡ Ok h) × P h)

-- how many reads an answer takes out of the header's own revision of a step: one of the table of each file of it that is there, and
-- one of each needed block that it has
abbrev pub reads_for : HeaderValue → ℕ → List MemFile → Ask → ℕ
reads_for h step files ask =
    length (found_files h step files) + length (filter (has_block h step files ask.field) (needed h ask))

-- The step stands, no row of the files of its newest revision is faulty, the bytes are the answer out of the blocks that it stores,
-- and so many reads were made.
pub record IsAnswer (h : HeaderValue) (ask : Ask) (files : List MemFile) (before after : ℕ) (bytes : List ℕ) : Type 0 where
  pub revised : HeaderValue
  pub stands : StandsAs h ask.time files revised
  pub tables : first_bad revised ask.time files ≡ None
  pub answer : bytes ≡ answer_of h ask (stored_block revised ask.time files)
  pub reads : MadeReads before after (reads_for revised ask.time files ask)

-- The question has a plan, the bytes are as many as it says, and where the committed files are known they are the answer.
pub record IsExtracted (h : HeaderValue) (q : QuestionValue) (files : Option (List MemFile)) (before after : ℕ) (bytes : List ℕ) : Type 0 where
  pub ask : Ask
  pub asked : IsAsk h q ask
  pub sound : plan_fault h ask ≡ None
  pub many : length bytes ≡ answer_bytes h ask
  pub stored : IfSome files (λ files. IsAnswer h ask files before after bytes)

abbrev pub Extracted : QuestionValue → Option (List ℕ) → Option (List MemFile) → ℕ → ℕ → List ℕ → Type 0
Extracted q header files before after bytes = Under header (λ h. IsExtracted h q files before after bytes)

-- the question has a plan
abbrev pub HasPlan : QuestionValue → HeaderValue → Type 0
HasPlan q h = Asks q h (λ ask. plan_fault h ask ≡ None)

-- What each fault of the question and of the step says of the header and of the committed files.
abbrev pub IsStop : HeaderValue → QuestionValue → Option (List MemFile) → ExtractFault → Type 0
IsStop h q files faults.OtherAxes = length q.region ≢ length h.box
IsStop h q files faults.UnknownField = (length q.region ≡ length h.box) × LacksField h q
IsStop h q files (faults.Plan fault) = Asks q h (λ ask. plan_fault h ask ≡ Some fault)
IsStop h q files faults.NotPublished = HasPlan q h × IfSome files (IsAbsent h q.time)
IsStop h q files (faults.BadTable file row kind) =
    HasPlan q h × IfSome files (λ files. HasBadTable h q.time files (load_faults.BadTable file row kind))
IsStop h q files fault = ⊥

-- What is known of a dataset, its header text and its committed files, and what its bay and the reader counted, before and after.
pub record Known : Type 0 where
  pub header : Option (List ℕ)
  pub files : Option (List MemFile)
  pub counts : Counts
  pub reads_before : ℕ
  pub reads_after : ℕ

-- the same of a bay and a reader, by the ghost members of their traits
abbrev pub known : {B R : Type 0} → (B → Option (List ℕ)) → (B → Option (List MemFile)) → (B → ℕ) → (B → Option BayCall) → (R → ℕ) → (R → ℕ) → B → B → R → R → Known
known header files bay_faults failed reader_faults reads bay_old bay_new reader_old reader_new =
    record {
      header = header bay_old;
      files = files bay_old;
      counts = counts bay_faults failed reader_faults bay_old bay_new reader_old reader_new;
      reads_before = reads reader_old;
      reads_after = reads reader_new;
    }

-- the bay counted a fault when it was asked for the header, and the reader none
pub record IsHeaderFault (c : Counts) : Type 0 where
  pub rose : Rose c.bay_before c.bay_after
  pub call : c.failed_after ≡ Some calls.Header
  pub reader : c.reader_after ≡ c.reader_before

-- What each fault says under a header that was read. A fault of the store comes only for a question that has a plan: the bay
-- counted it when it was asked for the step or for a file of it, or the reader did.
abbrev pub IsCauseUnder : HeaderValue → QuestionValue → Known → ExtractFault → Type 0
IsCauseUnder h q k faults.StoreFault = HasPlan q h × (IsBayFault k.counts ⊎ IsReaderFault k.counts)
IsCauseUnder h q k faults.NoMemory = Unit {0}
IsCauseUnder h q k fault = IsStop h q k.files fault

-- What each fault says. A fault of the store comes also where the bay counted one when it was asked for the header.
abbrev pub IsCause : QuestionValue → Known → ExtractFault → Type 0
IsCause q k (faults.Header line kind) =
    (kind ≢ kinds.NoMemory) × IfSome k.header (λ text. header_of text ≡ Err (record { line = line; kind = kind }))
IsCause q k faults.StoreFault = IsHeaderFault k.counts ⊎ Under k.header (λ h. IsCauseUnder h q k faults.StoreFault)
IsCause q k faults.NoMemory = Unit {0}
IsCause q k fault = Under k.header (λ h. IsStop h q k.files fault)

-- No read was made, or the question has a plan under a header that was read, and at most so many reads were made: one of the table
-- of each file of the step's newest revision that is there, and one of each needed block.
abbrev pub ReadsFewUnder : HeaderValue → QuestionValue → Known → Type 0
ReadsFewUnder h q k =
    (k.reads_after ≡ k.reads_before)
    ⊎ Asks q h (λ ask. (plan_fault h ask ≡ None)
    × ((revised : HeaderValue) × (IsNewest h q.time k.files revised
    × ReadsAtMost k.reads_before k.reads_after (most_reads revised q.time k.files + length (needed h ask)))))

-- The same, under a header that is one of the text where that is known.
abbrev pub ReadsFew : QuestionValue → Known → Type 0
ReadsFew q k = (k.reads_after ≡ k.reads_before) ⊎ Under k.header (λ h. ReadsFewUnder h q k)

-- The fault is one of the header, of the question, or of the step's standing: it comes before the first read.
abbrev pub IsUnread : ExtractFault → Type 0
IsUnread (faults.BadTable file row kind) = ⊥
IsUnread faults.StoreFault = ⊥
IsUnread faults.NoMemory = ⊥
IsUnread fault = Unit {0}
