-- A header by its values, and the numbers that follow from them (OpenVisus IDX).
use Rattle.std.specs.Prelude.{◌≡◌, ℕ, true, false, ◌+◌, ◌-◌, ◌*◌, ◌/◌, ◌^◌, ◌≤◌, List, length, map, sum, All, Option, Some, None, IfSome}
use Rattle.idx_geom.specs.Region.{IsRegion, points, upper_ends}
use Rattle.idx_table.specs.Table.{table_bytes}
use Rattle.idx_text.specs.Trim.{trimmed}
use Rattle.idx_text.specs.Lines.{is_text_line}
use Rattle.idx_hz.specs.Mask.{IsMask, HasAddress}
use Rattle.idx_fields.specs.Field.{Field, field_at, sample_bytes}
use Rattle.idx_fields.specs.Fields.{AreFields}
use Rattle.idx_fields.specs.Fields.{Agree as AgreeFields}
use Rattle.idx_names.specs.Template.{TemplateValue, IsTemplate, Fits}
use Rattle.idx_names.specs.TimeTemplate.{IsTimeTemplate}
use Rattle.idx_header.specs.declared.steps.Steps.{Steps}
use Rattle.idx_header.specs.declared.unknown.Unknown.{Unknown}
use Rattle.idx_header.specs.Box.{box_of}
use Rattle.idx_header.specs.Keys.{is_known_key}
use Rattle.idx_header.specs.Time.{step_count}

pub record HeaderValue : Type 0 where
  pub box : List (ℕ × ℕ)
  pub mask : List ℕ
  pub fields : List Field
  pub block_bits : ℕ
  pub blocks_per_file : ℕ
  pub template : TemplateValue
  pub steps : Option Steps
  pub unknown : List Unknown
  pub revision : ℕ

-- the header at this revision of its steps, which counts from 0; all other values are the same
abbrev pub at_revision : ℕ → HeaderValue → HeaderValue
at_revision r h =
    record {
      box = h.box;
      mask = h.mask;
      fields = h.fields;
      block_bits = h.block_bits;
      blocks_per_file = h.blocks_per_file;
      template = h.template;
      steps = h.steps;
      unknown = h.unknown;
      revision = r;
    }

-- how many blocks of 2^bits addresses there are under a mask of so many digits
abbrev pub blocks_under : ℕ → ℕ → ℕ
blocks_under digits bits = 2 ^ (digits - bits)

-- how many bytes 2^bits samples of so many bytes have
abbrev pub samples_bytes : ℕ → ℕ → ℕ
samples_bytes size bits = size * 2 ^ bits

-- how many blocks there are
abbrev pub block_count : HeaderValue → ℕ
block_count h = blocks_under (length h.mask) h.block_bits

-- the number of the file in which a block stands: that of its first block
abbrev pub file_of : HeaderValue → ℕ → ℕ
file_of h block = h.blocks_per_file * (block / h.blocks_per_file)

-- the number of the last file
abbrev pub last_file : HeaderValue → ℕ
last_file h = file_of h (block_count h - 1)

-- how many bytes a sample of this field has
abbrev pub sample_bytes_of : HeaderValue → ℕ → ℕ
sample_bytes_of h field = sample_bytes (field_at h.fields field)

-- how many bytes a block of this field has
abbrev pub block_bytes : HeaderValue → ℕ → ℕ
block_bytes h field = samples_bytes (sample_bytes_of h field) h.block_bits

-- how many bytes the samples of the box have, those of all fields together
abbrev pub volume_bytes : HeaderValue → ℕ
volume_bytes h = length (points h.box) * sum (map sample_bytes h.fields)

-- what is true of the steps of a header
pub record AreSteps (steps : Steps) : Type 0 where
  pub ordered : steps.first ≤ steps.last
  pub last : steps.last ≤ 2 ^ 31 - 1
  pub few : step_count steps ≤ 4096
  pub template : IsTimeTemplate steps.template

-- what is true of a key that has no effect: it is none of the known ones, and it and its value stand on lines as they are
pub record IsUnknown (u : Unknown) : Type 0 where
  pub key : is_text_line u.key ≡ true
  pub unknown : is_known_key u.key ≡ false
  pub value : is_text_line u.value ≡ true
  pub trimmed : trimmed u.value ≡ u.value

-- no byte of a field's words may not stand in a text
pub record IsTextField (f : Field) : Type 0 where
  pub name : is_text_line f.name ≡ true
  pub attributes : All (λ word. is_text_line word ≡ true) f.attributes

-- what is true of each header
pub record IsHeader (h : HeaderValue) : Type 0 where
  pub region : IsRegion h.box
  pub mask : IsMask h.mask
  pub covered : HasAddress h.mask (upper_ends h.box)
  pub whole : box_of h.box h.mask ≡ h.box
  pub fields : AreFields h.fields
  pub texts : All IsTextField h.fields
  pub bits_some : 1 ≤ h.block_bits
  pub bits_few : h.block_bits ≤ 20
  pub bits_within : h.block_bits ≤ length h.mask
  pub bits_most : length h.mask ≤ h.block_bits + 24
  pub small_blocks : All (λ f. sample_bytes f * 2 ^ h.block_bits ≤ 2 ^ 24) h.fields
  pub blocks_some : 1 ≤ h.blocks_per_file
  pub blocks_few : h.blocks_per_file ≤ 65536
  pub small_table : table_bytes (length h.fields * h.blocks_per_file) ≤ 2 ^ 24
  pub template : IsTemplate h.template
  pub fits : Fits h.template (last_file h)
  pub steps : IfSome h.steps AreSteps
  pub unknown : All IsUnknown h.unknown
  pub revision_few : h.revision ≤ 255
  pub unrevised : h.steps ≡ None → h.revision ≡ 0

-- the header has this step; without a time the only step is 0
abbrev pub HasTimeAmong : Option Steps → ℕ → Type 0
HasTimeAmong None step = step ≡ 0
HasTimeAmong (Some steps) step = (steps.first ≤ step) × (step ≤ steps.last)

abbrev pub HasTime : HeaderValue → ℕ → Type 0
HasTime h step = HasTimeAmong h.steps step

-- the first and the last step, if the header has a time
abbrev pub ends_of : Option Steps → Option (ℕ × ℕ)
ends_of None = None
ends_of (Some steps) = Some (steps.first, steps.last)

-- all values are equal, attribute words, other keys and the revision apart
pub record Agree (these those : HeaderValue) : Type 0 where
  pub box : these.box ≡ those.box
  pub mask : these.mask ≡ those.mask
  pub fields : AgreeFields these.fields those.fields
  pub block_bits : these.block_bits ≡ those.block_bits
  pub blocks_per_file : these.blocks_per_file ≡ those.blocks_per_file
  pub template : these.template ≡ those.template
  pub steps : these.steps ≡ those.steps
