-- Why a header is refused: each fault, where it applies, and its line. The first that applies is the answer.
use Rattle.std.specs.Prelude.{ℕ, Bool, true, false, ◌+◌, ◌-◌, ◌*◌, ◌/◌, ◌^◌, ◌==◌, ◌||◌, not, nat_le, nat_lt, List, [], ◌∷◌, length, Option, Some, None, if◌then◌else◌}
use Rattle.std.specs.List.{list_any}
use Rattle.idx_table.specs.Table.{table_bytes}
use Rattle.idx_text.specs.Number.{number_of}
use Rattle.idx_text.specs.Lines.{lines, wrong_line}
use Rattle.idx_text.specs.declared.section.Section.{Section}
use Rattle.idx_hz.specs.MaskText.{mask_of}
use Rattle.idx_fields.specs.Field.{Field, sample_bytes}
use Rattle.idx_fields.specs.Fields.{listed_fields, are_within_limits}
use Rattle.idx_names.specs.Template.{TemplateValue, template_of, room}
use Rattle.idx_header.specs.declared.header_fault.HeaderFault.{HeaderFault}
use Rattle.idx_header.specs.declared.header_kind.HeaderKind.{HeaderKind}
use Rattle.idx_header.specs.declared.header_kind.HeaderKind.TheVariants as kinds
use Rattle.idx_header.specs.declared.steps.Steps.{Steps}
use Rattle.idx_header.specs.Box.{pairs_of, names_pairs, fits_from}
use Rattle.idx_header.specs.Keys.{repeated, lacks_key}
use Rattle.idx_header.specs.Time.{steps_of, step_count}

-- this fault on this line, where it applies
abbrev pub fault_where : Bool → ℕ → HeaderKind → Option HeaderFault
fault_where applies line kind = if applies then Some (record { line = line; kind = kind }) else None

-- the first fault
abbrev pub first_of : List (Option HeaderFault) → Option HeaderFault
first_of [] = None
first_of (Some fault ∷ faults) = Some fault
first_of (None ∷ faults) = first_of faults

abbrev pub is_none : {A : Type 0} → Option A → Bool
is_none None = true
is_none (Some a) = false

-- the value that was read, or this one
abbrev pub or_else : {A : Type 0} → A → Option A → A
or_else other None = other
or_else other (Some a) = a

-- the number that a section gives
abbrev pub number_in : Section → ℕ
number_in s = or_else 0 (number_of s.value)

-- the pairs of the box, as they are written
abbrev pub pairs_in : Section → List (ℕ × ℕ)
pairs_in box = or_else [] (pairs_of box.value)

abbrev pub mask_in : Section → List ℕ
mask_in bits = or_else [] (mask_of bits.value)

abbrev pub fields_in : Section → List Field
fields_in fields = or_else [] (listed_fields fields.value)

-- the text has more than 65,536 bytes
abbrev pub too_long : List ℕ → Option HeaderFault
too_long text = fault_where (nat_lt 65536 (length text)) 0 kinds.OverLimit

-- a line has a byte that may not stand in a text
abbrev pub not_text_on : Option ℕ → Option HeaderFault
not_text_on None = None
not_text_on (Some line) = Some (record { line = line; kind = kinds.NotText })

abbrev pub not_text : List ℕ → Option HeaderFault
not_text text = not_text_on (wrong_line text)

-- a known key stands a second time
abbrev pub double_key_at : Option Section → Option HeaderFault
double_key_at None = None
double_key_at (Some section) = Some (record { line = section.line; kind = kinds.DoubleKey })

abbrev pub double_key : List Section → Option HeaderFault
double_key sections = double_key_at (repeated sections)

-- a known key other than `time` does not stand; the line is that behind the last one
abbrev pub missing_key : ℕ → List Section → Option HeaderFault
missing_key lines sections = fault_where (lacks_key sections) (lines + 1) kinds.MissingKey

-- a section whose value is no number
abbrev pub bad_number : Section → Option HeaderFault
bad_number s = fault_where (is_none (number_of s.value)) s.line kinds.BadNumber

-- the version is another number than 6
abbrev pub other_version : Section → Option HeaderFault
other_version version = fault_where (not (number_in version == 6)) version.line kinds.OtherVersion

-- the box is no list of numbers, has an odd count, fewer than 2 or more than 5 pairs, or a lower end above its upper one
abbrev pub bad_box : Section → Option HeaderFault
bad_box box = fault_where (is_none (pairs_of box.value)) box.line kinds.BadBox

-- the bits are no mask, or a digit names no pair of the box
abbrev pub bad_mask : Section → Section → Option HeaderFault
bad_mask box bits =
    fault_where (is_none (mask_of bits.value) || not (names_pairs (pairs_in box) (mask_in bits))) bits.line kinds.BadMask

-- some upper end is not below 2 to the number of its axis's digits
abbrev pub box_outside_mask : Section → Section → Option HeaderFault
box_outside_mask box bits = fault_where (not (fits_from 0 (pairs_in box) (mask_in bits))) box.line kinds.BoxOutsideMask

-- a field without a name or a type, a name of more than 255 bytes or that stands twice, or a type that is none
abbrev pub bad_field : Section → Option HeaderFault
bad_field fields = fault_where (is_none (listed_fields fields.value)) fields.line kinds.BadField

-- more than 64 fields, or a sample of more than 64 bytes
abbrev pub fields_over_limit : Section → Option HeaderFault
fields_over_limit fields = fault_where (not (are_within_limits (fields_in fields))) fields.line kinds.OverLimit

-- These block bits are 0, above 20, above the number of the mask's digits or more than 24 below it, or some block has more
-- than 2^24 bytes.
abbrev pub are_no_block_bits : ℕ → List ℕ → List Field → Bool
are_no_block_bits bits mask fields =
    (bits == 0) || nat_lt 20 bits || nat_lt (length mask) bits || nat_lt (bits + 24) (length mask)
    || list_any (λ f. nat_lt (2 ^ 24) (sample_bytes f * 2 ^ bits)) fields

abbrev pub block_bits_over_limit : Section → Section → Section → Option HeaderFault
block_bits_over_limit block_bits bits fields =
    fault_where (are_no_block_bits (number_in block_bits) (mask_in bits) (fields_in fields)) block_bits.line kinds.OverLimit

-- so many blocks a file are 0 or more than 65,536, or the table has more than 2^24 bytes
abbrev pub are_no_blocks_per_file : ℕ → List Field → Bool
are_no_blocks_per_file blocks fields =
    (blocks == 0) || nat_lt 65536 blocks || nat_lt (2 ^ 24) (table_bytes (length fields * blocks))

abbrev pub blocks_per_file_over_limit : Section → Section → Option HeaderFault
blocks_per_file_over_limit per_file fields =
    fault_where (are_no_blocks_per_file (number_in per_file) (fields_in fields)) per_file.line kinds.OverLimit

-- the template is not in the grammar of names
abbrev pub bad_template : Section → Option HeaderFault
bad_template template = fault_where (is_none (template_of template.value)) template.line kinds.BadTemplate

-- the number of the last of these files does not fit the template
abbrev pub overflows : Option TemplateValue → ℕ → Bool
overflows None file = false
overflows (Some template) file = nat_le (2 ^ room template) file

-- the number of the file of the last block, present or not
abbrev pub last_file_number : ℕ → ℕ → ℕ → ℕ
last_file_number digits block_bits per_file = per_file * ((2 ^ (digits - block_bits) - 1) / per_file)

abbrev pub template_too_small : Section → Section → Section → Section → Option HeaderFault
template_too_small template bits block_bits per_file =
    fault_where
    (overflows (template_of template.value) (last_file_number (length (mask_in bits)) (number_in block_bits) (number_in per_file)))
    template.line kinds.TemplateTooSmall

-- the time is not in the grammar of names, its first step is above the last one, or that is above 2^31 - 1
abbrev pub bad_time : Option Section → Option HeaderFault
bad_time None = None
bad_time (Some time) = fault_where (is_none (steps_of time.value)) time.line kinds.BadTime

-- more than 4,096 steps
abbrev pub are_too_many : Option Steps → Bool
are_too_many None = false
are_too_many (Some steps) = nat_lt 4096 (step_count steps)

abbrev pub steps_over_limit : Option Section → Option HeaderFault
steps_over_limit None = None
steps_over_limit (Some time) = fault_where (are_too_many (steps_of time.value)) time.line kinds.OverLimit
