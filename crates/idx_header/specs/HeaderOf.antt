-- The header of a text: the first fault that applies, else its values (OpenVisus IDX, version 6).
use Rattle.std.specs.Prelude.{ℕ, List, [], ◌∷◌, ◌++◌, length, map, Option, Some, None, option_and_then, Result, Ok, Err}
use Rattle.idx_text.specs.Lines.{lines}
use Rattle.idx_text.specs.Sections.{sections}
use Rattle.idx_text.specs.declared.section.Section.{Section}
use Rattle.idx_fields.specs.Field.{Field}
use Rattle.idx_names.specs.Template.{TemplateValue, template_of}
use Rattle.idx_header.specs.declared.header_fault.HeaderFault.{HeaderFault}
use Rattle.idx_header.specs.declared.key.Key.TheVariants as keys
use Rattle.idx_header.specs.Box.{box_of}
use Rattle.idx_header.specs.Faults as faults
use Rattle.idx_header.specs.Faults.{first_of, or_else, number_in, pairs_in, mask_in, fields_in}
use Rattle.idx_header.specs.declared.steps.Steps.{Steps}
use Rattle.idx_header.specs.declared.unknown.Unknown.{Unknown}
use Rattle.idx_header.specs.Header.{HeaderValue}
use Rattle.idx_header.specs.Keys.{section_at, section_of, unknown_sections}
use Rattle.idx_header.specs.Time.{steps_of}

-- The faults, in their order. Of the text:
abbrev pub text_faults : List ℕ → List (Option HeaderFault)
text_faults text = faults.too_long text ∷ faults.not_text text ∷ []

-- of the keys of so many lines
abbrev pub key_faults : ℕ → List Section → List (Option HeaderFault)
key_faults lines sections = faults.double_key sections ∷ faults.missing_key lines sections ∷ []

-- of the version
abbrev pub version_faults : List Section → List (Option HeaderFault)
version_faults sections =
    let version = section_at keys.Version sections in faults.bad_number version ∷ faults.other_version version ∷ []

-- of the box and the mask
abbrev pub box_faults : List Section → List (Option HeaderFault)
box_faults sections =
    let box = section_at keys.Box sections in
    let bits = section_at keys.Bits sections in
    faults.bad_box box ∷ faults.bad_mask box bits ∷ faults.box_outside_mask box bits ∷ []

-- of the fields
abbrev pub fields_faults : List Section → List (Option HeaderFault)
fields_faults sections =
    let fields = section_at keys.Fields sections in faults.bad_field fields ∷ faults.fields_over_limit fields ∷ []

-- of the bits of a block
abbrev pub block_bits_faults : List Section → List (Option HeaderFault)
block_bits_faults sections =
    let block_bits = section_at keys.BitsPerBlock sections in
    faults.bad_number block_bits
    ∷ faults.block_bits_over_limit block_bits (section_at keys.Bits sections) (section_at keys.Fields sections) ∷ []

-- of the blocks of a file
abbrev pub per_file_faults : List Section → List (Option HeaderFault)
per_file_faults sections =
    let per_file = section_at keys.BlocksPerFile sections in
    faults.bad_number per_file ∷ faults.blocks_per_file_over_limit per_file (section_at keys.Fields sections) ∷ []

-- of the template
abbrev pub template_faults : List Section → List (Option HeaderFault)
template_faults sections =
    let template = section_at keys.FilenameTemplate sections in
    faults.bad_template template
    ∷ faults.template_too_small template (section_at keys.Bits sections) (section_at keys.BitsPerBlock sections)
    (section_at keys.BlocksPerFile sections) ∷ []

-- of the time, where it stands
abbrev pub time_faults : List Section → List (Option HeaderFault)
time_faults sections =
    let time = section_of keys.Time sections in faults.bad_time time ∷ faults.steps_over_limit time ∷ []

-- of the values of the known keys
abbrev pub value_faults : List Section → List (Option HeaderFault)
value_faults sections =
    version_faults sections ++ (box_faults sections ++ (fields_faults sections ++ (block_bits_faults sections
    ++ (per_file_faults sections ++ (template_faults sections ++ time_faults sections)))))

-- all faults of a text
unfoldable pub faults_of : List ℕ → List (Option HeaderFault)
faults_of text = text_faults text ++ (key_faults (length (lines text)) (sections text) ++ value_faults (sections text))

-- the template that a section gives, where it gives one
abbrev pub template_in : Section → TemplateValue
template_in s = or_else (record { above = []; pieces = [] }) (template_of s.value)

-- the steps that a section gives, where it stands and gives some
abbrev pub steps_in : Option Section → Option Steps
steps_in time = option_and_then (λ s. steps_of s.value) time

-- the box and the mask that sections give
abbrev pub mask_of_header : List Section → List ℕ
mask_of_header sections = mask_in (section_at keys.Bits sections)

abbrev pub box_of_header : List Section → List (ℕ × ℕ)
box_of_header sections = box_of (pairs_in (section_at keys.Box sections)) (mask_of_header sections)

abbrev pub fields_of_header : List Section → List Field
fields_of_header sections = fields_in (section_at keys.Fields sections)

-- the other keys with their values
abbrev pub unknown_in : List Section → List Unknown
unknown_in sections = map (λ s. record { key = s.key; value = s.value }) (unknown_sections sections)

-- the values that the sections give, at revision 0
unfoldable pub header_in : List Section → HeaderValue
header_in sections =
    record {
      box = box_of_header sections;
      mask = mask_of_header sections;
      fields = fields_of_header sections;
      block_bits = number_in (section_at keys.BitsPerBlock sections);
      blocks_per_file = number_in (section_at keys.BlocksPerFile sections);
      template = template_in (section_at keys.FilenameTemplate sections);
      steps = steps_in (section_of keys.Time sections);
      unknown = unknown_in sections;
      revision = 0;
    }

-- the header, unless there is a fault
abbrev pub unless : Option HeaderFault → HeaderValue → Result HeaderValue HeaderFault
unless None header = Ok header
unless (Some fault) header = Err fault

-- the header of a text, or the first fault
unfoldable pub header_of : List ℕ → Result HeaderValue HeaderFault
header_of text = unless (first_of (faults_of text)) (header_in (sections text))
