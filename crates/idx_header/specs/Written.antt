-- The canonical text of a header: the known keys in their order, each on a line with its value behind it; further fields
-- begin lines of their own with `+ `; then the other keys in order.
use Rattle.std.specs.Prelude.{◌≡◌, ℕ, ◌≤◌, List, [], ◌∷◌, ◌++◌, length, map, Option, Some, None, All, IsSome, cond, false, codes}
use Rattle.std.specs.Fmt.{decimal}
use Rattle.std.specs.List.{join_with_byte}
use Rattle.idx_text.specs.BoxText.{both_ends}
use Rattle.idx_text.specs.Numbers.{has_bytes}
use Rattle.idx_text.specs.Sections.{is_key_line}
use Rattle.idx_text.specs.Entries.{Entry, entries_text}
use Rattle.idx_hz.specs.MaskText.{mask_text}
use Rattle.idx_fields.specs.Fields.{fields_lines}
use Rattle.idx_names.specs.Template.{TemplateValue, template_text}
use Rattle.idx_names.specs.TimeTemplate.{time_template_text}
use Rattle.idx_header.specs.declared.key.Key.{Key}
use Rattle.idx_header.specs.declared.key.Key.TheVariants as keys
use Rattle.idx_header.specs.declared.steps.Steps.{Steps}
use Rattle.idx_header.specs.declared.unknown.Unknown.{Unknown}
use Rattle.idx_header.specs.Header.{HeaderValue}
use Rattle.idx_header.specs.Keys.{key_text}

-- a known key with the lines of its value
abbrev pub entry : Key → List (List ℕ) → Entry
entry key lines = record { key = key_text key; lines = lines }

-- numbers with one space between
abbrev pub numbers_text : List ℕ → List ℕ
numbers_text numbers = join_with_byte 32 (map decimal numbers)

abbrev pub box_text : List (ℕ × ℕ) → List ℕ
box_text box = numbers_text (both_ends box)

-- the template with `./` before it
abbrev pub template_line : TemplateValue → List ℕ
template_line template = 46 ∷ 47 ∷ template_text template

abbrev pub steps_text : Steps → List ℕ
steps_text steps = decimal steps.first ++ 32 ∷ decimal steps.last ++ 32 ∷ time_template_text steps.template

abbrev pub steps_entries : Option Steps → List Entry
steps_entries None = []
steps_entries (Some steps) = entry keys.Time (steps_text steps ∷ []) ∷ []

-- another key: its value stands on one line, and on none where it is empty
abbrev pub unknown_entry : Unknown → Entry
unknown_entry u = record { key = u.key; lines = cond (has_bytes u.value) (u.value ∷ []) [] }

-- the keys of a header with their values
unfoldable pub entries_of : HeaderValue → List Entry
entries_of h =
    entry keys.Version (codes "6" ∷ [])
    ∷ entry keys.Box (box_text h.box ∷ [])
    ∷ entry keys.Fields (fields_lines h.fields)
    ∷ entry keys.Bits (mask_text h.mask ∷ [])
    ∷ entry keys.BitsPerBlock (decimal h.block_bits ∷ [])
    ∷ entry keys.BlocksPerFile (decimal h.blocks_per_file ∷ [])
    ∷ entry keys.FilenameTemplate (template_line h.template ∷ [])
    ∷ (steps_entries h.steps ++ map unknown_entry h.unknown)

-- the canonical text
unfoldable pub text_of : HeaderValue → List ℕ
text_of h = entries_text (entries_of h)

-- The text of a header that reads back: the header has a time and is at revision 0, its text is no longer than a header may
-- be, and none of the lines of its values is a key line.
pub record IsWritable (h : HeaderValue) : Type 0 where
  pub time : IsSome h.steps
  pub unrevised : h.revision ≡ 0
  pub short : length (text_of h) ≤ 65536
  pub lines : All (λ e. All (λ line. is_key_line line ≡ false) e.lines) (entries_of h)
