-- The keys that a header is known by, and where each stands. Every other key is kept and has no effect.
use Rattle.std.specs.Prelude.{ℕ, Bool, true, false, ◌&&◌, List, [], ◌∷◌, ◌++◌, filter, find, not, Option, Some, None, cond, codes}
use Rattle.std.specs.List.{list_any}
use Rattle.std.specs.Str.{bytes_eq}
use Rattle.idx_text.specs.declared.section.Section.{Section}
use Rattle.idx_header.specs.declared.key.Key.{Key}
use Rattle.idx_header.specs.declared.key.Key.TheVariants as keys

-- the text of a known key
abbrev pub key_text : Key → List ℕ
key_text keys.Version = codes "version"
key_text keys.Box = codes "box"
key_text keys.Fields = codes "fields"
key_text keys.Bits = codes "bits"
key_text keys.BitsPerBlock = codes "bitsperblock"
key_text keys.BlocksPerFile = codes "blocksperfile"
key_text keys.FilenameTemplate = codes "filename_template"
key_text keys.Time = codes "time"

-- the known keys that no header lacks
abbrev pub needed_keys : List Key
needed_keys =
    keys.Version ∷ keys.Box ∷ keys.Fields ∷ keys.Bits ∷ keys.BitsPerBlock ∷ keys.BlocksPerFile ∷ keys.FilenameTemplate ∷ []

-- all known keys
abbrev pub known_keys : List Key
known_keys = needed_keys ++ keys.Time ∷ []

-- the section has this key
abbrev pub has_key : List ℕ → Section → Bool
has_key text section = bytes_eq section.key text

-- the text is that of a known key
abbrev pub is_known_key : List ℕ → Bool
is_known_key text = list_any (λ key. bytes_eq text (key_text key)) known_keys

-- the section has a known key
abbrev pub is_known : Section → Bool
is_known section = is_known_key section.key

-- where a key stands first, if it stands
unfoldable pub section_of : Key → List Section → Option Section
section_of key sections = find (has_key (key_text key)) sections

abbrev pub or_empty : Option Section → Section
or_empty None = record { line = 0; key = []; value = [] }
or_empty (Some section) = section

-- where a key stands first; an empty section where it does not stand
abbrev pub section_at : Key → List Section → Section
section_at key sections = or_empty (section_of key sections)

-- of these sections, which stand behind others, the first whose known key stood before
abbrev pub repeated_behind : List Section → List Section → Option Section
repeated_behind before [] = None
repeated_behind before (section ∷ sections) =
    cond (is_known section && list_any (has_key section.key) before) (Some section)
    (repeated_behind (before ++ section ∷ []) sections)

-- the first section whose known key stood before
unfoldable pub repeated : List Section → Option Section
repeated sections = repeated_behind [] sections

abbrev pub is_missing : Option Section → Bool
is_missing None = true
is_missing (Some section) = false

-- some known key that no header lacks does not stand
abbrev pub lacks_key : List Section → Bool
lacks_key sections = list_any (λ key. is_missing (section_of key sections)) needed_keys

-- the sections of other keys
unfoldable pub unknown_sections : List Section → List Section
unknown_sections sections = filter (λ section. not (is_known section)) sections
