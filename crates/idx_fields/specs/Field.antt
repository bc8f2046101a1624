-- A field as its part of a header's value gives it: a name, a type and attribute words, separated by blanks.
use Rattle.std.specs.Prelude.{◌≡◌, ℕ, ◌*◌, ◌≤◌, ◌==◌, Bool, false, List, [], ◌∷◌, ◌++◌, length, flat_map, All, nat_le, Option, Some, None, option_and_then, if◌then◌else◌}
use Rattle.std.specs.List.{slice_index_or}
use Rattle.idx_text.specs.Numbers.{is_blank, runs}
use Rattle.idx_fields.specs.declared.base.Base.{Base}
use Rattle.idx_fields.specs.declared.base.Base.TheVariants as bases
use Rattle.idx_fields.specs.Base.{base_bytes}
use Rattle.idx_fields.specs.FieldType.{type_of, canonical_type}

pub record Field : Type 0 where
  pub name : List ℕ
  pub base : Base
  pub count : ℕ
  pub attributes : List (List ℕ)

-- how many bytes a sample has
abbrev pub sample_bytes : Field → ℕ
sample_bytes field = field.count * base_bytes field.base

-- the byte `+`, which stands between two fields
abbrev pub is_plus : ℕ → Bool
is_plus b = b == 43

-- the field of these words: its name, its type and its attributes
abbrev pub field_of_words : List (List ℕ) → Option Field
field_of_words [] = None
field_of_words (name ∷ []) = None
field_of_words (name ∷ word ∷ attributes) =
    if nat_le (length name) 255 then
    option_and_then (λ t. Some (record { name = name; base = t.0; count = t.1; attributes = attributes })) (type_of word)
    else None

-- the field that a part of a header's value spells, if it spells one
unfoldable pub field_of : List ℕ → Option Field
field_of part = field_of_words (runs part)

-- a word: one byte or more, none of them a blank or `+`
pub record IsWord (word : List ℕ) : Type 0 where
  pub some : 1 ≤ length word
  pub no_blank : All (λ b. is_blank b ≡ false) word
  pub no_plus : All (λ b. is_plus b ≡ false) word

-- what is true of each field that was read
pub record IsField (field : Field) : Type 0 where
  pub name : IsWord field.name
  pub short : length field.name ≤ 255
  pub count : 1 ≤ field.count
  pub sample : sample_bytes field ≤ 64
  pub attributes : All IsWord field.attributes

-- words with a space before each
abbrev pub spaced : List (List ℕ) → List ℕ
spaced words = flat_map (λ word. 32 ∷ word) words

-- the field as it is written: its name, its type and its attributes with one space between
unfoldable pub field_text : Field → List ℕ
field_text field = field.name ++ 32 ∷ canonical_type field.base field.count ++ spaced field.attributes

-- the field of this number, from 0
abbrev pub field_at : List Field → ℕ → Field
field_at fields number =
    slice_index_or fields number (record { name = []; base = bases.Int8; count = 0; attributes = [] })
