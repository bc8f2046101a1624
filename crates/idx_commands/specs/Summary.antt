-- What `info` writes of a header: a line for each value, and one for each field.
use Rattle.std.specs.Prelude.{ℕ, List, [], ◌∷◌, ◌++◌, length, flat_map, Option, Some, None, codes}
use Rattle.std.specs.Fmt.{decimal}
use Rattle.idx_hz.specs.MaskText.{mask_text}
use Rattle.idx_fields.specs.Field.{Field, sample_bytes}
use Rattle.idx_fields.specs.FieldType.{canonical_type}
use Rattle.idx_header.specs.Header.{HeaderValue, block_count, ends_of}

-- a name, a space, a value, and the line feed
unfoldable pub line : List ℕ → List ℕ → List ℕ
line name value = name ++ 32 ∷ value ++ 10 ∷ []

-- the ends of an axis, with a space before each
unfoldable pub ends_text : ℕ × ℕ → List ℕ
ends_text ends = 32 ∷ decimal ends.0 ++ 32 ∷ decimal ends.1

unfoldable pub box_line : List (ℕ × ℕ) → List ℕ
box_line box = codes "box" ++ flat_map ends_text box ++ 10 ∷ []

unfoldable pub steps_line : Option (ℕ × ℕ) → List ℕ
steps_line None = line (codes "steps") (codes "none")
steps_line (Some ends) = line (codes "steps") (decimal ends.0 ++ 32 ∷ decimal ends.1)

-- the name of a field, its type as it is written, and the bytes of a sample
unfoldable pub field_line : Field → List ℕ
field_line f = line (codes "field") (f.name ++ 32 ∷ canonical_type f.base f.count ++ 32 ∷ decimal (sample_bytes f))

-- the lines of the box and the mask
unfoldable pub order_lines : HeaderValue → List ℕ
order_lines h =
    line (codes "version") (decimal 6) ++ line (codes "axes") (decimal (length h.box)) ++ box_line h.box
    ++ line (codes "bits") (mask_text h.mask)

-- the lines of the levels
unfoldable pub level_lines : HeaderValue → List ℕ
level_lines h =
    line (codes "levels") (decimal (length h.mask)) ++ line (codes "bitsperblock") (decimal h.block_bits)

-- the lines of the blocks
unfoldable pub block_lines : HeaderValue → List ℕ
block_lines h =
    line (codes "blocksperfile") (decimal h.blocks_per_file) ++ line (codes "blocks") (decimal (block_count h))

-- all lines
unfoldable pub summary : HeaderValue → List ℕ
summary h =
    order_lines h ++ level_lines h ++ block_lines h ++ steps_line (ends_of h.steps) ++ flat_map field_line h.fields
