-- The bases of the types of samples, their names and their bytes (OpenVisus).
use Rattle.std.specs.Prelude.{ℕ, List, [], ◌∷◌, Option, codes, find}
use Rattle.std.specs.Str.{bytes_eq}
use Rattle.idx_fields.specs.declared.base.Base.{Base}
use Rattle.idx_fields.specs.declared.base.Base.TheVariants as bases

-- the bytes of one number
abbrev pub base_bytes : Base → ℕ
base_bytes bases.Int8 = 1
base_bytes bases.Uint8 = 1
base_bytes bases.Int16 = 2
base_bytes bases.Uint16 = 2
base_bytes bases.Int32 = 4
base_bytes bases.Uint32 = 4
base_bytes bases.Float32 = 4
base_bytes bases.Int64 = 8
base_bytes bases.Uint64 = 8
base_bytes bases.Float64 = 8

abbrev pub base_text : Base → List ℕ
base_text bases.Int8 = codes "int8"
base_text bases.Uint8 = codes "uint8"
base_text bases.Int16 = codes "int16"
base_text bases.Uint16 = codes "uint16"
base_text bases.Int32 = codes "int32"
base_text bases.Uint32 = codes "uint32"
base_text bases.Float32 = codes "float32"
base_text bases.Int64 = codes "int64"
base_text bases.Uint64 = codes "uint64"
base_text bases.Float64 = codes "float64"

abbrev pub all_bases : List Base
all_bases =
    bases.Int8 ∷ bases.Uint8 ∷ bases.Int16 ∷ bases.Uint16 ∷ bases.Int32 ∷ bases.Uint32 ∷ bases.Float32 ∷ bases.Int64
    ∷ bases.Uint64 ∷ bases.Float64 ∷ []

-- the base of this name, if there is one
unfoldable pub base_of : List ℕ → Option Base
base_of word = find (λ base. bytes_eq (base_text base) word) all_bases
