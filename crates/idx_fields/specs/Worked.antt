-- Fields that the worked values name.
use Rattle.std.specs.Prelude.{[], ◌∷◌, codes}
use Rattle.idx_fields.specs.declared.base.Base.TheVariants as bases
use Rattle.idx_fields.specs.Field.{Field}

abbrev pub pressure : Field
pressure = record { name = codes "p"; base = bases.Float64; count = 1; attributes = [] }

abbrev pub velocity : Field
velocity = record { name = codes "v"; base = bases.Float64; count = 3; attributes = [] }

abbrev pub data_field : Field
data_field =
    record {
      name = codes "DATA";
      base = bases.Int16;
      count = 3;
      attributes = codes "default_compression(zip)" ∷ codes "min(0)" ∷ codes "max(9)" ∷ [];
    }
