-- The placing of a dataset by its header, and where a block stands by it.
use Rattle.std.specs.Prelude.{ℕ, map, if◌then◌else◌, Option, Some, None}
use Rattle.idx_fields.specs.Field.{sample_bytes}
use Rattle.idx_header.specs.Header.{HeaderValue}
use Rattle.idx_layout.specs.Placing.{Placing, block_bytes, file_of, is_present}
use Rattle.idx_layout.specs.Files.{offset_of}
use Rattle.idx_layout.specs.declared.block_place.Place.{Place}

-- what of a header decides where each sample stands
abbrev pub placing_of : HeaderValue → Placing
placing_of h = record {
  mask = h.mask;
  region = h.box;
  bits = h.block_bits;
  per_file = h.blocks_per_file;
  sizes = map sample_bytes h.fields;
}

-- where a present block of a field stands; an absent one stands nowhere
abbrev pub place_of : Placing → ℕ → ℕ → Option Place
place_of l field block =
    if is_present l block then
    Some (record { file = file_of l block; offset = offset_of l (file_of l block) field block; len = block_bytes l field })
    else None
