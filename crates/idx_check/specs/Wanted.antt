-- The bytes that a file of a step should have: a certificate of the writer's form, which every volume of the box can meet.
use Rattle.std.specs.Prelude.{ℕ, Bool, ◌==◌, List, map, slice_index}
use Rattle.std.specs.List.{list_any, range_with_len}
use Rattle.idx_geom.specs.Region.{points}
use Rattle.idx_hz.specs.Address.{hz_address}
use Rattle.idx_rowmajor.specs.declared.layout.Layout.TheVariants.{Hz}
use Rattle.idx_layout.specs.Content.{volume_in}
use Rattle.idx_layout.specs.Files.{file_bytes, offset_of}
use Rattle.idx_layout.specs.Placing.{Placing, block_bytes}

-- so many bytes of a text from a place on, and zeros where it has ended
abbrev pub bytes_from : List ℕ → ℕ → ℕ → List ℕ
bytes_from bytes at count = map (slice_index bytes) (range_with_len at count)

-- the block of a field as a file of these bytes has it: as many bytes as it takes, from the place on where the writer puts it
abbrev pub block_there : Placing → ℕ → List ℕ → ℕ → ℕ → List ℕ
block_there l file bytes field block = bytes_from bytes (offset_of l file field block) (block_bytes l field)

-- the volume of the samples that a file of these bytes has
abbrev pub volume_there : Placing → ℕ → List ℕ → List (List (List ℕ))
volume_there l file bytes = volume_in l (block_there l file bytes)

-- The bytes that a file of these bytes should have: those that the writer writes for the samples that it has. Its table and its
-- length do not depend on them. Where a present block's address is that of a point of the box they are the file's own, and zeros
-- elsewhere.
abbrev pub wanted_bytes : Placing → ℕ → List ℕ → List ℕ
wanted_bytes l file bytes = file_bytes Hz l (volume_there l file bytes) file

-- an address is that of a point of a box
abbrev pub is_address_of : List ℕ → List (ℕ × ℕ) → ℕ → Bool
is_address_of mask box address = list_any (λ p. hz_address mask p == address) (points box)

-- an address is that of a point of the dataset's box
abbrev pub is_of_box : Placing → ℕ → Bool
is_of_box l address = is_address_of l.mask l.region address
