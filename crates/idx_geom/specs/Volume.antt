-- A volume: for each field, the samples of a region's points in row-major order. A sample is the list of its bytes.
use Rattle.std.specs.Prelude.{◌≡◌, ℕ, zero, suc, ◌*◌, List, [], ◌∷◌, length, take, drop, All}
use Rattle.std.specs.List.{flat_map, concat, slice_index_or}
use Rattle.idx_geom.specs.Region.{place_of}

-- a volume of n points, with one size of a sample per field: one list a field, of n samples of the field's size
abbrev pub IsVolume : List ℕ → ℕ → List (List (List ℕ)) → Type 0
IsVolume [] n [] = Unit {0}
IsVolume (size ∷ sizes) n (samples ∷ volume) =
    (length samples ≡ n) × All (λ sample. length sample ≡ size) samples × IsVolume sizes n volume
IsVolume _ _ _ = ⊥

-- a field's sample at a point of the region that the volume fills
abbrev pub sample_at : List (ℕ × ℕ) → List (List ℕ) → List ℕ → List ℕ
sample_at region samples p = slice_index_or samples (place_of region p) []

-- the raw input: all fields' samples one after another
abbrev pub raw_of : List (List (List ℕ)) → List ℕ
raw_of volume = flat_map concat volume

-- so many samples of so many bytes, cut from the front of a list of bytes
abbrev pub samples_of : ℕ → ℕ → List ℕ → List (List ℕ)
samples_of size zero bytes = []
samples_of size (suc n) bytes = take size bytes ∷ samples_of size n (drop size bytes)

-- the volume of n points that has this raw input, with one size of a sample per field
abbrev pub volume_of : List ℕ → ℕ → List ℕ → List (List (List ℕ))
volume_of [] n bytes = []
volume_of (size ∷ sizes) n bytes = samples_of size n bytes ∷ volume_of sizes n (drop (size * n) bytes)
