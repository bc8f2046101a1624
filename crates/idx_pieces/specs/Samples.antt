-- The samples of a part of a volume, one behind the other.
use Rattle.std.specs.Prelude.{◌≡◌, ℕ, ◌*◌, ◌<◌, List, [], length, map, sum}
use Rattle.std.specs.List.{flat_map, range_with_len, slice_index_or}
use Rattle.idx_geom.specs.Region.{points}
use Rattle.idx_geom.specs.Volume.{sample_at}
use Rattle.idx_fields.specs.Field.{sample_bytes}
use Rattle.idx_header.specs.Header.{HeaderValue, sample_bytes_of}
use Rattle.idx_layout.specs.Step.{volume_of_raw}

-- Samples are a function of a field and a point.

-- the samples of so many fields at the points of a region: field after field, each in row-major order, axis 0 fastest
abbrev pub samples_in : ℕ → (ℕ → List ℕ → List ℕ) → List (ℕ × ℕ) → List ℕ
samples_in fields sample region = flat_map (λ field. flat_map (sample field) (points region)) (range_with_len 0 fields)

-- each sample of a dataset has as many bytes as its field says
abbrev pub AreSamples : HeaderValue → (ℕ → List ℕ → List ℕ) → Type 0
AreSamples h sample = (field : ℕ) (p : List ℕ) → field < length h.fields → length (sample field p) ≡ sample_bytes_of h field

-- how many bytes the samples of a region have, those of all fields together
abbrev pub region_bytes : HeaderValue → List (ℕ × ℕ) → ℕ
region_bytes h region = length (points region) * sum (map sample_bytes h.fields)

-- these are the samples of a dataset at the points of a region
abbrev pub HoldsSamples : HeaderValue → (ℕ → List ℕ → List ℕ) → List (ℕ × ℕ) → List ℕ → Type 0
HoldsSamples h sample region bytes = bytes ≡ samples_in (length h.fields) sample region

-- the sample of a field at a point of the box, of the volume whose raw input these bytes are
abbrev pub raw_sample : HeaderValue → List ℕ → ℕ → List ℕ → List ℕ
raw_sample h raw field p = sample_at h.box (slice_index_or (volume_of_raw h raw) field []) p
