-- The samples of a region that windows of a raw volume give, one window behind the other.
use Rattle.std.specs.Prelude.{◌≡◌, ℕ, ◌+◌, ◌-◌, ◌*◌, ◌≤◌, List, ◌++◌, length, take, drop}
use Rattle.std.specs.List.{flat_map, range_with_len}
use Rattle.idx_pieces.specs.Cursor.{place_at}

-- the sample at a place of a box, of a field whose samples have so many bytes and begin at `base` among the raw bytes
abbrev pub sample_in : ℕ → ℕ → List ℕ → ℕ → List ℕ
sample_in size base raw place = take size (drop (base + size * place) raw)

-- the samples of a region in the box: so many, from this number on
abbrev pub samples_from : ℕ → ℕ → List ℕ → List (ℕ × ℕ) → List (ℕ × ℕ) → ℕ → ℕ → List ℕ
samples_from size base raw box region first count =
    flat_map (λ k. sample_in size base raw (place_at box region k)) (range_with_len first count)

-- a window has the bytes of the field from a place on
abbrev pub IsWindow : ℕ → ℕ → ℕ → List ℕ → List ℕ → Type 0
IsWindow size base from raw window = window ≡ take (length window) (drop (base + size * from) raw)

-- the samples of a region from one number up to another were appended, whose bytes are the window's
pub record Appends (size from : ℕ) (window : List ℕ) (box region : List (ℕ × ℕ)) (old new : List ℕ) (first last : ℕ) : Type 0 where
  pub rises : first ≤ last
  pub longer : length new ≡ length old + size * (last - first)
  pub samples : (base : ℕ) (raw : List ℕ) → IsWindow size base from raw window →
      new ≡ old ++ samples_from size base raw box region first (last - first)
