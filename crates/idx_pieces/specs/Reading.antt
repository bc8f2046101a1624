-- Parcels while they are filled.
use Rattle.std.specs.Prelude.{◌≡◌, ℕ, ◌+◌, ◌*◌, ◌<◌, ◌≤◌, List, ◌++◌, length, map, sum, take, Option, IfSome}
use Rattle.idx_geom.specs.Region.{lower_ends, place_of, points, upper_ends}
use Rattle.idx_fields.specs.Field.{sample_bytes}
use Rattle.idx_header.specs.Header.{HeaderValue, sample_bytes_of}
use Rattle.idx_pieces.specs.Cursor.{IsCursor}
use Rattle.idx_pieces.specs.Filling.{IsWindow, samples_from}
use Rattle.idx_pieces.specs.Samples.{raw_sample, samples_in}
use Rattle.idx_pieces.specs.declared.filling.Filling.{Filling}

-- what a parcel is of: its rank, its piece and its region
abbrev pub heading : Filling → ℕ × (ℕ × List (ℕ × ℕ))
heading f = (f.parcel.rank, (f.parcel.piece, f.parcel.region))

-- the cursor stands behind the last sample
abbrev pub IsDone : Filling → Type 0
IsDone f = length (points f.parcel.region) ≤ f.cursor.done

-- the cursor stands at a sample from this place on, or behind the last one
pub record IsReady (box : List (ℕ × ℕ)) (from : ℕ) (f : Filling) : Type 0 where
  pub cursor : IsCursor box f.parcel.region f.cursor
  pub next : f.cursor.done < length (points f.parcel.region) → from ≤ f.cursor.place

-- the cursor's sample has this place or a later one
abbrev pub IsFrom : ℕ → Filling → Type 0
IsFrom low f = f.cursor.done < length (points f.parcel.region) → low ≤ f.cursor.place

-- the first sample has this place or a later one
abbrev pub BeginsFrom : List (ℕ × ℕ) → ℕ → Filling → Type 0
BeginsFrom box low f = low ≤ place_of box (lower_ends f.parcel.region)

-- the last sample's place is below this one
abbrev pub EndsBelow : List (ℕ × ℕ) → ℕ → Filling → Type 0
EndsBelow box end f = place_of box (upper_ends f.parcel.region) < end

-- how many bytes the samples of the fields before this one have, those of one point
abbrev pub bytes_before : HeaderValue → ℕ → ℕ
bytes_before h field = sum (take field (map sample_bytes h.fields))

-- where a field's samples begin among the raw bytes
abbrev pub field_start : HeaderValue → ℕ → ℕ
field_start h field = length (points h.box) * bytes_before h field

-- where the raw bytes are known, a window has those of the field from a place on
abbrev pub IsWindowOf : HeaderValue → Option (List ℕ) → ℕ → ℕ → List ℕ → Type 0
IsWindowOf h told field from window =
    IfSome told (λ raw. IsWindow (sample_bytes_of h field) (field_start h field) from raw window)

-- the parcel has the samples of the fields before this one, and those of this field that stand before the cursor
pub record HoldsUpTo (h : HeaderValue) (told : Option (List ℕ)) (field : ℕ) (f : Filling) : Type 0 where
  pub many : length f.parcel.bytes ≡ length (points f.parcel.region) * bytes_before h field + sample_bytes_of h field * f.cursor.done
  pub samples : IfSome told (λ raw. f.parcel.bytes ≡ samples_in field (raw_sample h raw) f.parcel.region
      ++ samples_from (sample_bytes_of h field) (field_start h field) raw h.box f.parcel.region 0 f.cursor.done)
