-- The parcels of a rank: one for each piece that its region meets.
use Rattle.std.specs.Prelude.{◌≡◌, ◌≢◌, ℕ, ◌-◌, ◌*◌, ◌<◌, ◌≤◌, List, [], filter, length, map, sum, All, IfSome, Option}
use Rattle.idx_geom.specs.Region.{common_bounds, lower_ends, place_of, upper_ends}
use Rattle.idx_fields.specs.Field.{sample_bytes}
use Rattle.idx_header.specs.Header.{HeaderValue}
use Rattle.idx_pieces.specs.Ranks.{meets}
use Rattle.idx_pieces.specs.RawReads.{AsksAtMost}
use Rattle.idx_pieces.specs.Samples.{HoldsSamples, raw_sample, region_bytes}
use Rattle.idx_pieces.specs.declared.parcel.Parcel.{Parcel}
use Rattle.idx_pieces.specs.declared.piece.Piece.{Piece}

-- the pieces that a region meets
abbrev pub meeting : List (ℕ × ℕ) → List Piece → List Piece
meeting region pieces = filter (λ p. meets region p.region) pieces

-- it meets one at least
abbrev pub MeetsSome : List (ℕ × ℕ) → List Piece → Type 0
MeetsSome region pieces = meeting region pieces ≢ []

-- what a rank's parcel of a piece is of: its rank, its piece and its region
abbrev pub heading_of : ℕ → List (ℕ × ℕ) → Piece → ℕ × (ℕ × List (ℕ × ℕ))
heading_of rank region piece = (rank, (piece.id, common_bounds region piece.region))

abbrev pub parcel_heading : Parcel → ℕ × (ℕ × List (ℕ × ℕ))
parcel_heading parcel = (parcel.rank, (parcel.piece, parcel.region))

-- the parcels are those of a rank, one for each piece that its region meets, in the order of the pieces
abbrev pub AreParcelsOf : ℕ → List (ℕ × ℕ) → List Piece → List Parcel → Type 0
AreParcelsOf rank region pieces parcels = map parcel_heading parcels ≡ map (heading_of rank region) (meeting region pieces)

-- a parcel has as many bytes as its region's samples have, and these samples where the raw bytes are known
pub record IsFull (h : HeaderValue) (told : Option (List ℕ)) (parcel : Parcel) : Type 0 where
  pub many : length parcel.bytes ≡ region_bytes h parcel.region
  pub samples : IfSome told (λ raw. HoldsSamples h (raw_sample h raw) parcel.region parcel.bytes)

-- all points that the region has of pieces stand, in the box, at these places: from the first on and below the other
abbrev pub StandBetween : HeaderValue → List (ℕ × ℕ) → List Piece → ℕ → ℕ → Type 0
StandBetween h region pieces first end =
    All (λ p. (first ≤ place_of h.box (lower_ends (common_bounds region p.region))) × (place_of h.box (upper_ends (common_bounds region p.region)) < end))
    (meeting region pieces)

-- no more bytes were asked for than each field has at these places
abbrev pub AsksBetween : HeaderValue → List (ℕ × ℕ) → List Piece → ℕ → ℕ → Type 0
AsksBetween h region pieces before after =
    (first end : ℕ) → first ≤ end → StandBetween h region pieces first end → AsksAtMost before after ((end - first) * sum (map sample_bytes h.fields))
