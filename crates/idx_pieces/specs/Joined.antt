-- The bytes of a piece, joined from those of its ranks' parts.
use Rattle.std.specs.Prelude.{ℕ, ◌+◌, ◌*◌, ◌/◌, ◌==◌, List, [], length, take, drop, find, All}
use Rattle.std.specs.List.{flat_map, range_with_len, sum_by}
use Rattle.std.specs.Option.{option_map_or}
use Rattle.idx_geom.specs.Region.{points}
use Rattle.idx_header.specs.Header.{HeaderValue, sample_bytes_of}
use Rattle.idx_pieces.specs.Ranks.{cut_axis}
use Rattle.idx_pieces.specs.Pieces.{part_of}
use Rattle.idx_pieces.specs.Samples.{AreSamples, HoldsSamples}
use Rattle.idx_pieces.specs.declared.parcel.Parcel.{Parcel}
use Rattle.idx_pieces.specs.declared.piece.Piece.{Piece}

-- how many places a piece has on the axes behind the axis of the cut
abbrev pub place_count : HeaderValue → Piece → ℕ
place_count h piece = length (points (drop (cut_axis h.box + 1) piece.region))

-- how many bytes a point has in the fields before this one
abbrev pub bytes_before : HeaderValue → ℕ → ℕ
bytes_before h field = sum_by (sample_bytes_of h) (range_with_len 0 field)

-- the bytes of a part of so many points at one of so many places: those of a field of so many bytes a sample, behind the
-- fields with so many bytes a point
abbrev pub row_bytes : ℕ → ℕ → ℕ → ℕ → List ℕ → ℕ → List ℕ
row_bytes places count before size bytes place =
    take (count / places * size) (drop (count * before + place * (count / places * size)) bytes)

-- the bytes of the parcel of a rank
abbrev pub bytes_of : List Parcel → ℕ → List ℕ
bytes_of parcels rank = option_map_or (λ parcel. parcel.bytes) (find (λ parcel. parcel.rank == rank) parcels) []

-- field after field and place after place, what the ranks have there
abbrev pub joined : HeaderValue → Piece → (ℕ → List ℕ) → List ℕ
joined h piece bytes =
    flat_map (λ field. flat_map (λ place. flat_map (λ rank.
    row_bytes (place_count h piece) (length (points (part_of h piece rank))) (bytes_before h field)
    (sample_bytes_of h field) (bytes rank) place)
    piece.ranks) (range_with_len 0 (place_count h piece))) (range_with_len 0 (length h.fields))

-- the same of parcels: what the first parcel of a rank has at a place, what all ranks of a piece have there, and what
-- they have at all places
abbrev pub rank_bytes : List Parcel → ℕ → ℕ → ℕ → ℕ → ℕ → List ℕ
rank_bytes parcels places before size place rank =
    option_map_or (λ parcel. row_bytes places (length (points parcel.region)) before size parcel.bytes place)
    (find (λ parcel. parcel.rank == rank) parcels) []

abbrev pub place_bytes : Piece → List Parcel → ℕ → ℕ → ℕ → ℕ → List ℕ
place_bytes piece parcels places before size place = flat_map (rank_bytes parcels places before size place) piece.ranks

abbrev pub field_bytes : Piece → List Parcel → ℕ → ℕ → ℕ → List ℕ
field_bytes piece parcels places before size =
    flat_map (place_bytes piece parcels places before size) (range_with_len 0 places)

abbrev pub joined_parcels : HeaderValue → Piece → List Parcel → List ℕ
joined_parcels h piece parcels =
    flat_map (λ field. field_bytes piece parcels (place_count h piece) (bytes_before h field) (sample_bytes_of h field))
    (range_with_len 0 (length h.fields))

-- where each parcel holds the samples of its region, these bytes hold those of the piece
abbrev pub HoldsWhereAllDo : HeaderValue → Piece → List Parcel → List ℕ → Type 0
HoldsWhereAllDo h piece parcels bytes =
    (sample : ℕ → List ℕ → List ℕ) → AreSamples h sample →
    All (λ parcel. HoldsSamples h sample parcel.region parcel.bytes) parcels → HoldsSamples h sample piece.region bytes
