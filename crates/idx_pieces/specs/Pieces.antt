-- The pieces of a dataset's box: the points whose Z addresses have the same digits in front of the last e.
use Rattle.std.specs.Prelude.{◌≡◌, true, ℕ, ◌+◌, ◌-◌, ◌*◌, ◌/◌, ◌^◌, ◌≤◌, ◌==◌, Bool, List, length, map, filter}
use Rattle.std.specs.List.{list_any, range_with_len}
use Rattle.idx_geom.specs.Region.{common_bounds, points}
use Rattle.idx_hz.specs.Address.{z_address}
use Rattle.idx_hz.specs.Coordinate.{coordinate_at}
use Rattle.idx_hz.specs.Stride.{stride}
use Rattle.idx_header.specs.Header.{HeaderValue}
use Rattle.idx_pieces.specs.Ranks.{rank_region, ranks_in}
use Rattle.idx_pieces.specs.declared.piece.Piece.{Piece}

-- the piece of a point
abbrev pub piece_of : List ℕ → ℕ → List ℕ → ℕ
piece_of mask e p = z_address mask p / 2 ^ e

-- some point of the box is of the piece
abbrev pub has_piece : List ℕ → List (ℕ × ℕ) → ℕ → ℕ → Bool
has_piece mask box e id = list_any (λ p. piece_of mask e p == id) (points box)

-- on an axis, the bounds of all points whose Z address has these digits in front of the last e
abbrev pub front_bounds : List ℕ → ℕ → ℕ → ℕ → ℕ × ℕ
front_bounds mask e id axis =
    (coordinate_at mask axis (id * 2 ^ e), coordinate_at mask axis (id * 2 ^ e) + stride mask (length mask - e) axis - 1)

-- the region of a piece: what the box has of those points
abbrev pub piece_region : List ℕ → List (ℕ × ℕ) → ℕ → ℕ → List (ℕ × ℕ)
piece_region mask box e id = common_bounds box (map (front_bounds mask e id) (range_with_len 0 (length box)))

-- the piece of an id, where the box is divided among n ranks
abbrev pub piece_at : HeaderValue → ℕ → ℕ → ℕ → Piece
piece_at h e n id =
    record {
      id = id;
      region = piece_region h.mask h.box e id;
      ranks = ranks_in h.box n (piece_region h.mask h.box e id);
      of_ranks = n;
    }

-- the pieces that have a point of the box, by rising id
abbrev pub pieces_of : HeaderValue → ℕ → ℕ → List Piece
pieces_of h e n = map (piece_at h e n) (filter (has_piece h.mask h.box e) (range_with_len 0 (2 ^ (length h.mask - e))))

-- what is true of a piece of some division
pub record IsPiece (h : HeaderValue) (piece : Piece) : Type 0 where
  pub e : ℕ
  pub within : e ≤ length h.mask
  pub ranks : 1 ≤ piece.of_ranks
  pub some : has_piece h.mask h.box e piece.id ≡ true
  pub is : piece ≡ piece_at h e piece.of_ranks piece.id

-- the part of a piece that a rank has
abbrev pub part_of : HeaderValue → Piece → ℕ → List (ℕ × ℕ)
part_of h piece rank = common_bounds (rank_region h.box piece.of_ranks rank) piece.region
