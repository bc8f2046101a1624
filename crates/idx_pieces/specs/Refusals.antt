-- Why parcels do not make a piece.
use Rattle.std.specs.Prelude.{true, false, ℕ, ◌==◌, ◌&&◌, not, Bool, List, [], ◌∷◌, length, map, take, find, slice_index, Option}
use Rattle.std.specs.List.{list_any, position_from, range_with_len}
use Rattle.std.specs.Option.{option_map, option_or}
use Rattle.idx_header.specs.Header.{HeaderValue}
use Rattle.idx_pieces.specs.Pieces.{part_of}
use Rattle.idx_pieces.specs.declared.parcel.Parcel.{Parcel}
use Rattle.idx_pieces.specs.declared.piece.Piece.{Piece}
use Rattle.idx_pieces.specs.declared.why.Why.{Why}
use Rattle.idx_pieces.specs.declared.why.Why.TheVariants.{Stranger, Double, Missing}

-- two regions have the same bounds
abbrev pub same_bounds : List (ℕ × ℕ) → List (ℕ × ℕ) → Bool
same_bounds [] [] = true
same_bounds (a ∷ others) (b ∷ bs) = (a.0 == b.0) && (a.1 == b.1) && same_bounds others bs
same_bounds _ _ = false

-- some parcel is of this rank
abbrev pub has_parcel : List Parcel → ℕ → Bool
has_parcel parcels rank = list_any (λ parcel. parcel.rank == rank) parcels

-- a parcel is of a piece: it has the piece's id, a rank that has a part of the piece, and that part
abbrev pub is_of_piece : HeaderValue → Piece → Parcel → Bool
is_of_piece h piece parcel =
    (parcel.piece == piece.id) && list_any (λ rank. rank == parcel.rank) piece.ranks
    && same_bounds parcel.region (part_of h piece parcel.rank)

-- the first parcel that is not
abbrev pub stranger_at : HeaderValue → Piece → List Parcel → Option ℕ
stranger_at h piece parcels = position_from (λ parcel. not (is_of_piece h piece parcel)) 0 parcels

-- the first parcel whose rank came before
abbrev pub double_at : List Parcel → Option ℕ
double_at parcels =
    find (λ at. has_parcel (take at parcels) (slice_index (map (λ parcel. parcel.rank) parcels) at))
    (range_with_len 0 (length parcels))

-- the first rank of a piece that has no parcel
abbrev pub missing_rank : Piece → List Parcel → Option ℕ
missing_rank piece parcels = find (λ rank. not (has_parcel parcels rank)) piece.ranks

-- why parcels do not make a piece, if they do not
abbrev pub why_not : HeaderValue → Piece → List Parcel → Option Why
why_not h piece parcels =
    option_or (option_map (λ at. Stranger at) (stranger_at h piece parcels))
    (option_or (option_map (λ at. Double at) (double_at parcels))
    (option_map (λ rank. Missing rank) (missing_rank piece parcels)))
