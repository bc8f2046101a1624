-- The parcels of the ranks while they are sorted to pieces: a queue for each rank.
use Rattle.std.specs.Prelude.{◌≡◌, ℕ, ◌<◌, ◌==◌, if◌then◌else◌, List, [], ◌∷◌, ◌++◌, All, Option, map, slice_index_or}
use Rattle.std.specs.Global.{Vec}
use Rattle.std.specs.List.{list_any}
use Rattle.idx_header.specs.Header.{HeaderValue}
use Rattle.idx_pieces.specs.Parcels.{AreParcelsOf, IsFull, heading_of, meeting, parcel_heading}
use Rattle.idx_pieces.specs.Ranks.{rank_count, rank_region}
use Rattle.idx_pieces.specs.declared.parcel.Parcel.{Parcel}
use Rattle.idx_pieces.specs.declared.piece.Piece.{Piece}

-- the parcels of a rank
abbrev pub queue_at : List (Vec Parcel) → ℕ → List Parcel
queue_at queues rank = slice_index_or (map (λ queue. queue.items) queues) rank []

-- each rank's queue has the parcels of these pieces: one for each piece that the rank's region meets, in their order
pub record AreQueuesOf (box : List (ℕ × ℕ)) (n : ℕ) (pieces : List Piece) (queues : List (Vec Parcel)) : Type 0 where
  pub each : (rank : ℕ) → rank < rank_count box n → AreParcelsOf rank (rank_region box n rank) pieces (queue_at queues rank)

-- the same of these pieces, and behind them one of one more piece for each of these ranks
pub record AreQueuesWith (box : List (ℕ × ℕ)) (n : ℕ) (pieces : List Piece) (piece : Piece) (ranks : List ℕ) (queues : List (Vec Parcel)) : Type 0 where
  pub each : (rank : ℕ) → rank < rank_count box n →
      map parcel_heading (queue_at queues rank) ≡ map (heading_of rank (rank_region box n rank)) (meeting (rank_region box n rank) pieces)
      ++ (if list_any (λ other. other == rank) ranks then heading_of rank (rank_region box n rank) piece ∷ [] else [])

-- all parcels are full
abbrev pub AllFull : HeaderValue → Option (List ℕ) → List (Vec Parcel) → Type 0
AllFull h told queues = All (λ queue. All (IsFull h told) queue.items) queues
