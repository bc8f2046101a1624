-- Pieces with what their ranks read of them.
use Rattle.std.specs.Prelude.{◌≡◌, ℕ, List, None, length, All}
use Rattle.idx_header.specs.Header.{HeaderValue}
use Rattle.idx_pieces.specs.Pieces.{IsPiece}
use Rattle.idx_pieces.specs.Refusals.{why_not}
use Rattle.idx_pieces.specs.Samples.{HoldsSamples, region_bytes}
use Rattle.idx_ranks.specs.declared.load.Load.{Load}

-- what is true of a load: its piece is one of some division, its parcels make the piece, and each has as many bytes as the samples
-- of its region
pub record IsLoad (h : HeaderValue) (load : Load) : Type 0 where
  pub piece : IsPiece h load.piece
  pub legal : why_not h load.piece load.parcels ≡ None
  pub whole : All (λ parcel. length parcel.bytes ≡ region_bytes h parcel.region) load.parcels

-- each parcel of a load holds these samples at the points of its region
abbrev pub HoldsLoad : HeaderValue → (ℕ → List ℕ → List ℕ) → Load → Type 0
HoldsLoad h sample load = All (λ parcel. HoldsSamples h sample parcel.region parcel.bytes) load.parcels
