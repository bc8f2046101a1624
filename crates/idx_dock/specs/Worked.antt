-- Values for the worked examples: the second file of a box of 4 by 4 points, whose sample number n is the byte n, with blocks
-- of four samples and two blocks in a file. The box is divided into four pieces of 2 by 2 points.
use Rattle.std.specs.Prelude.{ℕ, [], ◌∷◌}
use Rattle.idx_header.specs.Worked.{small_header}
use Rattle.idx_pieces.specs.Pieces.{pieces_of}
use Rattle.idx_pieces.specs.declared.shipment.Shipment.{Shipment}
use Rattle.idx_dock.specs.Dock.{DockValue, new_dock, with_shipment}

-- a dock of the file to which nothing was delivered
abbrev pub empty_dock : DockValue
empty_dock = new_dock small_header (pieces_of small_header 2 1) 2

-- a piece's two samples in the file
abbrev pub two_samples : ℕ → ℕ → ℕ → ℕ → Shipment
two_samples piece first one other =
    record { piece = piece; file = 2; runs = record { field = 0; first = first; bytes = one ∷ other ∷ [] } ∷ [] }

-- the dock with the samples of the last piece and then of the first
abbrev pub half_dock : DockValue
half_dock = with_shipment (two_samples 0 8 4 5) (with_shipment (two_samples 3 14 14 15) empty_dock)

-- the dock with those of all pieces
abbrev pub full_dock : DockValue
full_dock = with_shipment (two_samples 1 10 12 13) (with_shipment (two_samples 2 12 6 7) half_dock)

-- a piece's two samples in the first file, each in a run of its own
abbrev pub two_runs : ℕ → ℕ → ℕ → ℕ → ℕ → Shipment
two_runs piece first one second other =
    record {
      piece = piece;
      file = 0;
      runs = record { field = 0; first = first; bytes = one ∷ [] } ∷ record { field = 0; first = second; bytes = other ∷ [] } ∷ [];
    }

-- a dock of the first file with the samples of the second and the third piece
abbrev pub first_dock : DockValue
first_dock = with_shipment (two_runs 1 2 8 5 9) (with_shipment (two_runs 2 1 2 6 3) (new_dock small_header (pieces_of small_header 2 1) 0))
