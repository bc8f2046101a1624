-- The shipments of a piece: its samples in hierarchical order, file by file.
use Rattle.std.specs.Prelude.{◌≡◌, ℕ, ◌==◌, List, length, map, filter, All}
use Rattle.std.specs.List.{flat_map, range_with_len}
use Rattle.idx_fields.specs.Field.{sample_bytes}
use Rattle.idx_header.specs.Header.{HeaderValue}
use Rattle.idx_layout.specs.Placing.{Placing, file_numbers}
use Rattle.idx_pieces.specs.Samples.{AreSamples, HoldsSamples}
use Rattle.idx_pieces.specs.Runs.{AreRunsOf, HasSamples}
use Rattle.idx_pieces.specs.declared.filled.Filled.{Filled}
use Rattle.idx_pieces.specs.declared.run.Run.{Run}
use Rattle.idx_pieces.specs.declared.shipment.Shipment.{Shipment}

-- what decides where the samples of a region stand: the dataset's blocks and files
abbrev pub placing_in : HeaderValue → List (ℕ × ℕ) → Placing
placing_in h region = record {
  mask = h.mask;
  region = region;
  bits = h.block_bits;
  per_file = h.blocks_per_file;
  sizes = map sample_bytes h.fields;
}

-- the files, rising, in which some point of a region has its address
abbrev pub files_in : HeaderValue → List (ℕ × ℕ) → List ℕ
files_in h region = file_numbers (placing_in h region)

-- the runs of the first field, behind them those of the second, and so on
abbrev pub by_fields : HeaderValue → List Run → List Run
by_fields h runs = flat_map (λ field. filter (λ run. run.field == field) runs) (range_with_len 0 (length h.fields))

-- a shipment of a piece: its runs, rising by field and then by address, have exactly the addresses of the piece's points
-- in its file, and hold the piece's samples, whatever these are
pub record IsShipment (h : HeaderValue) (filled : Filled) (shipment : Shipment) : Type 0 where
  pub piece : shipment.piece ≡ filled.piece.id
  pub runs : AreRunsOf h filled.piece.region shipment.file shipment.runs
  pub rising : by_fields h shipment.runs ≡ shipment.runs
  pub samples : (sample : ℕ → List ℕ → List ℕ) → AreSamples h sample →
      HoldsSamples h sample filled.piece.region filled.bytes → All (HasSamples h sample) shipment.runs

-- the shipments of a piece: one for each of its files, rising
pub record AreShipments (h : HeaderValue) (filled : Filled) (shipments : List Shipment) : Type 0 where
  pub files : map (λ shipment. shipment.file) shipments ≡ files_in h filled.piece.region
  pub each : All (IsShipment h filled) shipments
