-- Runs of samples at consecutive addresses, and what they hold of a piece.
use Rattle.std.specs.Prelude.{◌≡◌, ℕ, ◌+◌, ◌*◌, ◌/◌, ◌^◌, ◌<◌, ◌≤◌, ◌==◌, Bool, List, length, filter, find, replicate, All}
use Rattle.std.specs.List.{flat_map, list_any, range_with_len}
use Rattle.std.specs.Option.{option_map_or}
use Rattle.idx_geom.specs.Region.{points}
use Rattle.idx_hz.specs.Address.{hz_address}
use Rattle.idx_header.specs.Header.{HeaderValue, sample_bytes_of}
use Rattle.idx_pieces.specs.declared.run.Run.{Run}

-- some point of a region has this address
abbrev pub has_address : List ℕ → List (ℕ × ℕ) → ℕ → Bool
has_address mask region address = list_any (λ p. hz_address mask p == address) (points region)

-- the addresses of a file
abbrev pub file_addresses : HeaderValue → ℕ → List ℕ
file_addresses h file = range_with_len (file * 2 ^ h.block_bits) (h.blocks_per_file * 2 ^ h.block_bits)

-- the addresses, in a file, of the points of a region, rising
abbrev pub addresses_in : HeaderValue → List (ℕ × ℕ) → ℕ → List ℕ
addresses_in h region file = filter (has_address h.mask region) (file_addresses h file)

-- how many samples a run has, and their addresses
abbrev pub run_length : HeaderValue → Run → ℕ
run_length h run = length run.bytes / sample_bytes_of h run.field

abbrev pub run_addresses : HeaderValue → Run → List ℕ
run_addresses h run = range_with_len run.first (run_length h run)

-- a run of a file: whole samples of a field, at least one, at addresses of the file
pub record IsRun (h : HeaderValue) (file : ℕ) (run : Run) : Type 0 where
  pub field : run.field < length h.fields
  pub whole : length run.bytes ≡ sample_bytes_of h run.field * run_length h run
  pub some : 1 ≤ run_length h run
  pub from : file * 2 ^ h.block_bits ≤ run.first
  pub to : run.first + run_length h run ≤ (file + h.blocks_per_file) * 2 ^ h.block_bits

-- the addresses of the runs of a field, run after run
abbrev pub addresses_of : HeaderValue → ℕ → List Run → List ℕ
addresses_of h field runs = flat_map (run_addresses h) (filter (λ run. run.field == field) runs)

-- the runs of a file: for each field they have exactly the addresses of the points of a region there, each once
pub record AreRunsOf (h : HeaderValue) (region : List (ℕ × ℕ)) (file : ℕ) (runs : List Run) : Type 0 where
  pub each : All (IsRun h file) runs
  pub addresses : (field : ℕ) → field < length h.fields → addresses_of h field runs ≡ addresses_in h region file

-- the sample at an address: that of the box's point that has it, and zeros where no point of the box has it
abbrev pub sample_at_address : HeaderValue → (ℕ → List ℕ → List ℕ) → ℕ → ℕ → List ℕ
sample_at_address h sample field address =
    option_map_or (sample field) (find (λ p. hz_address h.mask p == address) (points h.box))
    (replicate (sample_bytes_of h field) 0)

-- the run has these samples
abbrev pub HasSamples : HeaderValue → (ℕ → List ℕ → List ℕ) → Run → Type 0
HasSamples h sample run = run.bytes ≡ flat_map (sample_at_address h sample run.field) (run_addresses h run)
