-- How many bytes of samples are in memory, of what was read.
use Rattle.std.specs.Prelude.{ℕ, length, map, sum}
use Rattle.idx_ranks.specs.declared.load.Load.{Load}

-- the bytes of all parcels of a load, together
abbrev pub load_bytes : Load → ℕ
load_bytes load = sum (map (λ parcel. length parcel.bytes) load.parcels)
