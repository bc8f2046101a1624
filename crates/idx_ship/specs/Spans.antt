-- Aligned spans of consecutive addresses, and what a run over one of them holds.
use Rattle.std.specs.Prelude.{◌≡◌, true, ℕ, ◌+◌, ◌-◌, ◌*◌, ◌/◌, ◌^◌, ◌<◌, ◌≤◌, ◌++◌, List, length, filter, All}
use Rattle.std.specs.List.{flat_map, range_with_len}
use Rattle.idx_geom.specs.Region.{LiesIn}
use Rattle.idx_hz.specs.Address.{z_address}
use Rattle.idx_grid.specs.Block.{HasPrefix}
use Rattle.idx_pieces.specs.Runs.{has_address}
use Rattle.idx_ship.specs.declared.prefix.Prefix.{Prefix}
use Rattle.idx_ship.specs.declared.span.Span.{Span}

-- the addresses of a span, rising
abbrev pub span_addresses : Span → List ℕ
span_addresses span = range_with_len (span.number * 2 ^ span.bits) (2 ^ span.bits)

-- the addresses of some spans, span after span
abbrev pub all_addresses : List Span → List ℕ
all_addresses spans = flat_map span_addresses spans

-- the addresses, in a block of 2^bits, of the points of a region, rising
abbrev pub block_addresses : List ℕ → List (ℕ × ℕ) → ℕ → ℕ → List ℕ
block_addresses mask region bits block = filter (has_address mask region) (range_with_len (block * 2 ^ bits) (2 ^ bits))

-- a span under a mask: at most 2^20 addresses, all of them with a point
pub record IsSpan (mask : List ℕ) (span : Span) : Type 0 where
  pub few : span.bits ≤ 20
  pub within : span.bits ≤ length mask
  pub exists : span.number < 2 ^ (length mask - span.bits)

-- spans of so many addresses were added
pub record AreAdded (mask more : List ℕ) (old new : List Span) : Type 0 where
  pub addresses : all_addresses new ≡ all_addresses old ++ more
  pub each : All (IsSpan mask) old → All (IsSpan mask) new

-- the Z addresses of all points of a region begin with these digits
pub record IsPrefix (mask : List ℕ) (region : List (ℕ × ℕ)) (prefix : Prefix) : Type 0 where
  pub within : prefix.digits ≤ length mask
  pub small : prefix.front < 2 ^ prefix.digits
  pub each : (p : List ℕ) → LiesIn region p → z_address mask p / 2 ^ (length mask - prefix.digits) ≡ prefix.front
  pub whole : prefix.whole ≡ true → (p : List ℕ) → HasPrefix mask (length region) prefix.digits prefix.front p → LiesIn region p

-- so many more digits lead from a block to the block of the addresses whose digits behind the highest 1 begin with these
pub record IsNarrower (prefix : Prefix) (bits number : ℕ) (span : Span) : Type 0 where
  pub more : ℕ
  pub within : more ≤ bits
  pub among : more ≤ prefix.digits
  pub left : span.bits ≡ bits - more
  pub is : span.number ≡ 2 ^ prefix.digits + prefix.front
  pub outer : span.number / 2 ^ more ≡ number

-- the one address of a block on a level that has so many digits fewer than these
pub record IsOnly (prefix : Prefix) (bits number address : ℕ) : Type 0 where
  pub less : ℕ
  pub deep : bits + less ≤ prefix.digits
  pub is : address ≡ 2 ^ (prefix.digits - less) + prefix.front / 2 ^ less
  pub outer : address / 2 ^ bits ≡ number
