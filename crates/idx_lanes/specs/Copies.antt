-- Copies of samples from a row-major volume into a block.
use Rattle.std.specs.Prelude.{◌≡◌, ℕ, ◌+◌, ◌*◌, ◌<◌, ◌≤◌, List, [], ◌∷◌, length, take, drop}
use Rattle.idx_lanes.specs.Spread.{part_after}
use Rattle.idx_lanes.specs.declared.lane.Lane.{Lane}

-- of each copy along these lanes, the slowest first, something holds of the byte that it begins at and of the place in
-- the block that it goes to
abbrev pub EachCopy : (ℕ → ℕ → Type 0) → List Lane → ℕ → ℕ → Type 0
EachCopy P [] from place = P from place
EachCopy P (lane ∷ faster) from place =
    (k : ℕ) → k < lane.count → EachCopy P faster (from + k * lane.step) (place + part_after lane.bits lane.first k)

-- a lane has a coordinate
abbrev pub HasCoordinate : Lane → Type 0
HasCoordinate lane = 1 ≤ lane.count

-- the sample at a byte is there, and so is the place in the block
abbrev pub IsWithin : ℕ → List ℕ → List ℕ → ℕ → ℕ → Type 0
IsWithin size raw block from place = (from + size ≤ length raw) × ((place + 1) * size ≤ length block)

-- the sample at a byte is what the place is to hold
abbrev pub IsWanted : (ℕ → List ℕ) → ℕ → List ℕ → ℕ → ℕ → Type 0
IsWanted want size raw from place = take size (drop from raw) ≡ want place

-- a place of a block holds what it is to hold, of so many bytes
abbrev pub IsRight : (ℕ → List ℕ) → ℕ → List ℕ → ℕ → Type 0
IsRight want size block place = take size (drop (place * size) block) ≡ want place

-- the copies along these lanes make their places right, and what was right stays so
pub record AreMade (want : ℕ → List ℕ) (size : ℕ) (lanes : List Lane) (from place : ℕ) (old new : List ℕ) : Type 0 where
  pub kept : (o : ℕ) → IsRight want size old o → IsRight want size new o
  pub placed : EachCopy (λ f o. IsRight want size new o) lanes from place
