-- Moves of samples along lanes, each from a place of a block to the place of its point in the answer. The lanes are
-- those of the copies the other way round: they give the places of the points in the region, and the legs those in the
-- answer.
use Rattle.std.specs.Prelude.{◌≡◌, ℕ, ◌+◌, ◌*◌, ◌^◌, ◌<◌, ◌≤◌, List, length}
use Rattle.idx_geom.specs.Region.{points}
use Rattle.idx_lanes.specs.Copies.{IsRight}
use Rattle.idx_lanes.specs.Lanes.{AreNumbers, byte_at}
use Rattle.idx_lanes.specs.declared.block_part.BlockPart.{BlockPart}
use Rattle.idx_lanes.specs.declared.lane.Lane.{Lane}
use Rattle.idx_scatter.specs.Asked.{Asked, asked_before}
use Rattle.idx_scatter.specs.Legs.{EachMove, place_by}
use Rattle.idx_scatter.specs.Scatter.{sample_of}
use Rattle.idx_scatter.specs.declared.leg.Leg.{Leg}
use Rattle.idx_scatter.specs.declared.tally.Tally.{Tally}

-- a point stands at the place `at` of the region, its place in the answer is there, and so is the place in the block
pub record IsThere (a : Asked) (size : ℕ) (samples into : List ℕ) (at place : ℕ) : Type 0 where
  pub point : at < length (points a.region)
  pub few : length (points a.region) ≤ 2 ^ 40
  pub room : (asked_before a at + 1) * size ≤ length into
  pub read : (place + 1) * size ≤ length samples

-- the block's sample is what the point's place is to hold
abbrev pub IsAsked : Asked → (ℕ → List ℕ) → ℕ → List ℕ → ℕ → ℕ → Type 0
IsAsked a want size samples at place = sample_of size samples place ≡ want (asked_before a at)

-- the place of the point at `at` holds what it is to hold
abbrev pub IsPut : Asked → (ℕ → List ℕ) → ℕ → List ℕ → ℕ → Type 0
IsPut a want size into at = IsRight want size into (asked_before a at)

-- the place in the answer is there, and so is the place in the block
pub record IsRoom (size : ℕ) (samples into : List ℕ) (place : ℕ) (tally : Tally) : Type 0 where
  pub ordered : tally.coarse.count ≤ tally.fine.count
  pub room : (place_by tally + 1) * size ≤ length into
  pub read : (place + 1) * size ≤ length samples

-- a sample's place in the answer is there, and so is its place in the block
pub record IsSpot (size : ℕ) (samples into : List ℕ) (place to : ℕ) : Type 0 where
  pub room : (to + 1) * size ≤ length into
  pub read : (place + 1) * size ≤ length samples

-- so many samples, `more` places apart, are right, and what was right stays so
pub record AreApart (want : ℕ → List ℕ) (size count first more : ℕ) (old new : List ℕ) : Type 0 where
  pub kept : (o : ℕ) → IsRight want size old o → IsRight want size new o
  pub placed : (k : ℕ) → k < count → IsRight want size new (first + k * more)

-- the block's sample is what the place in the answer is to hold
abbrev pub IsWanted : (ℕ → List ℕ) → ℕ → List ℕ → ℕ → Tally → Type 0
IsWanted want size samples place tally = sample_of size samples place ≡ want (place_by tally)

-- the moves along these lanes make the places right that they go to, and what was right stays so
pub record AreMoved (want : ℕ → List ℕ) (size : ℕ) (legs : List Leg) (lanes : List Lane) (place : ℕ) (rows : Tally) (old new : List ℕ) : Type 0 where
  pub kept : (o : ℕ) → IsRight want size old o → IsRight want size new o
  pub placed : EachMove (λ place tally. IsRight want size new (place_by tally)) legs lanes place rows

-- the same by the numbers of the coordinates on each axis
pub record AreMovedBy (a : Asked) (want : ℕ → List ℕ) (size : ℕ) (part : BlockPart) (axes : ℕ) (old new : List ℕ) : Type 0 where
  pub kept : (o : ℕ) → IsRight want size old o → IsRight want size new o
  pub placed : (ks : ℕ → ℕ) → AreNumbers part axes ks → IsPut a want size new (byte_at part axes ks)
