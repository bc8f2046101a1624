-- Each word of the command `cut` over the values of those before it: what it stands for where it is right.
use Rattle.std.specs.Prelude.{◌≡◌, ℕ, ◌*◌, ◌^◌, ◌≤◌, List, length, Some}
use Rattle.idx_geom.specs.Region.{points, LiesIn, lower_ends, upper_ends}
use Rattle.idx_text.specs.Number.{number_of}
use Rattle.idx_text.specs.BoxText.{SpellsRegion}
use Rattle.idx_hz.specs.Mask.{IsMask, HasAddress}
use Rattle.idx_hz.specs.MaskText.{mask_text}

-- the bytes of a sample
pub record IsSize (word : List ℕ) (size : ℕ) : Type 0 where
  pub spelled : number_of word ≡ Some size
  pub some : 1 ≤ size
  pub few : size ≤ 64

-- some mask covers the box
abbrev pub HasMask : List (ℕ × ℕ) → Type 0
HasMask box = (mask : List ℕ) × IsMask mask × HasAddress mask (upper_ends box)

-- the box of a raw volume, over the bytes of a sample
pub record IsBox (size : ℕ) (word : List ℕ) (box : List (ℕ × ℕ)) : Type 0 where
  pub spelled : SpellsRegion word box
  pub small : length (points box) * size ≤ 2 ^ 30
  pub covered : HasMask box

-- a mask of the box
pub record IsMaskOf (box : List (ℕ × ℕ)) (word mask : List ℕ) : Type 0 where
  pub spelled : word ≡ mask_text mask
  pub digits : IsMask mask
  pub covers : HasAddress mask (upper_ends box)

-- a region with the axes of the box, inside it
pub record IsRegionIn (box : List (ℕ × ℕ)) (word : List ℕ) (region : List (ℕ × ℕ)) : Type 0 where
  pub spelled : SpellsRegion word region
  pub lower : LiesIn box (lower_ends region)
  pub upper : LiesIn box (upper_ends region)

-- a level, from the coarsest that is allowed to the finest
pub record IsLevel (coarsest finest : ℕ) (word : List ℕ) (level : ℕ) : Type 0 where
  pub spelled : number_of word ≡ Some level
  pub least : coarsest ≤ level
  pub most : level ≤ finest
