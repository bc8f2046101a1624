-- The words of the command `cut`: RAW SIZE BOX MASK REGION LO HI.
use Rattle.std.specs.Prelude.{◌≡◌, ℕ, ◌*◌, ◌^◌, ◌≤◌, List, [], ◌∷◌, length, Some, IsTrue}
use Rattle.idx_geom.specs.Region.{points, LiesIn, lower_ends, upper_ends}
use Rattle.idx_text.specs.Number.{number_of}
use Rattle.idx_text.specs.BoxText.{SpellsRegion}
use Rattle.idx_hz.specs.Mask.{IsMask, HasAddress}
use Rattle.idx_hz.specs.MaskText.{mask_text}
use Rattle.idx_words.specs.declared.cut_words.CutWords.{CutWords}
use Rattle.idx_words.specs.PathWord.{is_path}

-- how many bytes the raw volume has
abbrev pub volume_bytes : CutWords → ℕ
volume_bytes c = length (points c.extent) * c.size

-- What is asked of the values together: samples have 1 to 64 bytes and the raw volume at most 2^30; the mask names axes of
-- the box, which is inside the mask; the region has the axes of the box and is inside it; the levels go from LO to HI, and
-- HI is at most the number of the mask's digits.
pub record IsSound (c : CutWords) : Type 0 where
  pub some : 1 ≤ c.size
  pub few : c.size ≤ 64
  pub small : volume_bytes c ≤ 2 ^ 30
  pub covered : HasAddress c.mask (upper_ends c.extent)
  pub lower : LiesIn c.extent (lower_ends c.region)
  pub upper : LiesIn c.extent (upper_ends c.region)
  pub ordered : c.lo ≤ c.hi
  pub deepest : c.hi ≤ length c.mask

-- the six words behind the path spell these values, one by one
pub record Spell (size_word box_word mask_word region_word lo_word hi_word : List ℕ) (c : CutWords) : Type 0 where
  pub size : number_of size_word ≡ Some c.size
  pub extent : SpellsRegion box_word c.extent
  pub mask : mask_word ≡ mask_text c.mask
  pub digits : IsMask c.mask
  pub region : SpellsRegion region_word c.region
  pub lo : number_of lo_word ≡ Some c.lo
  pub hi : number_of hi_word ≡ Some c.hi

-- the words behind the command are those of `cut`, which stand for these values
abbrev pub AreCutWords : List (List ℕ) → CutWords → Type 0
AreCutWords (raw ∷ size ∷ extent ∷ mask ∷ region ∷ lo ∷ hi ∷ []) c =
    IsTrue (is_path raw) × Spell size extent mask region lo hi c × IsSound c
AreCutWords _ c = ⊥
