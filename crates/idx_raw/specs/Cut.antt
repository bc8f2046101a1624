-- What is cut out of a raw volume of one field, and why a cut is refused.
use Rattle.std.specs.Prelude.{◌≡◌, ◌≢◌, ℕ, ◌*◌, ◌^◌, ◌≤◌, List, [], ◌∷◌, length, Option, IfSome, IsSomeAnd}
use Rattle.std.specs.List.{slice_index_or}
use Rattle.idx_outside.specs.Cause.{Rose}
use Rattle.idx_geom.specs.Region.{points, LiesIn, lower_ends, upper_ends}
use Rattle.idx_geom.specs.Volume.{volume_of}
use Rattle.idx_hz.specs.Mask.{HasAddress}
use Rattle.idx_hz.specs.Answer.{answer}
use Rattle.idx_raw.specs.declared.asked.Cut.{Cut}
use Rattle.idx_raw.specs.declared.cut_fault.CutFault.{CutFault}
use Rattle.idx_raw.specs.declared.cut_fault.CutFault.TheVariants.{RawWrongSize, RawFault, NoMemory}

-- how many bytes the raw volume has
abbrev pub volume_bytes : Cut → ℕ
volume_bytes c = length (points c.extent) * c.size

-- What is asked of the values together: samples have 1 to 64 bytes and the raw volume at most 2^30; the mask names axes of
-- the box, which is inside the mask; the region has the axes of the box and is inside it; the levels go from lo to hi, and
-- hi is at most the number of the mask's digits.
pub record IsSound (c : Cut) : Type 0 where
  pub some : 1 ≤ c.size
  pub few : c.size ≤ 64
  pub small : volume_bytes c ≤ 2 ^ 30
  pub covered : HasAddress c.mask (upper_ends c.extent)
  pub lower : LiesIn c.extent (lower_ends c.region)
  pub upper : LiesIn c.extent (upper_ends c.region)
  pub ordered : c.lo ≤ c.hi
  pub deepest : c.hi ≤ length c.mask

-- the samples of the raw volume, which has one field
abbrev pub samples_in : Cut → List ℕ → List (List ℕ)
samples_in c raw = slice_index_or (volume_of (c.size ∷ []) (length (points c.extent)) raw) 0 []

-- what is cut: the answer of the raw volume under the box, the mask, the region and the levels
unfoldable pub cut_output : Cut → List ℕ → List ℕ
cut_output c raw = answer c.mask c.extent (samples_in c raw) c.region c.lo c.hi

-- A raw volume whose bytes are known has as many as are asked for.
abbrev pub HasSize : Cut → Option (List ℕ) → Type 0
HasSize c raw = IfSome raw (λ bytes. length bytes ≡ volume_bytes c)

-- its bytes are known, but are not as many
abbrev pub HasOtherSize : Cut → Option (List ℕ) → Type 0
HasOtherSize c raw = IsSomeAnd raw (λ bytes. length bytes ≢ volume_bytes c)

-- What each refusal says of the raw volume: what is known of its bytes, and its counts of faults before and after.
abbrev pub IsCause : Cut → Option (List ℕ) → ℕ → ℕ → CutFault → Type 0
IsCause c raw before after (RawWrongSize want found) =
    (want ≡ volume_bytes c) × (found ≢ want) × IfSome raw (λ bytes. found ≡ length bytes) × (after ≡ before)
IsCause c raw before after RawFault = Rose before after
IsCause c raw before after NoMemory = HasSize c raw × (after ≡ before)

-- the length is refused
abbrev pub IsWrongSize : CutFault → Type 0
IsWrongSize (RawWrongSize want found) = Unit {0}
IsWrongSize RawFault = ⊥
IsWrongSize NoMemory = ⊥
