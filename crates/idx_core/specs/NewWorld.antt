-- What a world is made of, and why it is not made.
use Rattle.std.specs.Prelude.{◌≡◌, ℕ, ◌≤◌, ◌<◌, ◌^◌, List, length, map, take, slice_get, Some, Result, Ok, Err}
use Rattle.idx_header.specs.Header.{HasTime, HeaderValue, volume_bytes}
use Rattle.idx_pieces.specs.Digits.{piece_digits}
use Rattle.idx_plan.specs.declared.ask.Ask.{Ask}
use Rattle.idx_events.specs.Start.{new_world}
use Rattle.idx_events.specs.Volumes.{count_of}
use Rattle.idx_core_model.specs.Headline.{CanBeAsked, IsTaken}
use Rattle.idx_core_layers.specs.Division.{DivisionValue, layers_of}
use Rattle.idx_core.specs.World.{CoreValue}
use Rattle.idx_core.specs.declared.world_refusal.WorldRefusal.{WorldRefusal}
use Rattle.idx_core.specs.declared.world_refusal.WorldRefusal.TheVariants.{WrongVolume, WrongAsk, NoMemory}

-- the timesteps of volumes
abbrev pub times_of : List (ℕ × List ℕ) → List ℕ
times_of volumes = map (λ v. v.0) volumes

-- the first of so many places at which it does not hold
pub record IsFirstWithout (P : ℕ → Type 0) (many at : ℕ) : Type 0 where
  pub there : at < many
  pub before : (i : ℕ) → i < at → P i
  pub lacks : ¬ (P at)

module _ (h : HeaderValue) where
  -- A volume is right behind volumes of these timesteps: it is whole, its timestep is one of the header, and at most 255 of
  -- its timestep stand before it.
  pub record IsRightVolume (before : List ℕ) (v : ℕ × List ℕ) : Type 0 where
    pub whole : length v.1 ≡ volume_bytes h
    pub step : HasTime h v.0
    pub few : count_of v.0 before ≤ 255

  -- the volume at a place is right behind those before it
  abbrev pub IsRightAt : List (ℕ × List ℕ) → ℕ → Type 0
  IsRightAt volumes i = (v : ℕ × List ℕ) → slice_get volumes i ≡ Some v → IsRightVolume (times_of (take i volumes)) v

  abbrev pub AreRight : List (ℕ × List ℕ) → Type 0
  AreRight volumes = (i : ℕ) → i < length volumes → IsRightAt volumes i

  -- the question at a place can be asked
  abbrev pub IsAskAt : List Ask → ℕ → Type 0
  IsAskAt asks i = (ask : Ask) → slice_get asks i ≡ Some ask → CanBeAsked h ask

  abbrev pub AreAsks : List Ask → Type 0
  AreAsks asks = (i : ℕ) → i < length asks → IsAskAt asks i

  -- the dataset, divided into pieces of which four have 2^28 bytes at most
  abbrev pub divided_by : ℕ → DivisionValue
  divided_by ranks = record { header = h; digits = piece_digits h (2 ^ 28); ranks = ranks }

  -- `Ok` with the new world of the volumes and questions, all of which a world takes; `WrongVolume` at the first volume that is
  -- not right; `WrongAsk`, where all volumes are right, at the first question that cannot be asked; `NoMemory` only where all
  -- volumes are right
  abbrev pub IsNewWorld : ℕ → List (ℕ × List ℕ) → List Ask → ℕ → Result CoreValue WorldRefusal → Type 0
  IsNewWorld ranks volumes asks capacity (Ok made) =
      IsTaken h volumes asks × (made.layers ≡ divided_by ranks) × (made.world ≡ new_world (layers_of (divided_by ranks)) volumes asks capacity)
  IsNewWorld ranks volumes asks capacity (Err (WrongVolume at)) = IsFirstWithout (IsRightAt volumes) (length volumes) at
  IsNewWorld ranks volumes asks capacity (Err (WrongAsk at)) = AreRight volumes × IsFirstWithout (IsAskAt asks) (length asks) at
  IsNewWorld ranks volumes asks capacity (Err NoMemory) = AreRight volumes

  -- why questions are refused: one cannot be asked, and it is the first; or there is no memory
  abbrev pub IsAskRefusal : List Ask → WorldRefusal → Type 0
  IsAskRefusal asks (WrongVolume at) = ⊥
  IsAskRefusal asks (WrongAsk at) = IsFirstWithout (IsAskAt asks) (length asks) at
  IsAskRefusal asks NoMemory = Unit {0}
