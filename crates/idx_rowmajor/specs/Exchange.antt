-- What a pass of exchanges does.
use Rattle.std.specs.Prelude.{◌≡◌, ℕ, ◌^◌, ◌<◌, List}
use Rattle.idx_rowmajor.specs.Bits.{Carries}
use Rattle.idx_rowmajor.specs.Targets.{bits_of}

-- each place below an end has a partner there, whose partner it is
abbrev pub IsPairing : ℕ → (ℕ → ℕ) → Type 0
IsPairing end partner = (o : ℕ) → o < end → (partner o < end) × (partner (partner o) ≡ o)

-- each place has what its partner had
abbrev pub IsExchanged : {X : Type 0} → ℕ → (ℕ → ℕ) → (ℕ → X) → (ℕ → X) → Type 0
IsExchanged end partner old new = (o : ℕ) → o < end → new o ≡ old (partner o)

-- each place has what the place with its bits had, each bit at its target
abbrev pub AreGathered : {X : Type 0} → ℕ → List ℕ → (ℕ → X) → (ℕ → X) → Type 0
AreGathered bits targets old new = (from to : ℕ) → from < 2 ^ bits → Carries bits targets from to → new from ≡ old to

-- each offset of a block has what its row place had; the targets are those of the offset's bits
abbrev pub AreTaken : {X : Type 0} → ℕ → ℕ → List ℕ → (ℕ → X) → (ℕ → X) → Type 0
AreTaken bits block targets rows hz =
    (offset place : ℕ) → offset < 2 ^ bits → Carries bits targets (bits_of bits block offset) place →
    hz offset ≡ rows place
