-- What a read of samples does.
use Rattle.std.specs.Prelude.{◌≡◌, ℕ, ◌-◌, ◌≤◌, List, length, Option, IfSome}
use Rattle.std.specs.Option.{ForSome}
use Rattle.idx_stride.specs.Places.{samples_at}
use Rattle.idx_stride.specs.Strides.{Walk, offsets_of, end_of}

-- where the bytes of the volume are known, the walk ends within them
abbrev pub FitsIn : Option (List ℕ) → Walk → Type 0
FitsIn contents w = ForSome contents (λ bytes. end_of w ≤ length bytes)

-- where the bytes of the volume are known, these are the walk's samples
abbrev pub AreSamples : Option (List ℕ) → Walk → List ℕ → Type 0
AreSamples contents w samples = IfSome contents (λ bytes. samples ≡ samples_at w.size bytes (offsets_of w))

-- the bytes from the first place of a walk to its end
abbrev pub span_of : Walk → ℕ
span_of w = end_of w - w.base
