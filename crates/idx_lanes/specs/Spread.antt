-- What one axis gives to a Z address: the digits of a mask that name it are places of the address, and a coordinate's
-- bits stand there, the lowest one at the finest of them.
use Rattle.std.specs.Prelude.{◌≡◌, ℕ, zero, suc, ◌+◌, ◌-◌, ◌*◌, ◌%◌, ◌^◌, ◌==◌, if◌then◌else◌, List, [], ◌∷◌, length, bit_and}
use Rattle.std.specs.Int.{bit_at}
use Rattle.idx_hz.specs.Mask.{bit_count}

-- the places of an axis, as the bits of a number
abbrev pub axis_bits : ℕ → List ℕ → ℕ
axis_bits axis [] = 0
axis_bits axis (d ∷ finer) = (if d == axis then 1 else 0) * 2 ^ length finer + axis_bits axis finer

-- what a coordinate of an axis gives to the Z address
abbrev pub spread : ℕ → List ℕ → ℕ → ℕ
spread axis [] x = 0
spread axis (d ∷ finer) x =
    (if d == axis then bit_at x (bit_count axis finer) else 0) * 2 ^ length finer + spread axis finer x

-- each bit of a number is one of the given bits
abbrev pub IsPart : ℕ → ℕ → Type 0
IsPart bits z = bit_and z bits ≡ z

-- the next number, at 64 bits, whose bits are all among the given ones; behind the greatest one comes 0
abbrev pub next_part : ℕ → ℕ → ℕ
next_part bits z = bit_and ((z + (2 ^ 64 - bits)) % 2 ^ 64) bits

-- the number that so many steps lead to
abbrev pub part_after : ℕ → ℕ → ℕ → ℕ
part_after bits first zero = first
part_after bits first (suc k) = next_part bits (part_after bits first k)
