-- The bits of a number in reverse order.
use Rattle.std.specs.Prelude.{ℕ, zero, suc, ◌+◌, ◌-◌, ◌*◌, ◌/◌, ◌%◌, ◌^◌, nat_le, if◌then◌else◌}

-- the lowest n bits of a number, reversed
abbrev pub reversed : ℕ → ℕ → ℕ
reversed zero x = 0
reversed (suc n) x = x % 2 * 2 ^ n + reversed n (x / 2)

-- of a number of at most n bits the bits below its highest 1, reversed, behind another number
abbrev pub turned_behind : ℕ → ℕ → ℕ → ℕ
turned_behind zero x front = 0
turned_behind (suc n) x front =
    if nat_le (2 ^ n) x then front * 2 ^ n + reversed n (x - 2 ^ n) else turned_behind n x front

-- a number of at most n bits with the bits below its highest 1 reversed; 0 stays 0
abbrev pub turned : ℕ → ℕ → ℕ
turned n x = turned_behind n x 1
