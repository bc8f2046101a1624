-- The guessed mask of a box: each axis has as many bits as its upper end has binary digits, and the digits are placed in
-- rounds from the finest leftward, in each round from the last axis to the first (this project's own rule).
use Rattle.std.specs.Prelude.{ℕ, zero, suc, ◌≤◌, ◌/◌, ◌==◌, nat_lt, if◌then◌else◌, List, [], ◌++◌, map, filter, sum}
use Rattle.std.specs.List.{enumerate_from}

-- how many binary digits a number has, where it has at most so many; 0 has none
abbrev pub binary_digits_within : ℕ → ℕ → ℕ
binary_digits_within zero x = 0
binary_digits_within (suc most) x = if x == 0 then 0 else suc (binary_digits_within most (x / 2))

-- how many binary digits an end of a region has, which is at most 2^40
unfoldable pub binary_digits : ℕ → ℕ
binary_digits x = binary_digits_within 41 x

-- how many bits each axis of a box gets
abbrev pub upper_bits : List (ℕ × ℕ) → List ℕ
upper_bits box = map (λ b. binary_digits b.1) box

-- the axes that have bits left in a round; the first round has the number 0
abbrev pub round_axes : List ℕ → ℕ → List ℕ
round_axes bits round = map (λ axis. axis.0) (filter (λ axis. nat_lt round axis.1) (enumerate_from 0 bits))

-- the digits of so many rounds: each round stands to the left of those before it, and its last axis stands at its right
abbrev pub rounds : List ℕ → ℕ → List ℕ
rounds bits zero = []
rounds bits (suc round) = round_axes bits round ++ rounds bits round

-- the guessed mask: after as many rounds as there are bits every axis is used up
abbrev pub guessed_mask : List (ℕ × ℕ) → List ℕ
guessed_mask box = rounds (upper_bits box) (sum (upper_bits box))

-- a mask can be guessed: it has one to forty digits
abbrev pub CanGuess : List (ℕ × ℕ) → Type 0
CanGuess box = (1 ≤ sum (upper_bits box)) × (sum (upper_bits box) ≤ 40)
