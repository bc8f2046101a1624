-- How large a piece is: as many last digits of Z addresses are free as let four pieces fit into a room.
use Rattle.std.specs.Prelude.{ℕ, zero, suc, ◌-◌, ◌*◌, ◌^◌, nat_le, Bool, if◌then◌else◌, length, map, min, sum}
use Rattle.idx_fields.specs.Field.{sample_bytes}
use Rattle.idx_header.specs.Header.{HeaderValue}

-- how many bytes the samples of a point have, those of all fields together
abbrev pub point_bytes : HeaderValue → ℕ
point_bytes h = sum (map sample_bytes h.fields)

-- the greatest number up to this one that passes the test, or 0 where none does
abbrev pub greatest : (ℕ → Bool) → ℕ → ℕ
greatest test zero = 0
greatest test (suc n) = if test (suc n) then suc n else greatest test n

-- A piece has the points of so many last digits of Z addresses: four such pieces fit into the room, and there are at most 64
-- pieces, but where the room is too small for that.
abbrev pub piece_digits : HeaderValue → ℕ → ℕ
piece_digits h room =
    greatest (λ e. nat_le (4 * 2 ^ e * point_bytes h) room) (length h.mask - min (length h.mask) 6)
