use Rattle.std.proofs.Common.{◌≡◌, ◌*◌, ◌^◌, ◌-◌}
use Rattle.std.specs.Prelude.{nat_le}
use Rattle.idx_pieces.specs.Digits.{greatest, piece_digits, point_bytes}
use Rattle.idx_pieces.proofs.digits.piece_digits.Given as goal

-- as many digits as were tried are too many
abbrev pub invariant-loop-less : goal.invariant-loop-less
invariant-loop-less l =
    greatest (λ e. nat_le (4 * 2 ^ e * point_bytes l.header) l.room) (l.most - l.less) ≡ piece_digits l.header l.room
