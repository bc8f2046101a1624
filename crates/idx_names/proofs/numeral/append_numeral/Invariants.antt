use Rattle.std.proofs.Common.{◌≡◌, ◌++◌, ◌<◌, ◌≤◌, ◌^◌, map, drop, false, length}
use Rattle.std.specs.Fmt.{digit_glyph}
use Rattle.std.specs.Int.Digits.{digits_of}
use Rattle.idx_names.specs.Pieces.{mark_base}
use Rattle.idx_names.proofs.numeral.append_numeral.Given as goal

abbrev pub invariant-loop-rest : goal.invariant-loop-rest
invariant-loop-rest l = record {
  digits : map (digit_glyph false) (digits_of (mark_base l.kind) l.fn.number) ≡ map (digit_glyph false) (digits_of (mark_base l.kind) l.rest) ++ drop l.place l.digits;
  small : l.rest < 10 ^ l.place;
  place : l.place ≤ 20;
  len : length l.digits ≡ 20;
}

abbrev pub decreases-loop-rest : goal.decreases-loop-rest
decreases-loop-rest l = l.rest
