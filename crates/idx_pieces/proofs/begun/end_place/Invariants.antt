use Rattle.std.proofs.Common.{ℕ, ◌≤◌, length, All}
use Rattle.std.specs.List.{AllWithin}
use Rattle.idx_geom.specs.Region.{points}
use Rattle.idx_pieces.specs.Reading.{EndsBelow}
use Rattle.idx_pieces.proofs.begun.end_place.Given as goal

abbrev pub invariant-parts : goal.invariant-parts
invariant-parts l = record {
  ends : AllWithin (EndsBelow l.extent l.end) l.parts.items 0 l.i;
  least : (end : ℕ) → All (EndsBelow l.extent end) l.parts.items → l.end ≤ end;
  within : l.end ≤ length (points l.extent);
}
