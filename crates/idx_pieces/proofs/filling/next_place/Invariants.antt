use Rattle.std.proofs.Common.{ℕ, ◌≤◌, All}
use Rattle.std.specs.List.{AllWithin}
use Rattle.idx_pieces.specs.Reading.{IsFrom}
use Rattle.idx_pieces.proofs.filling.next_place.Given as goal

abbrev pub invariant-parts : goal.invariant-parts
invariant-parts l = record {
  from : AllWithin (IsFrom l.next) l.parts.items 0 l.i;
  within : l.next ≤ l.end;
  least : (low : ℕ) → low ≤ l.end → All (IsFrom low) l.parts.items → low ≤ l.next;
}
