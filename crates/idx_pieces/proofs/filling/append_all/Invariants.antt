use Rattle.std.proofs.Common.{◌≡◌, ℕ, List, Option, length, map, All}
use Rattle.std.specs.List.{AllWithin}
use Rattle.idx_pieces.specs.Reading.{HoldsUpTo, IsReady, IsWindowOf, heading}
use Rattle.idx_pieces.proofs.filling.append_all.Given as goal

abbrev pub invariant-parts : goal.invariant-parts
invariant-parts l = record {
  count : length l.parts.items ≡ length l.initial.parts.items;
  todo : AllWithin (IsReady l.header.box l.from) l.parts.items l.i (length l.parts.items);
  ready : AllWithin (IsReady l.header.box l.to) l.parts.items 0 l.i;
  headings : map heading l.parts.items ≡ map heading l.initial.parts.items;
  held : (told : Option (List ℕ)) → IsWindowOf l.header told l.field l.from l.window →
      All (HoldsUpTo l.header told l.field) l.initial.parts.items → All (HoldsUpTo l.header told l.field) l.parts.items;
}
