use Rattle.std.proofs.Common.{◌≡◌, ℕ, List, Option, take, map, All}
use Rattle.idx_pieces.specs.Parcels.{heading_of, meeting}
use Rattle.idx_pieces.specs.Reading.{HoldsUpTo, IsReady, heading}
use Rattle.idx_pieces.specs.declared.filling.Filling.{Filling}
use Rattle.idx_pieces.proofs.begun.begin_all.Given as goal

abbrev pub invariant-pieces : goal.invariant-pieces
invariant-pieces l = record {
  ready : All (IsReady l.header.box 0) l.parts.items;
  first : All (λ (f : Filling). f.cursor.done ≡ 0) l.parts.items;
  held : (told : Option (List ℕ)) → All (HoldsUpTo l.header told 0) l.parts.items;
  headings : map heading l.parts.items ≡ map (heading_of l.rank l.region) (meeting l.region (take l.i l.pieces.items));
}
