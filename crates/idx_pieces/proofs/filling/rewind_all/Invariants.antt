use Rattle.std.proofs.Common.{◌≡◌, length, map, All}
use Rattle.std.specs.List.{AllWithin}
use Rattle.idx_pieces.specs.declared.filling.Filling.{Filling}
use Rattle.idx_pieces.specs.Reading.{IsReady}
use Rattle.idx_pieces.proofs.filling.rewind_all.Given as goal

abbrev pub invariant-parts : goal.invariant-parts
invariant-parts l = record {
  count : length l.parts.items ≡ length l.initial.parts.items;
  ready : All (IsReady l.extent 0) l.parts.items;
  first : AllWithin (λ (f : Filling). f.cursor.done ≡ 0) l.parts.items 0 l.i;
  parcels : map (λ (f : Filling). f.parcel) l.parts.items ≡ map (λ (f : Filling). f.parcel) l.initial.parts.items;
}
