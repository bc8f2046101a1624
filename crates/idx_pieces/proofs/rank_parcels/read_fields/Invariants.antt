use Rattle.std.proofs.Common.{◌≡◌, ℕ, ◌-◌, ◌*◌, ◌≤◌, map, All}
use Rattle.idx_pieces.specs.RawReads.{AsksAtMost}
use Rattle.idx_pieces.specs.Reading.{BeginsFrom, HoldsUpTo, IsReady, bytes_before, field_start, heading}
use Rattle.idx_pieces.specs.declared.filling.Filling.{Filling}
use Rattle.idx_pieces.proofs.rank_parcels.read_fields.Given as goal

abbrev pub invariant-fields : goal.invariant-fields
invariant-fields g l = record {
  start : l.start ≡ field_start l.header l.field;
  ready : All (IsReady l.header.box 0) l.parts.items;
  first : All (λ (f : Filling). f.cursor.done ≡ 0) l.parts.items;
  headings : map heading l.parts.items ≡ map heading l.initial.parts.items;
  held : All (HoldsUpTo l.header (g.V.Source.contents l.initial.raw) l.field) l.parts.items;
  contents : g.V.Source.contents l.raw ≡ g.V.Source.contents l.initial.raw;
  quiet : g.V.Source.faults l.raw ≡ g.V.Source.faults l.initial.raw;
  asked : (low : ℕ) → All (BeginsFrom l.header.box low) l.initial.parts.items → low ≤ l.end →
      AsksAtMost (g.V.Source.asked l.initial.raw) (g.V.Source.asked l.raw) ((l.end - low) * bytes_before l.header l.field);
}
