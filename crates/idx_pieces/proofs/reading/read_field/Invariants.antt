use Rattle.std.proofs.Common.{◌≡◌, ℕ, ◌-◌, ◌*◌, ◌≤◌, map, All}
use Rattle.idx_header.specs.Header.{sample_bytes_of}
use Rattle.idx_pieces.specs.RawReads.{AsksAtMost}
use Rattle.idx_pieces.specs.Reading.{HoldsUpTo, IsFrom, IsReady, heading}
use Rattle.idx_pieces.proofs.reading.read_field.Given as goal

abbrev pub invariant-windows : goal.invariant-windows
invariant-windows g l = record {
  within : l.at ≤ l.end;
  ready : All (IsReady l.header.box l.at) l.parts.items;
  headings : map heading l.parts.items ≡ map heading l.initial.parts.items;
  held : All (HoldsUpTo l.header (g.V.Source.contents l.initial.raw) l.field) l.initial.parts.items →
      All (HoldsUpTo l.header (g.V.Source.contents l.initial.raw) l.field) l.parts.items;
  contents : g.V.Source.contents l.raw ≡ g.V.Source.contents l.initial.raw;
  quiet : g.V.Source.faults l.raw ≡ g.V.Source.faults l.initial.raw;
  asked : (low : ℕ) → All (IsFrom low) l.initial.parts.items → low ≤ l.end →
      (low ≤ l.at) × AsksAtMost (g.V.Source.asked l.initial.raw) (g.V.Source.asked l.raw) (sample_bytes_of l.header l.field * (l.at - low));
}

abbrev pub decreases-windows : goal.decreases-windows
decreases-windows g l = l.end - l.at
