use Rattle.std.proofs.Common.{◌≡◌, ℕ, ◌+◌, List, length, map, drop}
use Rattle.std.specs.Prelude.{Option, Some}
use Rattle.idx_outside.specs.Files.{StillAdmits, shown}
use Rattle.idx_outside.specs.Objects.{SameContents, contents_at}
use Rattle.idx_header.specs.Header.{HeaderValue}
use Rattle.idx_pieces.specs.Ranks.{rank_count}
use Rattle.idx_pieces.specs.Samples.{raw_sample}
use Rattle.idx_gather.specs.States.{HaveSamples}
use Rattle.idx_gather.specs.Streams.{AreOpen, AreSealed, numbered}
use Rattle.idx_gather.proofs.sealing_all.drain.Given as goal

-- the step is the same, no count has changed, and each file of the window has a dock or is sealed
abbrev pub invariant-batches : goal.invariant-batches
invariant-batches g l =
    let o = l.fn.stream.opening in
    let h : HeaderValue = o.header in
    let contents = g.B.Leaf.Leaf.contents in
    let told : Option (List ℕ) = contents_at g.V.Source.contents l.fn.raws.items 0 in
    record {
      opening : l.stream.opening ≡ o;
      number : length l.raws.items ≡ length l.fn.raws.items;
      same : SameContents g.V.Source.contents l.fn.raws.items l.raws.items;
      quiet : map g.V.Source.faults l.raws.items ≡ map g.V.Source.faults l.fn.raws.items;
      idle : drop (rank_count h.box (length l.fn.raws.items)) l.raws.items ≡ drop (rank_count h.box (length l.fn.raws.items)) l.fn.raws.items;
      bay_files : g.B.Bay.files l.bay ≡ g.B.Bay.files l.fn.bay;
      bay_header : g.B.Bay.header l.bay ≡ g.B.Bay.header l.fn.bay;
      begun : g.B.Bay.begun l.bay ≡ g.B.Bay.begun l.fn.bay;
      failed : g.B.Bay.failed l.bay ≡ g.B.Bay.failed l.fn.bay;
      faults : g.B.Bay.faults l.bay ≡ g.B.Bay.faults l.fn.bay;
      still : StillAdmits g.B.Bay.admits l.fn.bay l.bay;
      state : AreOpen h o.pieces.items (drop (length o.leaves.items) o.files.items) (map (λ entry. entry.0) l.stream.sealed.items) l.stream.left.items l.stream.docks.items;
      many : length l.stream.docks.items + length l.stream.sealed.items ≡ length l.fn.stream.docks.items;
      samples : (raw : List ℕ) → told ≡ Some raw → HaveSamples h (raw_sample h raw) l.stream.docks.items;
      sealed : AreSealed o.layout h o.step (g.B.Bay.files l.fn.bay) told o.files.items (shown contents o.leaves.items) (numbered contents l.stream.sealed.items);
    }

-- fewer pieces are left, or fewer docks where none is
abbrev pub decreases-batches : goal.decreases-batches
decreases-batches g l = length l.stream.left.items + length l.stream.docks.items
