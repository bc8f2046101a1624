use Rattle.std.proofs.Common.{◌≡◌, ℕ, List, ◌∷◌}
use Rattle.idx_lanes.specs.Spread.{part_after}
use Rattle.idx_lanes.specs.Copies.{EachCopy, IsWanted}
use Rattle.idx_lanes.proofs.CopyLemmas.{AreSoFar}
use Rattle.idx_block.specs.Tiles.{tile_lanes}
use Rattle.idx_block.proofs.tile.row_of_tiles.Given as goal

-- the tiles so far are made
abbrev pub invariant-loop-k : goal.invariant-loop-k
invariant-loop-k g l = record {
  part : l.part ≡ part_after l.lane.bits l.lane.first l.k;
  made : (want : ℕ → List ℕ) → EachCopy (IsWanted want (g.S.Sample.bytes l.sample) l.samples) (l.lane ∷ tile_lanes l.tile.one l.tile.two l.tile.four) l.from l.place →
      AreSoFar want (g.S.Sample.bytes l.sample) l.lane (tile_lanes l.tile.one l.tile.two l.tile.four) l.from l.place l.k l.initial.into l.into;
}
