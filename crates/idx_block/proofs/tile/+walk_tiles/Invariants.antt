use Rattle.std.proofs.Common.{◌≡◌, ℕ, List, ◌∷◌, ◌++◌, length}
use Rattle.idx_lanes.specs.Spread.{part_after}
use Rattle.idx_lanes.specs.Copies.{EachCopy, IsWanted}
use Rattle.idx_lanes.proofs.CopyLemmas.{AreSoFar}
use Rattle.idx_block.specs.Tiles.{tile_lanes}
use Rattle.idx_block.proofs.tile.+walk_tiles.Given as goal

abbrev pub decreases-walk_tiles : goal.decreases-walk_tiles
decreases-walk_tiles g l = length l.lanes.now

-- the copies so far are made
abbrev pub invariant-loop-k : goal.invariant-loop-k
invariant-loop-k g l = record {
  part : l.part ≡ part_after l.slowest.bits l.slowest.first l.k;
  made : (want : ℕ → List ℕ) →
      EachCopy (IsWanted want (g.S.Sample.bytes l.sample) l.samples) ((l.slowest ∷ l.faster) ++ tile_lanes l.tile.one l.tile.two l.tile.four) l.from l.place →
      AreSoFar want (g.S.Sample.bytes l.sample) l.slowest (l.faster ++ tile_lanes l.tile.one l.tile.two l.tile.four) l.from l.place l.k l.initial.into l.into;
}
