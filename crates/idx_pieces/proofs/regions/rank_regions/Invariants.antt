use Rattle.std.proofs.Common.{◌≡◌, map}
use Rattle.std.specs.List.{range_with_len}
use Rattle.idx_pieces.specs.Ranks.{rank_region}
use Rattle.idx_pieces.proofs.regions.rank_regions.Given as goal

-- the regions of the ranks so far
abbrev pub invariant-loop-rank : goal.invariant-loop-rank
invariant-loop-rank l = l.regions.items ≡ map (rank_region l.region l.n) (range_with_len 0 l.rank)
