use Rattle.std.proofs.Common.{◌≡◌}
use Rattle.std.specs.Prelude.{filter}
use Rattle.std.specs.List.{range_with_len}
use Rattle.idx_pieces.specs.Ranks.{meets, rank_region}
use Rattle.idx_pieces.proofs.all_pieces.ranks_in.Given as goal

-- the ranks so far
abbrev pub invariant-loop-rank : goal.invariant-loop-rank
invariant-loop-rank l = l.ranks.items ≡ filter (λ rank. meets (rank_region l.whole l.n rank) l.region) (range_with_len 0 l.rank)
