use Rattle.std.proofs.Common.{◌≡◌, ◌+◌, ◌++◌, ℕ, List, None, Option, vec_len}
use Rattle.std.specs.Prelude.{All, map, reverse}
use Rattle.idx_pieces.specs.Parcels.{IsFull}
use Rattle.idx_pieces.specs.Pieces.{IsPiece}
use Rattle.idx_pieces.specs.Refusals.{why_not}
use Rattle.idx_ranks.specs.Queues.{AllFull, AreQueuesOf}
use Rattle.idx_ranks.proofs.sorting.sorted.Given as goal

abbrev pub invariant-loop-taken : goal.invariant-loop-taken
invariant-loop-taken l = record {
  split : l.pieces.items ++ map (λ load. load.piece) (reverse l.loads.items) ≡ l.initial.pieces.items;
  left : vec_len l.pieces + l.taken ≡ l.count;
  number : vec_len l.queues ≡ vec_len l.initial.queues;
  queues : AreQueuesOf l.header.box (vec_len l.initial.queues) l.pieces.items l.queues.items;
  valid : All (IsPiece l.header) l.pieces.items;
  ranks : All (λ piece. piece.of_ranks ≡ vec_len l.initial.queues) l.pieces.items;
  legal : All (λ load. why_not l.header load.piece load.parcels ≡ None) l.loads.items;
  full : (told : Option (List ℕ)) → AllFull l.header told l.initial.queues.items →
      AllFull l.header told l.queues.items × All (λ load. All (IsFull l.header told) load.parcels) l.loads.items;
}
