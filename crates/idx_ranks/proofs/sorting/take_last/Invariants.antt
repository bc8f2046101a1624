use Rattle.std.proofs.Common.{◌≡◌, ◌-◌, ℕ, List, Option, drop, get_or, take, vec_len}
use Rattle.std.specs.Prelude.{All, map}
use Rattle.idx_pieces.specs.Parcels.{IsFull, parcel_heading}
use Rattle.idx_pieces.specs.declared.piece.Piece.{Piece}
use Rattle.idx_ranks.specs.Queues.{AllFull, AreQueuesWith}
use Rattle.idx_ranks.proofs.LegalLemmas.{owed}
use Rattle.idx_ranks.proofs.sorting.take_last.Given as goal

abbrev pub invariant-loop-rank : goal.invariant-loop-rank
invariant-loop-rank l = record {
  number : vec_len l.queues ≡ vec_len l.initial.queues;
  ranks : (d : Piece) → l.ranks ≡ (get_or l.pieces.items (vec_len l.pieces - 1) d).ranks;
  queues : (d : Piece) → AreQueuesWith l._header.box (vec_len l.initial.queues) (take (vec_len l.pieces - 1) l.pieces.items)
      (get_or l.pieces.items (vec_len l.pieces - 1) d) (drop l.rank-index l.ranks) l.queues.items;
  headings : (d : Piece) → map parcel_heading l.parcels.items ≡ map (owed l._header (get_or l.pieces.items (vec_len l.pieces - 1) d)) (take l.rank-index l.ranks);
  full : (told : Option (List ℕ)) → AllFull l._header told l.initial.queues.items →
      AllFull l._header told l.queues.items × All (IsFull l._header told) l.parcels.items;
}
