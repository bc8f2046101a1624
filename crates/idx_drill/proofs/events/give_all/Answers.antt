use Rattle.std.proofs.Common.{ℕ, ap, ◌∙◌, ◌++◌, filter, map}
use Rattle.idx_events.specs.Lists.{has}
use Rattle.idx_events.specs.declared.event.Event.TheVariants.{Give}
use Rattle.idx_pieces.specs.declared.piece.Piece.{Piece}
use Rattle.idx_drill.proofs.EventLemmas.{flat_map-range_more}
use Rattle.idx_drill.proofs.events.give_all.Goals as goal

pub loop-rank-preserved : goal.loop-rank-preserved
loop-rank-preserved c =
    let parts = λ (rank : ℕ). map (λ (piece : Piece). Give 0 0 rank piece.id) (filter (λ (piece : Piece). has rank piece.ranks) c.args.pieces.now.items) in
    c.in_ok-give_parts.ensures ∙ ap (λ l. l ++ parts c.loop-rank.rank) c.loop-rank.invariant
    ∙ flat_map-range_more parts c.args.events.now.items c.loop-rank.rank
