use Rattle.std.proofs.Common.{◌++◌, ℕ, List, ap, ◌∙◌, arith}
use Rattle.std.specs.List.{flat_map}
use Rattle.std.proofs.lemmas.List.{take_all}
use Rattle.idx_pieces.specs.Joined.{rank_bytes}
use Rattle.idx_pieces.proofs.JoinSteps.{list_step}
use Rattle.idx_pieces.proofs.joined.join_place.Goals as goal

pub returns : goal.returns
returns c =
    let row = c.args.row.now in
    let f : ℕ → List ℕ = rank_bytes c.args.parcels.now row.places row.before row.size row.place in
    c.loop-rank.invariant
    ∙ ap (λ (xs : List ℕ). c.args.bytes.now ++ flat_map f xs) (take_all c.loop-rank.rank-index c.as_slice-rank-items.result.now (omega arith) ∙ c.as_slice-rank-items.ensures)

pub loop-rank-preserved : goal.loop-rank-preserved
loop-rank-preserved c =
    let row = c.args.row.now in
    list_step (rank_bytes c.args.parcels.now row.places row.before row.size row.place) c.args.bytes.now c.loop-rank.bytes c.join_row.new.bytes
    c.as_slice-rank-items.result.now c.loop-rank.rank-index (omega arith) c.in_ok-join_row.ensures c.loop-rank.invariant
