use Rattle.std.proofs.Common.{ℕ, Bool, List, sym, ap, ◌∙◌, eq-eqb}
use Rattle.std.specs.Prelude.{◌&&◌, ◌==◌}
use Rattle.std.specs.List.{list_any}
use Rattle.idx_pieces.specs.Pieces.{part_of}
use Rattle.idx_pieces.specs.Refusals.{same_bounds}
use Rattle.idx_pieces.proofs.RefusalLemmas.{contains_from_test}
use Rattle.idx_pieces.proofs.refusal.is_of_piece.Goals as goal

pub part_of-requires-clause-rank : goal.part_of-requires-clause-rank
part_of-requires-clause-rank c =
    contains_from_test c.args.piece.now.ranks c.args.parcel.now.rank (sym c.has_rank.ensures ∙ c.if-not-has_rank.false)

pub returns : goal.returns
returns c =
    let parcel = c.args.parcel.now in
    let piece = c.args.piece.now in
    let part : List (ℕ × ℕ) = part_of c.args.header.now piece parcel.rank in
    let among : Bool = list_any (λ (rank : ℕ). rank == parcel.rank) piece.ranks in
    c.are_same.ensures
    ∙ ap (same_bounds parcel.region) c.part_of.ensures
    ∙ sym (ap (λ (v : Bool). v && among && same_bounds parcel.region part) (eq-eqb parcel.piece piece.id c.if-parcel-piece.false)
    ∙ ap (λ (v : Bool). v && same_bounds parcel.region part) (sym c.has_rank.ensures ∙ c.if-not-has_rank.false))
