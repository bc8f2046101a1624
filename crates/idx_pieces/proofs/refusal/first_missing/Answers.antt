use Rattle.std.proofs.Common.{ℕ, Bool, sym, ap, ◌∙◌, arith}
use Rattle.std.specs.Prelude.{find, not}
use Rattle.idx_pieces.specs.Refusals.{has_parcel}
use Rattle.idx_pieces.proofs.RefusalLemmas.{find_here, find_later, find_none}
use Rattle.idx_pieces.proofs.refusal.first_missing.Goals as goal

pub loop-rank-preserved : goal.loop-rank-preserved
loop-rank-preserved c =
    let test : ℕ → Bool = λ (rank : ℕ). not (has_parcel c.args.parcels.now rank) in
    let items = c.as_slice-rank-items.result.now in
    sym (find_later test items c.loop-rank.rank-index (omega arith) (ap not (sym c.has_parcel.ensures ∙ c.if-not-has_parcel.false))) ∙ c.loop-rank.invariant

pub returns : goal.returns
returns c =
    let test : ℕ → Bool = λ (rank : ℕ). not (has_parcel c.args.parcels.now rank) in
    let items = c.as_slice-rank-items.result.now in
    sym (find_none test items c.loop-rank.rank-index (omega arith)) ∙ c.loop-rank.invariant ∙ ap (find test) c.as_slice-rank-items.ensures

pub returns-then-not-has_parcel : goal.returns-then-not-has_parcel
returns-then-not-has_parcel c =
    let test : ℕ → Bool = λ (rank : ℕ). not (has_parcel c.args.parcels.now rank) in
    let items = c.as_slice-rank-items.result.now in
    sym (find_here test items c.loop-rank.rank-index (omega arith) (ap not (sym c.has_parcel.ensures ∙ c.if-not-has_parcel.true)))
    ∙ c.loop-rank.invariant ∙ ap (find test) c.as_slice-rank-items.ensures
