use Rattle.std.proofs.Common.{◌≡◌, ℕ, Bool, length, map, take, get_or, sym, ap, ◌∙◌, arith}
use Rattle.std.proofs.lemmas.List.{get_or-map}
use Rattle.idx_pieces.specs.Refusals.{has_parcel}
use Rattle.idx_pieces.specs.declared.parcel.Parcel.{Parcel}
use Rattle.idx_pieces.proofs.RefusalLemmas.{range_here, range_later, range_none}
use Rattle.idx_pieces.proofs.refusal.first_double.Goals as goal

pub loop-at-preserved : goal.loop-at-preserved
loop-at-preserved c =
    let parcels = c.args.parcels.now in
    let rank_of : Parcel → ℕ = λ (parcel : Parcel). parcel.rank in
    let test : ℕ → Bool = λ (at : ℕ). has_parcel (take at parcels) (get_or (map rank_of parcels) at 0) in
    let rank : get_or (map rank_of parcels) c.loop-at.at 0 ≡ c.index-parcels-at.result.rank =
    get_or-map rank_of parcels c.loop-at.at c.index-parcels-at.result 0 (omega arith) ∙ ap rank_of (sym c.index-parcels-at.is) in
    let known : test c.loop-at.at ≡ c.has_parcel.result = ap (has_parcel (take c.loop-at.at parcels)) rank ∙ sym c.has_parcel.ensures in
    sym (range_later test c.loop-at.at (length parcels) (omega arith) (known ∙ c.if-has_parcel.false)) ∙ c.loop-at.invariant

pub returns : goal.returns
returns c =
    let parcels = c.args.parcels.now in
    let test : ℕ → Bool = λ (at : ℕ). has_parcel (take at parcels) (get_or (map (λ (parcel : Parcel). parcel.rank) parcels) at 0) in
    sym (range_none test c.loop-at.at (length parcels) (omega arith)) ∙ c.loop-at.invariant

pub returns-then-has_parcel : goal.returns-then-has_parcel
returns-then-has_parcel c =
    let parcels = c.args.parcels.now in
    let rank_of : Parcel → ℕ = λ (parcel : Parcel). parcel.rank in
    let test : ℕ → Bool = λ (at : ℕ). has_parcel (take at parcels) (get_or (map rank_of parcels) at 0) in
    let rank : get_or (map rank_of parcels) c.loop-at.at 0 ≡ c.index-parcels-at.result.rank =
    get_or-map rank_of parcels c.loop-at.at c.index-parcels-at.result 0 (omega arith) ∙ ap rank_of (sym c.index-parcels-at.is) in
    let known : test c.loop-at.at ≡ c.has_parcel.result = ap (has_parcel (take c.loop-at.at parcels)) rank ∙ sym c.has_parcel.ensures in
    sym (range_here test c.loop-at.at (length parcels) (omega arith) (known ∙ c.if-has_parcel.true)) ∙ c.loop-at.invariant
