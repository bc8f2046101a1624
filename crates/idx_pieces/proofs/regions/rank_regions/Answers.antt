use Rattle.std.proofs.Common.{◌∷◌, ◌++◌, [], List, ℕ, map, sym, ap, ◌∙◌, arith}
use Rattle.std.specs.List.{range_with_len}
use Rattle.std.proofs.lemmas.List.FromFn.{map-range_with_len_more}
use Rattle.idx_pieces.specs.Ranks.{rank_region}
use Rattle.idx_pieces.proofs.regions.rank_regions.Goals as goal

pub loop-rank-preserved : goal.loop-rank-preserved
loop-rank-preserved c =
    let f : ℕ → List (ℕ × ℕ) = rank_region c.args.region.now c.args.n in
    c.in_ok-push.ensures.items
    ∙ ap (λ (xs : List (List (ℕ × ℕ))). xs ++ c.rank_region.result ∷ []) c.loop-rank.invariant
    ∙ ap (λ (r : List (ℕ × ℕ)). map f (range_with_len 0 c.loop-rank.rank) ++ r ∷ []) c.rank_region.ensures
    ∙ sym (map-range_with_len_more f 0 c.loop-rank.rank c.loop-rank.rank (omega arith))
