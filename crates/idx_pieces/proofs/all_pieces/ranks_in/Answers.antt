use Rattle.std.proofs.Common.{◌≡◌, ℕ, Bool, List, length, sym, ap, ◌∙◌}
use Rattle.idx_pieces.specs.Ranks.{meets, rank_region}
use Rattle.idx_pieces.proofs.IdLemmas.{range_kept, range_skipped}
use Rattle.idx_pieces.proofs.RankLemmas.{length-rank_region}
use Rattle.idx_pieces.proofs.all_pieces.ranks_in.Goals as goal
use Rattle.idx_pieces.proofs.all_pieces.ranks_in.Goals.{then-meets+in_ok-push, else-meets}

pub meets-requires : goal.meets-requires
meets-requires c = ap length c.rank_region.ensures ∙ length-rank_region c.args.whole.now c.args.n c.loop-rank.rank ∙ sym c.requires

pub loop-rank-preserved : goal.loop-rank-preserved
loop-rank-preserved c =
    let test : ℕ → Bool = λ (rank : ℕ). meets (rank_region c.args.whole.now c.args.n rank) c.args.region.now in
    let known : test c.loop-rank.rank ≡ c.meets.result = ap (λ (r : List (ℕ × ℕ)). meets r c.args.region.now) (sym c.rank_region.ensures) ∙ sym c.meets.ensures in
    elim c.if-meets.branch [
      | then-meets+in_ok-push w ↦ range_kept test c.loop-rank.rank c.loop-rank.ranks.items c.if-meets.ranks.items c.loop-rank.invariant (known ∙ w.if-meets.true)
          (ap (λ v. v.items) w.ranks-is ∙ w.in_ok-push.ensures.items)
      | else-meets w ↦ ap (λ v. v.items) w.ranks-is ∙ range_skipped test c.loop-rank.rank c.loop-rank.ranks.items c.loop-rank.invariant (known ∙ w.if-meets.false)
    ]
