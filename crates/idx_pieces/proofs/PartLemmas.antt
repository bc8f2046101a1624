-- The part of a piece that a rank has.
use Rattle.std.proofs.Common.{◌≡◌, ℕ, ◌<◌, List, length, sym, ap, ◌∙◌, subst}
use Rattle.std.specs.Prelude.{Contains}
use Rattle.idx_geom.specs.Region.{HaveCommonPoint, common_bounds}
use Rattle.idx_header.specs.Header.{HeaderValue}
use Rattle.idx_pieces.specs.Pieces.{IsPiece, part_of}
use Rattle.idx_pieces.specs.Ranks.{rank_count, rank_region}
use Rattle.idx_pieces.specs.declared.piece.Piece.{Piece}
use Rattle.idx_pieces.proofs.LawLemmas.{ranks_of_piece}
use Rattle.idx_pieces.proofs.MadeLemmas.{length-piece_region}
use Rattle.idx_pieces.proofs.RankLemmas.{length-rank_region}

pub rank_counts : (h : HeaderValue) (piece : Piece) (rank : ℕ) (box : List (ℕ × ℕ)) → IsPiece h piece → Contains piece.ranks rank → box ≡ h.box →
    rank < rank_count box piece.of_ranks
rank_counts h piece rank box is among same =
    subst (λ (b : List (ℕ × ℕ)). rank < rank_count b piece.of_ranks) (sym same) ((ranks_of_piece h piece rank is).0 among).0

-- what is known of a rank's region
pub record IsPartOf (h : HeaderValue) (piece : Piece) (rank : ℕ) (region : List (ℕ × ℕ)) : Type 0 where
  pub axes : length region ≡ length piece.region
  pub common : HaveCommonPoint region piece.region
  pub is : common_bounds region piece.region ≡ part_of h piece rank

pub part_known : (h : HeaderValue) (piece : Piece) (rank : ℕ) (box region : List (ℕ × ℕ)) → IsPiece h piece → Contains piece.ranks rank →
    box ≡ h.box → region ≡ rank_region box piece.of_ranks rank → IsPartOf h piece rank region
part_known h piece rank box region is among same here =
    let there : region ≡ rank_region h.box piece.of_ranks rank = here ∙ ap (λ (b : List (ℕ × ℕ)). rank_region b piece.of_ranks rank) same in
    record {
      axes = ap length there ∙ length-rank_region h.box piece.of_ranks rank
          ∙ sym (ap (λ (q : Piece). length q.region) is.is ∙ length-piece_region h.mask h.box is.e piece.id);
      common = subst (λ (r : List (ℕ × ℕ)). HaveCommonPoint r piece.region) (sym there) ((ranks_of_piece h piece rank is).0 among).1;
      is = ap (λ (r : List (ℕ × ℕ)). common_bounds r piece.region) there;
    }
