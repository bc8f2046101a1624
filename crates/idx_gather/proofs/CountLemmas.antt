-- The points of a piece are those of its ranks' parts together.
use Rattle.std.proofs.Common.{◌≡◌, ℕ, ◌*◌, ◌<◌, List, [], ◌∷◌, ◌++◌, length, map, get_or, refl, sym, ap, ◌∙◌, arith, subst}
use Rattle.std.specs.Prelude.{Contains, sum}
use Rattle.std.specs.List.{flat_map, sum_by}
use Rattle.std.proofs.lemmas.List.Concat.{length-flat_map}
use Rattle.std.proofs.lemmas.List.Elements.{Contains-get_or}
use Rattle.idx_geom.specs.Region.{LiesIn, points}
use Rattle.idx_fields.specs.Field.{sample_bytes}
use Rattle.idx_header.specs.Header.{HeaderValue, IsHeader}
use Rattle.idx_pieces.specs.Pieces.{IsPiece, part_of, piece_region}
use Rattle.idx_pieces.specs.Ranks.{bounded_on, cut_axis, ranks_in}
use Rattle.idx_pieces.specs.Samples.{region_bytes}
use Rattle.idx_pieces.specs.declared.piece.Piece.{Piece}
use Rattle.idx_pieces.proofs.AssembleLemmas.{axes_of_piece, region_of_piece}
use Rattle.idx_pieces.proofs.JoinLists.{joined_single, length-joined}
use Rattle.idx_pieces.proofs.JoinParts.{IsIn, back_axes, by_rows, by_rows_and_ranks, front_axes, part_bounded, part_bounds, row_at}
use Rattle.idx_pieces.proofs.LawLemmas.{piece_exact, ranks_of_piece}
use Rattle.idx_pieces.proofs.RankLemmas.{cut_is}
use Rattle.idx_gather.proofs.SumLemmas.{sum_same, sum_times}

-- a point alone
abbrev alone : List ℕ → List (List ℕ)
alone q = q ∷ []

-- how many points a region has at each place behind the axis of the cut, with these bounds on it
abbrev width : List (ℕ × ℕ) → List (ℕ × ℕ) → ℕ × ℕ → ℕ
width box region b = length (points (front_axes box region ++ b ∷ []))

row_width : (box region : List (ℕ × ℕ)) (b : ℕ × ℕ) (s : List ℕ) → length (row_at alone box region b s) ≡ width box region b
row_width box region b s = length-joined (λ q. alone (q ++ s)) 1 (points (front_axes box region ++ b ∷ [])) (λ q. refl) ∙ times (width box region b)
  where
    times : (n : ℕ) → n * 1 ≡ n
    times n = omega arith

-- the points of a region with these bounds on the axis of the cut
count_part : (box region : List (ℕ × ℕ)) (b : ℕ × ℕ) → cut_axis box < length region →
    length (points (bounded_on (cut_axis box) b region)) ≡ length (points (back_axes box region)) * width box region b
count_part box region b inside =
    ap length (sym (joined_single (points (bounded_on (cut_axis box) b region))) ∙ by_rows alone box region b inside)
    ∙ length-joined (row_at alone box region b) (width box region b) (points (back_axes box region)) (row_width box region b)

-- the points of a region, by its ranks
count_whole : (box : List (ℕ × ℕ)) (n : ℕ) (region : List (ℕ × ℕ)) → IsIn box n region →
    length (points region)
    ≡ length (points (back_axes box region)) * sum_by (λ rank. width box region (part_bounds box n region rank)) (ranks_in box n region)
count_whole box n region is =
    ap length (sym (joined_single (points region)) ∙ by_rows_and_ranks alone box n region is)
    ∙ length-joined (λ s. flat_map (λ rank. row_at alone box region (part_bounds box n region rank) s) (ranks_in box n region))
    (sum_by (λ rank. width box region (part_bounds box n region rank)) (ranks_in box n region)) (points (back_axes box region))
    (λ s. length-flat_map (λ rank. row_at alone box region (part_bounds box n region rank) s) (ranks_in box n region)
    ∙ sum_same (λ rank. length (row_at alone box region (part_bounds box n region rank) s)) (λ rank. width box region (part_bounds box n region rank)) (ranks_in box n region)
    (λ k d lt. row_width box region (part_bounds box n region (get_or (ranks_in box n region) k d)) s))

piece_in : (h : HeaderValue) (piece : Piece) → IsHeader h → IsPiece h piece → IsIn h.box piece.of_ranks piece.region
piece_in h piece valid is =
    let region : piece.region ≡ piece_region h.mask h.box is.e piece.id = ap (λ (q : Piece). q.region) is.is in
    record {
      valid = valid.region;
      some = is.ranks;
      axes = axes_of_piece h piece is;
      ordered = (region_of_piece h piece valid is).ordered;
      inside = λ p lies. ((piece_exact h is.e piece.id valid is.within is.some p).0 (subst (λ (r : List (ℕ × ℕ)). LiesIn r p) region lies)).0;
    }

-- the points of a piece: those of its ranks' parts together
pub count_piece : (h : HeaderValue) (piece : Piece) → IsHeader h → IsPiece h piece →
    length (points piece.region) ≡ sum_by (λ rank. length (points (part_of h piece rank))) piece.ranks
count_piece h piece valid is =
    let within = piece_in h piece valid is in
    let cut = cut_is h.box (omega (arith, valid.region.axes.0)) valid.region.ordered in
    let inside : cut_axis h.box < length piece.region = omega (arith, cut.within, within.axes) in
    let ranks : piece.ranks ≡ ranks_in h.box piece.of_ranks piece.region =
    ap (λ (q : Piece). q.ranks) is.is ∙ ap (ranks_in h.box piece.of_ranks) (sym (ap (λ (q : Piece). q.region) is.is)) in
    let places : ℕ = length (points (back_axes h.box piece.region)) in
    count_whole h.box piece.of_ranks piece.region within
    ∙ ap (λ (rs : List ℕ). places * sum_by (λ rank. width h.box piece.region (part_bounds h.box piece.of_ranks piece.region rank)) rs) (sym ranks)
    ∙ sym (sum_times places (λ rank. width h.box piece.region (part_bounds h.box piece.of_ranks piece.region rank)) piece.ranks)
    ∙ sym (sum_same (λ rank. length (points (part_of h piece rank))) (λ rank. places * width h.box piece.region (part_bounds h.box piece.of_ranks piece.region rank)) piece.ranks
    (λ k d lt. each (get_or piece.ranks k d) inside within (Contains-get_or piece.ranks k d lt)))
  where
    each : (rank : ℕ) → cut_axis h.box < length piece.region → IsIn h.box piece.of_ranks piece.region → Contains piece.ranks rank →
        length (points (part_of h piece rank))
        ≡ length (points (back_axes h.box piece.region)) * width h.box piece.region (part_bounds h.box piece.of_ranks piece.region rank)
    each rank inside within among =
        let two = (ranks_of_piece h piece rank is).0 among in
        ap (λ (r : List (ℕ × ℕ)). length (points r)) (part_bounded h.box piece.of_ranks piece.region rank within two.0 two.1)
        ∙ count_part h.box piece.region (part_bounds h.box piece.of_ranks piece.region rank) inside

-- and so it is with the bytes of their samples
pub bytes_piece : (h : HeaderValue) (piece : Piece) → IsHeader h → IsPiece h piece →
    sum_by (λ rank. region_bytes h (part_of h piece rank)) piece.ranks ≡ region_bytes h piece.region
bytes_piece h piece valid is =
    let size : ℕ = sum (map sample_bytes h.fields) in
    sum_same (λ rank. region_bytes h (part_of h piece rank)) (λ rank. size * length (points (part_of h piece rank))) piece.ranks
    (λ k d lt. turn (length (points (part_of h piece (get_or piece.ranks k d)))) size)
    ∙ sum_times size (λ rank. length (points (part_of h piece rank))) piece.ranks
    ∙ ap (λ (k : ℕ). size * k) (sym (count_piece h piece valid is))
    ∙ turn size (length (points piece.region))
  where
    turn : (a b : ℕ) → a * b ≡ b * a
    turn a b = omega arith
