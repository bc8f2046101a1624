-- One parcel for each rank of a piece, each with its part, make the piece.
use Rattle.std.proofs.Common.{◌≡◌, ℕ, ◌<◌, Bool, false, List, length, map, take, get_or, refl, sym, ap, ◌∙◌, arith, subst, None, eq-eqb}
use Rattle.std.specs.Prelude.{◌==◌, ◌&&◌, not, All, slice_index}
use Rattle.std.specs.List.{list_any, range_with_len}
use Rattle.std.proofs.lemmas.List.{length-map, take-map}
use Rattle.std.proofs.lemmas.List.Elements.{Contains-get_or}
use Rattle.std.proofs.lemmas.List.FromFn.{get_or-range_with_len, length-range_with_len}
use Rattle.idx_header.specs.Header.{HeaderValue}
use Rattle.idx_pieces.specs.Parcels.{heading_of, parcel_heading}
use Rattle.idx_pieces.specs.Pieces.{IsPiece, part_of, piece_region}
use Rattle.idx_pieces.specs.Ranks.{meets, rank_count, rank_region}
use Rattle.idx_pieces.specs.Refusals.{double_at, has_parcel, is_of_piece, missing_rank, same_bounds, stranger_at, why_not}
use Rattle.idx_pieces.specs.declared.parcel.Parcel.{Parcel}
use Rattle.idx_pieces.specs.declared.piece.Piece.{Piece}
use Rattle.idx_pieces.proofs.RefusalLemmas.{bounds_equal}
use Rattle.idx_ranks.proofs.ListLemmas.{All-through, Rises, any-map, find_nothing, map-map, map_itself, not_before, position_nothing, rises_filtered, test_from_contains}

-- a parcel's heading
abbrev Heading : Type 0
Heading = ℕ × (ℕ × List (ℕ × ℕ))

-- the heading of the parcel that a rank owes for a piece
abbrev pub owed : HeaderValue → Piece → ℕ → Heading
owed h piece rank = heading_of rank (rank_region h.box piece.of_ranks rank) piece

-- the ranks of a piece rise
pub ranks_rise : (h : HeaderValue) (piece : Piece) → IsPiece h piece → Rises piece.ranks
ranks_rise h piece is = subst Rises (sym (ap (λ (q : Piece). q.ranks) is.is)) (rises_filtered (λ (r : ℕ). meets (rank_region h.box piece.of_ranks r) (piece_region h.mask h.box is.e piece.id)) 0 (rank_count h.box piece.of_ranks))

module _ (h : HeaderValue) (piece : Piece) (parcels : List Parcel) (is : IsPiece h piece) (made : map parcel_heading parcels ≡ map (owed h piece) piece.ranks) where
  ranks_made : map (λ (parcel : Parcel). parcel.rank) parcels ≡ piece.ranks
  ranks_made =
      sym (map-map (λ (t : Heading). t.0) parcel_heading parcels)
      ∙ ap (map (λ (t : Heading). t.0)) made
      ∙ map-map (λ (t : Heading). t.0) (owed h piece) piece.ranks
      ∙ map_itself piece.ranks

  -- whether some parcel is of a rank is whether the piece has the rank
  has_is : (rank : ℕ) → has_parcel parcels rank ≡ list_any (λ r. r == rank) piece.ranks
  has_is rank = any-map (λ (parcel : Parcel). parcel.rank) rank parcels ∙ ap (list_any (λ r. r == rank)) ranks_made

  -- whether a parcel with this heading is of the piece
  abbrev is_of : Heading → Bool
  is_of t = (t.1.0 == piece.id) && list_any (λ rank. rank == t.0) piece.ranks && same_bounds t.1.1 (part_of h piece t.0)

  abbrev IsOf : Heading → Type 0
  IsOf t = not (is_of t) ≡ false

  no_stranger : stranger_at h piece parcels ≡ None
  no_stranger = position_nothing (λ (parcel : Parcel). not (is_of_piece h piece parcel)) 0 parcels
      (All-through IsOf parcel_heading (owed h piece) parcels piece.ranks made each)
    where
      each : All (λ rank. IsOf (owed h piece rank)) piece.ranks
      each k d lt =
          let rank : ℕ = get_or piece.ranks k d in
          ap not
          (ap (λ (b : Bool). b && list_any (λ r. r == rank) piece.ranks && same_bounds (part_of h piece rank) (part_of h piece rank)) (eq-eqb piece.id piece.id refl)
          ∙ ap (λ (b : Bool). b && same_bounds (part_of h piece rank) (part_of h piece rank)) (test_from_contains piece.ranks rank (Contains-get_or piece.ranks k d lt))
          ∙ bounds_equal (part_of h piece rank))

  no_missing : missing_rank piece parcels ≡ None
  no_missing = find_nothing (λ rank. not (has_parcel parcels rank)) piece.ranks
      (λ k d lt. ap not (has_is (get_or piece.ranks k d) ∙ test_from_contains piece.ranks (get_or piece.ranks k d) (Contains-get_or piece.ranks k d lt)))

  no_double : double_at parcels ≡ None
  no_double = find_nothing (λ at. has_parcel (take at parcels) (slice_index (map (λ (parcel : Parcel). parcel.rank) parcels) at)) (range_with_len 0 (length parcels)) each
    where
      ranks : List ℕ
      ranks = map (λ (parcel : Parcel). parcel.rank) parcels

      at_place : (at : ℕ) → at < length parcels → has_parcel (take at parcels) (get_or ranks at 0) ≡ false
      at_place at lt =
          any-map (λ (parcel : Parcel). parcel.rank) (get_or ranks at 0) (take at parcels)
          ∙ ap (list_any (λ r. r == get_or ranks at 0)) (sym (take-map (λ (parcel : Parcel). parcel.rank) at parcels))
          ∙ not_before ranks at (subst Rises (sym ranks_made) (ranks_rise h piece is)) (omega (arith, lt, length-map parcels (λ (parcel : Parcel). parcel.rank)))

      each : All (λ at. has_parcel (take at parcels) (slice_index ranks at) ≡ false) (range_with_len 0 (length parcels))
      each k d lt =
          let inside : k < length parcels = omega (arith, lt, length-range_with_len 0 (length parcels)) in
          let is_k : get_or (range_with_len 0 (length parcels)) k d ≡ k = get_or-range_with_len 0 (length parcels) k d inside ∙ omega arith in
          subst (λ (at : ℕ). has_parcel (take at parcels) (get_or ranks at 0) ≡ false) (sym is_k) (at_place k inside)

  pub why_none : why_not h piece parcels ≡ None
  why_none =
      rw (no_stranger, no_double, no_missing) refl
