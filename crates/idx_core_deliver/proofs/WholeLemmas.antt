-- What the whole box has of a piece is the piece.
use Rattle.std.proofs.Common.{◌≡◌, ℕ, ◌≤◌, true, cond, List, [], ◌∷◌, length, map, get_or, refl, sym, ap, ◌∙◌, subst, arith, Some}
use Rattle.std.specs.Prelude.{All}
use Rattle.std.proofs.lemmas.List.Elements.{All-cons, All-head, All-nil}
use Rattle.idx_geom.specs.Region.{HaveCommonPoint, HoldsAll, LiesIn, common_bounds}
use Rattle.idx_geom.proofs.LiesInLemmas.{LiesIn-common_bounds, both_from_common_bounds}
use Rattle.idx_header.specs.Header.{HeaderValue, IsHeader}
use Rattle.idx_pieces.specs.Parcels.{AreParcelsOf, IsFull, heading_of, meeting, parcel_heading}
use Rattle.idx_pieces.specs.Pieces.{IsPiece, piece_region}
use Rattle.idx_pieces.specs.Ranks.{meets}
use Rattle.idx_pieces.specs.Samples.{HoldsSamples, raw_sample, region_bytes}
use Rattle.idx_pieces.specs.declared.parcel.Parcel.{Parcel}
use Rattle.idx_pieces.specs.declared.piece.Piece.{Piece}
use Rattle.idx_pieces.proofs.BoundsLemmas.{same_from_points}
use Rattle.idx_pieces.proofs.LawLemmas.{piece_exact, piece_is_region}
use Rattle.idx_pieces.proofs.MadeLemmas.{length-piece_region}
use Rattle.idx_pieces.proofs.MeetLemmas.{meets-from_point}
use Rattle.idx_pieces.proofs.PieceLemmas.{point_of_piece}

module _ (h : HeaderValue) (piece : Piece) (valid : IsHeader h) (is : IsPiece h piece) where
  region_is : piece.region ≡ piece_region h.mask h.box is.e piece.id
  region_is = ap (λ (piece : Piece). piece.region) is.is

  -- a piece has as many axes as the box
  pub same_axes : length piece.region ≡ length h.box
  same_axes = ap length region_is ∙ length-piece_region h.mask h.box is.e piece.id

  -- it lies in the box
  pub in_box : HoldsAll h.box piece.region
  in_box p inside = ((piece_exact h is.e piece.id valid is.within is.some p).0 (subst (λ r. LiesIn r p) region_is inside)).0

  -- it has a point
  some_point : HaveCommonPoint h.box piece.region
  some_point =
      let at = point_of_piece h.mask h.box is.e piece.id is.some in
      (at.0, (at.1.0, subst (λ r. LiesIn r at.0) (sym region_is) ((piece_exact h is.e piece.id valid is.within is.some at.0).1 (at.1.0, at.1.1))))

  met : meets h.box piece.region ≡ true
  met = meets-from_point h.box piece.region some_point

  -- the box has all of it
  whole_in_box : common_bounds h.box piece.region ≡ piece.region
  whole_in_box =
      same_from_points (common_bounds h.box piece.region) piece.region
      (subst (λ r. All (λ (b : ℕ × ℕ). b.0 ≤ b.1) r) (sym region_is) (piece_is_region h is.e piece.id valid is.within is.some).ordered)
      (λ p. (
        (λ inside. (both_from_common_bounds h.box piece.region p (sym same_axes) inside).1),
        (λ inside. LiesIn-common_bounds h.box piece.region p (in_box p inside) inside),
      ))

  abbrev heading : ℕ × (ℕ × List (ℕ × ℕ))
  heading = heading_of 0 h.box piece

  headings : map (heading_of 0 h.box) (meeting h.box (piece ∷ [])) ≡ heading ∷ []
  headings = ap (λ t. map (heading_of 0 h.box) (cond t (piece ∷ []) [])) met

  -- the parcels of the piece alone are one, which has its region
  pub record IsOnly (parcels : List Parcel) : Type 0 where
    pub parcel : Parcel
    pub alone : parcels ≡ parcel ∷ []
    pub region : parcel.region ≡ piece.region

  only_of : (parcels : List Parcel) → map parcel_heading parcels ≡ heading ∷ [] → IsOnly parcels
  only_of [] are = absurd (omega (arith, ap length are))
  only_of (parcel ∷ []) are = record {
    parcel = parcel;
    alone = refl;
    region = ap (λ xs. (get_or xs 0 heading).1.1) are ∙ whole_in_box;
  }
  only_of (parcel ∷ other ∷ parcels) are = absurd (omega (arith, ap length are))

  pub only_parcel : (parcels : List Parcel) → AreParcelsOf 0 h.box (piece ∷ []) parcels → IsOnly parcels
  only_parcel parcels are = only_of parcels (are ∙ headings)

  -- all pieces of which this is the only one have as many axes as the box
  pub alone_axes : (pieces : List Piece) → pieces ≡ piece ∷ [] → All (λ p. length p.region ≡ length h.box) pieces
  alone_axes pieces alone =
      subst (All (λ p. length p.region ≡ length h.box)) (sym alone)
      (All-cons (λ p. length p.region ≡ length h.box) piece [] same_axes (All-nil (λ p. length p.region ≡ length h.box)))

  -- the bytes of the only parcel are those of the piece
  module _ (parcels : List Parcel) (are : AreParcelsOf 0 h.box (piece ∷ []) parcels) where
    pub is_one : length parcels ≡ 1
    is_one = ap length (only_parcel parcels are).alone

    module _ (raw bytes : List ℕ) (named : (parcel : Parcel) → parcels ≡ parcel ∷ [] → bytes ≡ parcel.bytes) (full : All (IsFull h (Some raw)) parcels) where
      full_one : IsFull h (Some raw) (only_parcel parcels are).parcel
      full_one =
          let only = only_parcel parcels are in
          All-head (IsFull h (Some raw)) only.parcel [] (subst (All (IsFull h (Some raw))) only.alone full)

      pub are_many : length bytes ≡ region_bytes h piece.region
      are_many =
          let only = only_parcel parcels are in
          ap length (named only.parcel only.alone) ∙ full_one.many ∙ ap (region_bytes h) only.region

      pub are_samples : HoldsSamples h (raw_sample h raw) piece.region bytes
      are_samples =
          let only = only_parcel parcels are in
          named only.parcel only.alone ∙ subst (λ r. HoldsSamples h (raw_sample h raw) r only.parcel.bytes) only.region full_one.samples
