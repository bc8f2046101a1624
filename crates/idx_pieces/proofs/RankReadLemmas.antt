-- What a rank's parcels are, when all fields were read, and how many bytes were asked for.
use Rattle.std.proofs.Common.{◌≡◌, ℕ, ◌-◌, ◌*◌, ◌<◌, ◌≤◌, List, length, get_or, map, sum, Option, sym, ap, ◌∙◌, inl, inr, subst, arith, All}
use Rattle.std.proofs.lemmas.Bool.{cases_lt}
use Rattle.std.proofs.lemmas.List.{get_or-map, length-map}
use Rattle.std.proofs.lemmas.List.Elements.{All-map, All-same}
use Rattle.std.proofs.Math.Nat.{mul-le-mul_right}
use Rattle.idx_geom.specs.Region.{lower_ends, place_of, upper_ends}
use Rattle.idx_fields.specs.Field.{sample_bytes}
use Rattle.idx_header.specs.Header.{HeaderValue}
use Rattle.idx_pieces.specs.Parcels.{AreParcelsOf, IsFull, StandBetween, heading_of, meeting, parcel_heading}
use Rattle.idx_pieces.specs.RawReads.{AsksAtMost}
use Rattle.idx_pieces.specs.Reading.{BeginsFrom, EndsBelow, HoldsUpTo, heading}
use Rattle.idx_pieces.specs.declared.filling.Filling.{Filling}
use Rattle.idx_pieces.specs.declared.parcel.Parcel.{Parcel}
use Rattle.idx_pieces.specs.declared.piece.Piece.{Piece}
use Rattle.idx_pieces.proofs.FieldLemmas.{asks-weaker}
use Rattle.idx_pieces.proofs.FieldsLemmas.{parcel_of, headings-of_parcels}
use Rattle.idx_pieces.proofs.WholeLemmas.{IsFull-from}

-- a fact of what two lists have in common
All-through : {X Y Z : Type 0} (P : Z → Type 0) (f : X → Z) (g : Y → Z) (xs : List X) (ys : List Y) → map f xs ≡ map g ys → All (λ y. P (g y)) ys → All (λ x. P (f x)) xs
All-through P f g xs ys same all k d lt =
    let on : All P (map f xs) = All-same P (map f xs) (map g ys) same (All-map P g ys all) in
    subst P (get_or-map f xs k d (f d) lt) (on k (f d) (omega (arith, lt, length-map xs f)))

-- the parcels of a rank, by the headings that they had at first
pub parcels-are : (rank : ℕ) (region : List (ℕ × ℕ)) (pieces : List Piece) (before after : List Filling) (parcels : List Parcel) →
    map heading before ≡ map (heading_of rank region) (meeting region pieces) → map heading after ≡ map heading before → parcels ≡ map parcel_of after →
    AreParcelsOf rank region pieces parcels
parcels-are rank region pieces before after parcels begun kept is =
    ap (map parcel_heading) is ∙ sym (headings-of_parcels after) ∙ kept ∙ begun

pub parcels-full : (h : HeaderValue) (told : Option (List ℕ)) (after : List Filling) (parcels : List Parcel) → All (λ (f : Filling). f.cursor.done ≡ 0) after →
    All (HoldsUpTo h told (length h.fields)) after → parcels ≡ map parcel_of after → All (IsFull h told) parcels
parcels-full h told after parcels first held is =
    All-same (IsFull h told) parcels (map parcel_of after) is
    (All-map (IsFull h told) parcel_of after (λ k d lt. IsFull-from h told (get_or after k d) (first k d lt) (held k d lt)))

-- where the pieces stand between two places, so do their parcels
begins : (h : HeaderValue) (rank : ℕ) (region : List (ℕ × ℕ)) (pieces : List Piece) (parts : List Filling) (first end : ℕ) →
    map heading parts ≡ map (heading_of rank region) (meeting region pieces) → StandBetween h region pieces first end → All (BeginsFrom h.box first) parts
begins h rank region pieces parts first end same between =
    All-through (λ (t : ℕ × (ℕ × List (ℕ × ℕ))). first ≤ place_of h.box (lower_ends t.1.1)) heading (heading_of rank region) parts (meeting region pieces) same
    (λ k d lt. (between k d lt).0)

ends : (h : HeaderValue) (rank : ℕ) (region : List (ℕ × ℕ)) (pieces : List Piece) (parts : List Filling) (first end : ℕ) →
    map heading parts ≡ map (heading_of rank region) (meeting region pieces) → StandBetween h region pieces first end → All (EndsBelow h.box end) parts
ends h rank region pieces parts first end same between =
    All-through (λ (t : ℕ × (ℕ × List (ℕ × ℕ))). place_of h.box (upper_ends t.1.1) < end) heading (heading_of rank region) parts (meeting region pieces) same
    (λ k d lt. (between k d lt).1)

-- no more is asked for than the pieces' places have
pub asks-between : (a b : ℕ) (h : HeaderValue) (rank : ℕ) (region : List (ℕ × ℕ)) (pieces : List Piece) (parts : List Filling) (last first end : ℕ) →
    map heading parts ≡ map (heading_of rank region) (meeting region pieces) → ((e : ℕ) → All (EndsBelow h.box e) parts → last ≤ e) →
    ((low : ℕ) → All (BeginsFrom h.box low) parts → low ≤ last → AsksAtMost a b ((last - low) * sum (map sample_bytes h.fields))) →
    StandBetween h region pieces first end → AsksAtMost a b ((end - first) * sum (map sample_bytes h.fields))
asks-between a b h rank region pieces parts last first end same least asks between =
    let all : ℕ = sum (map sample_bytes h.fields) in
    let low : All (BeginsFrom h.box first) parts = begins h rank region pieces parts first end same between in
    let high : last ≤ end = least end (ends h rank region pieces parts first end same between) in
    elim (cases_lt last first) [
      | inl none ↦
          let fewer : last - last ≤ end - first = omega arith in
          asks-weaker a b ((last - last) * all) ((end - first) * all) (mul-le-mul_right all fewer)
          (asks last (λ k d lt. omega (arith, low k d lt, none)) (omega arith))
      | inr some ↦
          let fewer : last - first ≤ end - first = omega (arith, high) in
          asks-weaker a b ((last - first) * all) ((end - first) * all) (mul-le-mul_right all fewer) (asks first low some)
    ]
