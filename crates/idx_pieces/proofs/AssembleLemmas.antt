-- Parcels that make a piece.
use Rattle.std.proofs.Common.{◌≡◌, ℕ, ◌+◌, Bool, true, false, cond, List, [], ◌∷◌, length, refl, sym, ap, ◌∙◌, arith, subst, Some, None, Option, eqb-true}
use Rattle.std.specs.Prelude.{◌==◌, ◌&&◌, ◌||◌, not, find, All, Contains}
use Rattle.std.specs.List.{flat_map, list_any, position_from, range_with_len}
use Rattle.std.specs.Option.{option_map, option_map_or, option_or}
use Rattle.std.proofs.lemmas.List.Elements.{All-cons, All-contains, All-head}
use Rattle.idx_geom.specs.Region.{IsRegion, points}
use Rattle.idx_header.specs.Header.{HeaderValue, IsHeader, sample_bytes_of}
use Rattle.idx_pieces.specs.Joined.{bytes_before, bytes_of, field_bytes, joined, joined_parcels, place_bytes, place_count, rank_bytes, row_bytes}
use Rattle.idx_pieces.specs.Pieces.{IsPiece, part_of}
use Rattle.idx_pieces.specs.Refusals.{double_at, has_parcel, is_of_piece, missing_rank, same_bounds, stranger_at, why_not}
use Rattle.idx_pieces.specs.Samples.{AreSamples, HoldsSamples, samples_in}
use Rattle.idx_pieces.specs.declared.parcel.Parcel.{Parcel}
use Rattle.idx_pieces.specs.declared.piece.Piece.{Piece}
use Rattle.idx_pieces.specs.declared.why.Why.TheVariants.{Stranger, Double, Missing}
use Rattle.idx_pieces.proofs.JoinLists.{joined_agree, joined_within}
use Rattle.idx_pieces.proofs.JoinSamples.{joined_holds}
use Rattle.idx_pieces.proofs.JoinSteps.{found_has}
use Rattle.idx_pieces.proofs.LawLemmas.{piece_is_region, whole_only}
use Rattle.idx_pieces.proofs.MadeLemmas.{length-piece_region}
use Rattle.idx_pieces.proofs.RefusalLemmas.{bounds_same}

-- the region of a piece is one
pub region_of_piece : (h : HeaderValue) (piece : Piece) → IsHeader h → IsPiece h piece → IsRegion piece.region
region_of_piece h piece valid is =
    subst (λ (r : List (ℕ × ℕ)). IsRegion r) (sym (ap (λ (q : Piece). q.region) is.is)) (piece_is_region h is.e piece.id valid is.within is.some)

pub axes_of_piece : (h : HeaderValue) (piece : Piece) → IsPiece h piece → length piece.region ≡ length h.box
axes_of_piece h piece is = ap (λ (q : Piece). length q.region) is.is ∙ length-piece_region h.mask h.box is.e piece.id

-- ---- what there is where nothing is wrong

first_none : {X : Type 0} → (o p : Option X) → option_or o p ≡ None → o ≡ None
first_none None p e = refl
first_none (Some x) p e = e

second_none : {X : Type 0} → (o p : Option X) → option_or o p ≡ None → p ≡ None
second_none None p e = e
second_none (Some x) p e = cc

unmapped : {X Y : Type 0} → (f : X → Y) (o : Option X) → option_map f o ≡ None → o ≡ None
unmapped f None e = refl
unmapped f (Some x) e = cc

all_pass : {X : Type 0} → (t : X → Bool) (a : ℕ) (xs : List X) → position_from (λ x. not (t x)) a xs ≡ None → All (λ x. t x ≡ true) xs
all_pass t a [] e = λ k d h. absurd (omega arith)
all_pass {X} t a (x ∷ xs) e = by_test (λ rest. all_pass t (a + 1) xs rest) (t x) refl
  where
    by_test : (position_from (λ y. not (t y)) (a + 1) xs ≡ None → All (λ y. t y ≡ true) xs) → (b : Bool) → t x ≡ b → All (λ y. t y ≡ true) (x ∷ xs)
    by_test more true is =
        All-cons (λ (y : X). t y ≡ true) x xs is
        (more (sym (ap (λ (b : Bool). cond (not b) (Some a) (position_from (λ y. not (t y)) (a + 1) xs)) is) ∙ e))
    by_test more false is =
        let wrong : Some a ≡ None = sym (ap (λ (b : Bool). cond (not b) (Some a) (position_from (λ y. not (t y)) (a + 1) xs)) is) ∙ e in
        cc

all_found : (t : ℕ → Bool) (xs : List ℕ) → find (λ x. not (t x)) xs ≡ None → All (λ x. t x ≡ true) xs
all_found t [] e = λ k d h. absurd (omega arith)
all_found t (x ∷ xs) e = by_test (λ rest. all_found t xs rest) (t x) refl
  where
    by_test : (find (λ y. not (t y)) xs ≡ None → All (λ y. t y ≡ true) xs) → (b : Bool) → t x ≡ b → All (λ y. t y ≡ true) (x ∷ xs)
    by_test more true is =
        All-cons (λ (y : ℕ). t y ≡ true) x xs is
        (more (sym (ap (λ (b : Bool). cond (not b) (Some x) (find (λ y. not (t y)) xs)) is) ∙ e))
    by_test more false is =
        let wrong : Some x ≡ None = sym (ap (λ (b : Bool). cond (not b) (Some x) (find (λ y. not (t y)) xs)) is) ∙ e in
        cc

-- one that passes is found
record IsFound {X : Type 0} (t : X → Bool) (xs : List X) : Type 0 where
  it : X
  is : find t xs ≡ Some it
  passes : t it ≡ true

found_one : {X : Type 0} → (t : X → Bool) (xs : List X) → list_any t xs ≡ true → IsFound t xs
found_one t [] e = let wrong : false ≡ true = e in cc
found_one {X} t (x ∷ xs) e = by_test (λ rest. found_one t xs rest) (t x) refl
  where
    by_test : (list_any t xs ≡ true → IsFound t xs) → (b : Bool) → t x ≡ b → IsFound t (x ∷ xs)
    by_test more true is = record { it = x; is = ap (λ (b : Bool). cond b (Some x) (find t xs)) is; passes = is }
    by_test more false is =
        let rest = more (sym (ap (λ (b : Bool). b || list_any t xs) is) ∙ e) in
        record { it = rest.it; is = ap (λ (b : Bool). cond b (Some x) (find t xs)) is ∙ rest.is; passes = rest.passes }

both_true : (a b : Bool) → a && b ≡ true → (a ≡ true) × (b ≡ true)
both_true true b e = (refl, e)
both_true false b e = let wrong : false ≡ true = e in cc

-- what is known of the parcel of a rank
pub record HasParcel (h : HeaderValue) (piece : Piece) (parcels : List Parcel) (rank : ℕ) : Type 0 where
  pub it : Parcel
  pub is : find (λ parcel. parcel.rank == rank) parcels ≡ Some it
  pub region : it.region ≡ part_of h piece rank

own_region : (h : HeaderValue) (piece : Piece) (parcel : Parcel) → is_of_piece h piece parcel ≡ true → parcel.region ≡ part_of h piece parcel.rank
own_region h piece parcel e =
    bounds_same parcel.region (part_of h piece parcel.rank)
    (both_true ((parcel.piece == piece.id) && list_any (λ rank. rank == parcel.rank) piece.ranks) (same_bounds parcel.region (part_of h piece parcel.rank)) e).1

-- where nothing is wrong each parcel is of the piece
all_own : (h : HeaderValue) (piece : Piece) (parcels : List Parcel) → why_not h piece parcels ≡ None → All (λ (parcel : Parcel). is_of_piece h piece parcel ≡ true) parcels
all_own h piece parcels none =
    all_pass (is_of_piece h piece) 0 parcels (unmapped (λ at. Stranger at) (stranger_at h piece parcels)
    (first_none (option_map (λ at. Stranger at) (stranger_at h piece parcels)) (option_or (option_map (λ at. Double at) (double_at parcels)) (option_map (λ r. Missing r) (missing_rank piece parcels))) none))

pub parcel_known : (h : HeaderValue) (piece : Piece) (parcels : List Parcel) (rank : ℕ) → why_not h piece parcels ≡ None → Contains piece.ranks rank →
    HasParcel h piece parcels rank
parcel_known h piece parcels rank none among =
    let rest = second_none (option_map (λ at. Stranger at) (stranger_at h piece parcels)) (option_or (option_map (λ at. Double at) (double_at parcels)) (option_map (λ r. Missing r) (missing_rank piece parcels))) none in
    let missing : missing_rank piece parcels ≡ None = unmapped (λ r. Missing r) (missing_rank piece parcels)
    (second_none (option_map (λ at. Double at) (double_at parcels)) (option_map (λ r. Missing r) (missing_rank piece parcels)) rest) in
    let own = all_own h piece parcels none in
    let has : has_parcel parcels rank ≡ true = All-contains (λ (r : ℕ). has_parcel parcels r ≡ true) piece.ranks rank (all_found (has_parcel parcels) piece.ranks missing) among in
    let found = found_one (λ (parcel : Parcel). parcel.rank == rank) parcels has in
    let same : found.it.rank ≡ rank = eqb-true found.it.rank rank found.passes in
    record {
      it = found.it;
      is = found.is;
      region = own_region h piece found.it (found_has (λ (parcel : Parcel). is_of_piece h piece parcel ≡ true) (λ (parcel : Parcel). parcel.rank == rank) parcels found.it found.is own)
          ∙ ap (part_of h piece) same;
    }

-- ---- the bytes that are joined

rank_is : (h : HeaderValue) (piece : Piece) (parcels : List Parcel) (places before size place rank : ℕ) → HasParcel h piece parcels rank →
    rank_bytes parcels places before size place rank ≡ row_bytes places (length (points (part_of h piece rank))) before size (bytes_of parcels rank) place
rank_is h piece parcels places before size place rank has =
    ap (λ (o : Option Parcel). option_map_or (λ parcel. row_bytes places (length (points parcel.region)) before size parcel.bytes place) o []) has.is
    ∙ ap (λ (r : List (ℕ × ℕ)). row_bytes places (length (points r)) before size has.it.bytes place) has.region
    ∙ ap (λ (bs : List ℕ). row_bytes places (length (points (part_of h piece rank))) before size bs place)
    (sym (ap (λ (o : Option Parcel). option_map_or (λ parcel. parcel.bytes) o []) has.is))

same_joined : (h : HeaderValue) (piece : Piece) (parcels : List Parcel) → why_not h piece parcels ≡ None →
    joined_parcels h piece parcels ≡ joined h piece (bytes_of parcels)
same_joined h piece parcels none =
    joined_agree
    (λ field. field_bytes piece parcels (place_count h piece) (bytes_before h field) (sample_bytes_of h field))
    (λ field. flat_map (λ place. flat_map (λ rank.
    row_bytes (place_count h piece) (length (points (part_of h piece rank))) (bytes_before h field) (sample_bytes_of h field) (bytes_of parcels rank) place)
    piece.ranks) (range_with_len 0 (place_count h piece)))
    (range_with_len 0 (length h.fields))
    (λ field. joined_agree (place_bytes piece parcels (place_count h piece) (bytes_before h field) (sample_bytes_of h field))
    (λ place. flat_map (λ rank.
    row_bytes (place_count h piece) (length (points (part_of h piece rank))) (bytes_before h field) (sample_bytes_of h field) (bytes_of parcels rank) place) piece.ranks)
    (range_with_len 0 (place_count h piece))
    (λ place. joined_within (rank_bytes parcels (place_count h piece) (bytes_before h field) (sample_bytes_of h field) place)
    (λ rank. row_bytes (place_count h piece) (length (points (part_of h piece rank))) (bytes_before h field) (sample_bytes_of h field) (bytes_of parcels rank) place)
    piece.ranks (λ rank among. rank_is h piece parcels (place_count h piece) (bytes_before h field) (sample_bytes_of h field) place rank (parcel_known h piece parcels rank none among))))

-- what is joined holds the piece's samples
pub parcels_hold : (h : HeaderValue) (piece : Piece) (parcels : List Parcel) (sample : ℕ → List ℕ → List ℕ) → IsHeader h → IsPiece h piece → why_not h piece parcels ≡ None →
    AreSamples h sample → All (λ parcel. HoldsSamples h sample parcel.region parcel.bytes) parcels → HoldsSamples h sample piece.region (joined_parcels h piece parcels)
parcels_hold h piece parcels sample valid is none are holds =
    same_joined h piece parcels none
    ∙ joined_holds h piece sample (bytes_of parcels) valid is are
    (λ rank among.
    let has = parcel_known h piece parcels rank none among in
    ap (λ (o : Option Parcel). option_map_or (λ parcel. parcel.bytes) o []) has.is
    ∙ found_has (λ (parcel : Parcel). HoldsSamples h sample parcel.region parcel.bytes) (λ (parcel : Parcel). parcel.rank == rank) parcels has.it has.is holds
    ∙ ap (samples_in (length h.fields) sample) has.region)

-- ---- one parcel alone

one_item : {X : Type 0} → (xs : List X) → length xs ≡ 1 → (x : X) × (xs ≡ x ∷ [])
one_item [] e = absurd (omega arith)
one_item (x ∷ []) e = (x, refl)
one_item (x ∷ y ∷ xs) e = absurd (omega arith)

found_only : (parcel it : Parcel) (rank : ℕ) → find (λ (q : Parcel). q.rank == rank) (parcel ∷ []) ≡ Some it → rank ≡ parcel.rank
found_only parcel it rank found = by_test (parcel.rank == rank) refl found
  where
    by_test : (b : Bool) → (parcel.rank == rank) ≡ b → cond b (Some parcel) None ≡ Some it → rank ≡ parcel.rank
    by_test true is found = sym (eqb-true parcel.rank rank is)
    by_test false is found = let wrong : None ≡ Some it = found in absurd (cc)

-- it has the whole piece
one_region : (h : HeaderValue) (piece : Piece) (parcel : Parcel) → IsHeader h → IsPiece h piece → why_not h piece (parcel ∷ []) ≡ None → parcel.region ≡ piece.region
one_region h piece parcel valid is none =
    own_region h piece parcel (All-head (λ (q : Parcel). is_of_piece h piece q ≡ true) parcel [] (all_own h piece (parcel ∷ []) none))
    ∙ whole_only h piece parcel.rank valid is (λ other among. (let known = parcel_known h piece (parcel ∷ []) other none among in found_only parcel known.it other known.is))

-- so its bytes hold the piece's samples
pub one_holds : (h : HeaderValue) (piece : Piece) (parcels : List Parcel) (bytes : List ℕ) (sample : ℕ → List ℕ → List ℕ) → IsHeader h → IsPiece h piece → why_not h piece parcels ≡ None →
    length parcels ≡ 1 → ((parcel : Parcel) → parcels ≡ parcel ∷ [] → bytes ≡ parcel.bytes) → All (λ parcel. HoldsSamples h sample parcel.region parcel.bytes) parcels →
    HoldsSamples h sample piece.region bytes
one_holds h piece parcels bytes sample valid is none one moved holds =
    let only = one_item parcels one in
    let parcel : Parcel = only.0 in
    let all = subst (λ (xs : List Parcel). All (λ (q : Parcel). HoldsSamples h sample q.region q.bytes) xs) only.1 holds in
    moved parcel only.1 ∙ All-head (λ (q : Parcel). HoldsSamples h sample q.region q.bytes) parcel [] all
    ∙ ap (samples_in (length h.fields) sample) (one_region h piece parcel valid is (subst (λ (xs : List Parcel). why_not h piece xs ≡ None) only.1 none))
