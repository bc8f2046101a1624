-- What the parcels of loads take together.
use Rattle.std.proofs.Common.{◌≡◌, ℕ, ◌+◌, ◌<◌, Bool, true, false, cond, inl, inr, List, [], ◌∷◌, ◌++◌, length, map, take, get_or, refl, sym, ap, ◌∙◌, arith, subst, Some, None, Option}
use Rattle.std.specs.Prelude.{◌==◌, ◌&&◌, not, find, All, Contains, slice_index, sum}
use Rattle.std.specs.List.{list_any, position_from, range_with_len, sum_by}
use Rattle.std.specs.Option.{option_map, option_or}
use Rattle.std.proofs.lemmas.List.{get_or-map, length-map}
use Rattle.std.proofs.lemmas.List.Elements.{All-cons, All-contains, All-nil}
use Rattle.std.proofs.lemmas.List.Sums.{sum-map}
use Rattle.idx_header.specs.Header.{HeaderValue, IsHeader}
use Rattle.idx_pieces.specs.Pieces.{IsPiece, part_of}
use Rattle.idx_pieces.specs.Refusals.{double_at, has_parcel, is_of_piece, missing_rank, same_bounds, stranger_at, why_not}
use Rattle.idx_pieces.specs.Samples.{region_bytes}
use Rattle.idx_pieces.specs.declared.parcel.Parcel.{Parcel}
use Rattle.idx_pieces.specs.declared.piece.Piece.{Piece}
use Rattle.idx_pieces.specs.declared.why.Why.TheVariants.{Stranger, Double, Missing}
use Rattle.idx_pieces.proofs.ContainsLemmas.{range_in}
use Rattle.idx_pieces.proofs.RefusalLemmas.{bounds_same, contains_from_test}
use Rattle.idx_ranks.specs.Loads.{IsLoad}
use Rattle.idx_ranks.specs.declared.load.Load.{Load}
use Rattle.idx_ranks.proofs.LegalLemmas.{ranks_rise}
use Rattle.idx_ranks.proofs.ListLemmas.{map-map}
use Rattle.idx_aggregate.specs.Docks.{pieces_in}
use Rattle.idx_gather.specs.States.{AreLoads}
use Rattle.idx_gather.specs.Windows.{FitOrIsOne}
use Rattle.idx_gather.proofs.RunLemmas.{run_fits}
use Rattle.idx_gather.specs.Bytes.{load_bytes}
use Rattle.idx_gather.proofs.CountLemmas.{bytes_piece}
use Rattle.idx_gather.proofs.SumLemmas.{sum_had, sum_same}

-- ---- searches that find nothing

none_found : {X : Type 0} → (t : X → Bool) (xs : List X) → find t xs ≡ None → All (λ x. t x ≡ false) xs
none_found t [] e = All-nil (λ x. t x ≡ false)
none_found {X} t (x ∷ xs) e = by_test (λ rest. none_found t xs rest) (t x) refl
  where
    by_test : (find t xs ≡ None → All (λ y. t y ≡ false) xs) → (b : Bool) → t x ≡ b → All (λ y. t y ≡ false) (x ∷ xs)
    by_test more false is = All-cons (λ (y : X). t y ≡ false) x xs is (more (sym (ap (λ (b : Bool). cond b (Some x) (find t xs)) is) ∙ e))
    by_test more true is = let wrong : Some x ≡ None = sym (ap (λ (b : Bool). cond b (Some x) (find t xs)) is) ∙ e in absurd (cc)

no_position : {X : Type 0} → (t : X → Bool) (a : ℕ) (xs : List X) → position_from t a xs ≡ None → All (λ x. t x ≡ false) xs
no_position t a [] e = All-nil (λ x. t x ≡ false)
no_position {X} t a (x ∷ xs) e = by_test (λ rest. no_position t (a + 1) xs rest) (t x) refl
  where
    by_test : (position_from t (a + 1) xs ≡ None → All (λ y. t y ≡ false) xs) → (b : Bool) → t x ≡ b → All (λ y. t y ≡ false) (x ∷ xs)
    by_test more false is = All-cons (λ (y : X). t y ≡ false) x xs is (more (sym (ap (λ (b : Bool). cond b (Some a) (position_from t (a + 1) xs)) is) ∙ e))
    by_test more true is = let wrong : Some a ≡ None = sym (ap (λ (b : Bool). cond b (Some a) (position_from t (a + 1) xs)) is) ∙ e in absurd (cc)

first_none : {X : Type 0} → (o p : Option X) → option_or o p ≡ None → o ≡ None
first_none None p e = refl
first_none (Some x) p e = e

second_none : {X : Type 0} → (o p : Option X) → option_or o p ≡ None → p ≡ None
second_none None p e = e
second_none (Some x) p e = cc

unmapped : {X Y : Type 0} → (f : X → Y) (o : Option X) → option_map f o ≡ None → o ≡ None
unmapped f None e = refl
unmapped f (Some x) e = cc

not_false : (b : Bool) → not b ≡ false → b ≡ true
not_false true e = refl
not_false false e = let wrong : true ≡ false = e in absurd (cc)

both_true : (a b : Bool) → a && b ≡ true → (a ≡ true) × (b ≡ true)
both_true true b e = (refl, e)
both_true false b e = let wrong : false ≡ true = e in absurd (cc)

-- ---- the parcels of a load

abbrev rank_of : Parcel → ℕ
rank_of parcel = parcel.rank

-- what is known of a parcel that is of a piece
record IsOwn (h : HeaderValue) (piece : Piece) (parcel : Parcel) : Type 0 where
  rank : Contains piece.ranks parcel.rank
  region : parcel.region ≡ part_of h piece parcel.rank

own : (h : HeaderValue) (piece : Piece) (parcel : Parcel) → is_of_piece h piece parcel ≡ true → IsOwn h piece parcel
own h piece parcel e =
    let both = both_true ((parcel.piece == piece.id) && list_any (λ rank. rank == parcel.rank) piece.ranks) (same_bounds parcel.region (part_of h piece parcel.rank)) e in
    record {
      rank = contains_from_test piece.ranks parcel.rank (both_true (parcel.piece == piece.id) (list_any (λ rank. rank == parcel.rank) piece.ranks) both.0).1;
      region = bounds_same parcel.region (part_of h piece parcel.rank) both.1;
    }

module _ (h : HeaderValue) (piece : Piece) (parcels : List Parcel) (none : why_not h piece parcels ≡ None) where
  others_none : option_or (option_map (λ at. Double at) (double_at parcels)) (option_map (λ r. Missing r) (missing_rank piece parcels)) ≡ None
  others_none = second_none (option_map (λ at. Stranger at) (stranger_at h piece parcels))
      (option_or (option_map (λ at. Double at) (double_at parcels)) (option_map (λ r. Missing r) (missing_rank piece parcels))) none

  no_stranger : stranger_at h piece parcels ≡ None
  no_stranger = unmapped (λ at. Stranger at) (stranger_at h piece parcels) (first_none (option_map (λ at. Stranger at) (stranger_at h piece parcels))
      (option_or (option_map (λ at. Double at) (double_at parcels)) (option_map (λ r. Missing r) (missing_rank piece parcels))) none)

  no_double : double_at parcels ≡ None
  no_double = unmapped (λ at. Double at) (double_at parcels)
      (first_none (option_map (λ at. Double at) (double_at parcels)) (option_map (λ r. Missing r) (missing_rank piece parcels)) others_none)

  no_missing : missing_rank piece parcels ≡ None
  no_missing = unmapped (λ r. Missing r) (missing_rank piece parcels)
      (second_none (option_map (λ at. Double at) (double_at parcels)) (option_map (λ r. Missing r) (missing_rank piece parcels)) others_none)

  -- each is of the piece
  all_own : All (IsOwn h piece) parcels
  all_own k d lt = own h piece (get_or parcels k d)
      (not_false (is_of_piece h piece (get_or parcels k d)) (no_position (λ parcel. not (is_of_piece h piece parcel)) 0 parcels no_stranger k d lt))

  -- none is of a rank that came before
  all_new : (d : Parcel) (i : ℕ) → i < length parcels → has_parcel (take i parcels) (get_or parcels i d).rank ≡ false
  all_new d i lt =
      let test : ℕ → Bool = λ at. has_parcel (take at parcels) (slice_index (map rank_of parcels) at) in
      let here : has_parcel (take i parcels) (slice_index (map rank_of parcels) i) ≡ false =
      All-contains (λ at. test at ≡ false) (range_with_len 0 (length parcels)) i (none_found test (range_with_len 0 (length parcels)) no_double) (range_in (length parcels) i lt) in
      ap (has_parcel (take i parcels)) (sym (get_or-map rank_of parcels i d 0 lt)) ∙ here

  -- each rank of the piece has one
  all_had : All (λ rank. has_parcel parcels rank ≡ true) piece.ranks
  all_had k d lt = not_false (has_parcel parcels (get_or piece.ranks k d)) (none_found (λ rank. not (has_parcel parcels rank)) piece.ranks no_missing k d lt)

-- the sum over parcels is that over the ranks
by_ranks : (h : HeaderValue) (piece : Piece) (parcels : List Parcel) → IsPiece h piece → why_not h piece parcels ≡ None →
    sum_by (λ parcel. region_bytes h (part_of h piece parcel.rank)) parcels ≡ sum_by (λ rank. region_bytes h (part_of h piece rank)) piece.ranks
by_ranks h piece parcels is none = by_some parcels refl
  where
    from : Parcel → sum_by (λ parcel. region_bytes h (part_of h piece parcel.rank)) parcels ≡ sum_by (λ rank. region_bytes h (part_of h piece rank)) piece.ranks
    from d = sum_had (λ rank. region_bytes h (part_of h piece rank)) rank_of piece.ranks (ranks_rise h piece is) parcels d
        (λ k e lt. (all_own h piece parcels none k e lt).rank) (all_new h piece parcels none d) (all_had h piece parcels none)

    by_some : (ps : List Parcel) → parcels ≡ ps →
        sum_by (λ parcel. region_bytes h (part_of h piece parcel.rank)) parcels ≡ sum_by (λ rank. region_bytes h (part_of h piece rank)) piece.ranks
    by_some [] e = nothing piece.ranks (subst (λ (ps : List Parcel). All (λ rank. has_parcel ps rank ≡ true) piece.ranks) e (all_had h piece parcels none))
        (ap (sum_by (λ (parcel : Parcel). region_bytes h (part_of h piece parcel.rank))) e)
      where
        nothing : (ranks : List ℕ) → All (λ rank. has_parcel [] rank ≡ true) ranks →
            sum_by (λ (parcel : Parcel). region_bytes h (part_of h piece parcel.rank)) parcels ≡ 0 →
            sum_by (λ (parcel : Parcel). region_bytes h (part_of h piece parcel.rank)) parcels ≡ sum_by (λ rank. region_bytes h (part_of h piece rank)) ranks
        nothing [] all zero = zero
        nothing (r ∷ rs) all zero = let wrong : false ≡ true = all 0 r (omega arith) in absurd (cc)
    by_some (p ∷ ps) e = from p

-- the parcels of a load have as many bytes as its piece
pub load_takes : (h : HeaderValue) (load : Load) → IsHeader h → IsLoad h load → load_bytes load ≡ region_bytes h load.piece.region
load_takes h load valid is =
    sum-map (λ (parcel : Parcel). length parcel.bytes) load.parcels
    ∙ sum_same (λ (parcel : Parcel). length parcel.bytes) (λ (parcel : Parcel). region_bytes h (part_of h load.piece parcel.rank)) load.parcels
    (λ k d lt. is.whole k d lt ∙ ap (region_bytes h) (all_own h load.piece load.parcels is.legal k d lt).region)
    ∙ by_ranks h load.piece load.parcels is.piece is.legal
    ∙ bytes_piece h load.piece valid is.piece

-- ---- the loads of a batch

-- what they take is what their pieces take
loads_take : (h : HeaderValue) (loads : List Load) → IsHeader h → All (IsLoad h) loads →
    sum (map load_bytes loads) ≡ sum (map (λ piece. region_bytes h piece.region) (pieces_in loads))
loads_take h loads valid are =
    sum-map load_bytes loads
    ∙ sum_same load_bytes (λ (load : Load). region_bytes h load.piece.region) loads (λ k d lt. load_takes h (get_or loads k d) valid (are k d lt))
    ∙ sym (sum-map (λ (load : Load). region_bytes h load.piece.region) loads)
    ∙ ap sum (sym (map-map (λ (piece : Piece). region_bytes h piece.region) (λ (load : Load). load.piece) loads))

pub batch_fits : (h : HeaderValue) (room : ℕ) (loads : List Load) (left : List Piece) → IsHeader h → All (λ load. IsPiece h load.piece) loads → AreLoads h room loads left →
    FitOrIsOne load_bytes room loads
batch_fits h room loads left valid pieces are =
    by_fit (subst (FitOrIsOne (λ (piece : Piece). region_bytes h piece.region) room) (sym are.batch) (run_fits (λ (piece : Piece). region_bytes h piece.region) room (pieces_in loads ++ left)))
  where
    each : All (IsLoad h) loads
    each k d lt = let one = are.legal k d lt in record { piece = pieces k d lt; legal = one.legal; whole = one.whole }

    by_fit : FitOrIsOne (λ (piece : Piece). region_bytes h piece.region) room (pieces_in loads) → FitOrIsOne load_bytes room loads
    by_fit (inl fits) = inl (omega (arith, fits, loads_take h loads valid each))
    by_fit (inr one) = inr (sym (length-map loads (λ (load : Load). load.piece)) ∙ one)
