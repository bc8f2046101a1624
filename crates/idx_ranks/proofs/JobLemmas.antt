-- From jobs to ranks: what the jobs may do, and what the ranks read.
use Rattle.std.proofs.Common.{◌≡◌, ℕ, ◌-◌, ◌*◌, ◌<◌, ◌≤◌, Bool, true, false, cond, ltb, List, [], ◌∷◌, length, map, get_or, refl, sym, ap, ◌∙◌, arith, subst, zero-add, Option, Some, None, Result}
use Rattle.std.specs.Prelude.{All, IfNone, IfOk, IfSome, sum}
use Rattle.std.specs.Global.{Vec}
use Rattle.std.specs.List.{range_with_len}
use Rattle.std.specs.Option.{ForSome}
use Rattle.std.proofs.lemmas.List.{get_or-map, length-map}
use Rattle.std.proofs.lemmas.List.Elements.{All-filter, filter_passes}
use Rattle.std.proofs.lemmas.List.FromFn.{get_or-range_with_len}
use Rattle.idx_geom.specs.Region.{HoldsAll, IsRegion, LiesIn, common_bounds, place_of, points, upper_ends}
use Rattle.idx_geom.proofs.LiesInLemmas.{IsOrdered-from_point, LiesIn-common_bounds, LiesIn-upper_ends, both_from_common_bounds}
use Rattle.idx_geom.proofs.PointsLemmas.{length-points, place_of-lt}
use Rattle.idx_fields.specs.Field.{sample_bytes}
use Rattle.idx_header.specs.Header.{HeaderValue, volume_bytes}
use Rattle.idx_pieces.specs.Parcels.{AreParcelsOf, AsksBetween, meeting}
use Rattle.idx_pieces.specs.Pieces.{IsPiece}
use Rattle.idx_pieces.specs.Ranks.{meets, rank_count, rank_region}
use Rattle.idx_pieces.specs.RawReads.{AsksAtMost, HasVolume}
use Rattle.idx_pieces.specs.declared.parcel.Parcel.{Parcel}
use Rattle.idx_pieces.specs.declared.piece.Piece.{Piece}
use Rattle.idx_pieces.specs.declared.raw_refusal.RawRefusal.{RawRefusal}
use Rattle.idx_pieces.proofs.BoundsLemmas.{common_from_meets}
use Rattle.idx_pieces.proofs.LawLemmas.{of_rank}
use Rattle.idx_pieces.proofs.MadeLemmas.{length-piece_region}
use Rattle.idx_pieces.proofs.RankLemmas.{length-rank_region}
use Rattle.idx_ranks.specs.Jobs.{AreReads, IsBegun, IsRead, MayRead, Reads, ranks_of, raws_of, reads_of, region_of}
use Rattle.idx_ranks.specs.declared.job.Job.{Job}
use Rattle.idx_ranks.proofs.ListLemmas.{All-through, map_itself}

-- ---- the region of a rank

pub region_some : (box : List (ℕ × ℕ)) (n rank : ℕ) → rank < rank_count box n → region_of box n rank ≡ Some (rank_region box n rank)
region_some box n rank among =
    let test : ltb rank (rank_count box n) ≡ true = grind arith in
    ap (λ (b : Bool). cond b (Some (rank_region box n rank)) None) test

pub region_none : (box : List (ℕ × ℕ)) (n rank : ℕ) → rank_count box n ≤ rank → region_of box n rank ≡ None
region_none box n rank past =
    let test : ltb rank (rank_count box n) ≡ false = grind arith in
    ap (λ (b : Bool). cond b (Some (rank_region box n rank)) None) test

-- a fact of the region of each rank that has one
for_region : (P : List (ℕ × ℕ) → Type 0) (box : List (ℕ × ℕ)) (n rank : ℕ) → (rank < rank_count box n → P (rank_region box n rank)) → ForSome (region_of box n rank) P
for_region P box n rank fact = by_test (ltb rank (rank_count box n)) refl
  where
    some : P (rank_region box n rank) → ForSome (Some (rank_region box n rank)) P
    some holds r e =
        let same : rank_region box n rank ≡ r = cc in
        subst P same holds

    none : ForSome None P
    none r e = absurd (cc)

    by_test : (b : Bool) → ltb rank (rank_count box n) ≡ b → ForSome (cond (ltb rank (rank_count box n)) (Some (rank_region box n rank)) None) P
    by_test true e =
        let among : rank < rank_count box n = grind arith in
        subst (λ (t : Bool). ForSome (cond t (Some (rank_region box n rank)) None) P) (sym e) (some (fact among))
    by_test false e = subst (λ (t : Bool). ForSome (cond t (Some (rank_region box n rank)) None) P) (sym e) none

piece_axes : (h : HeaderValue) (n rank : ℕ) (piece : Piece) → IsPiece h piece → length piece.region ≡ length (rank_region h.box n rank)
piece_axes h n rank piece is =
    ap length (ap (λ (q : Piece). q.region) is.is) ∙ length-piece_region h.mask h.box is.e piece.id ∙ sym (length-rank_region h.box n rank)

some_of : {X : Type 0} (xs : List X) (i : ℕ) → i < length xs → X
some_of [] i within = absurd (omega arith)
some_of (x ∷ xs) i within = x

-- ---- how much a rank asks for

-- a box holds all that a region in it has in common with pieces
common_within : (h : HeaderValue) (region : List (ℕ × ℕ)) (piece : Piece) → HoldsAll h.box region → length piece.region ≡ length region → meets region piece.region ≡ true →
    place_of h.box (upper_ends (common_bounds region piece.region)) < length (points h.box)
common_within h region piece inside axes met =
    let common = common_from_meets region piece.region (sym axes) met in
    let ordered = IsOrdered-from_point (common_bounds region piece.region) common.0 (LiesIn-common_bounds region piece.region common.0 common.1.0 common.1.1) in
    let last : LiesIn (common_bounds region piece.region) (upper_ends (common_bounds region piece.region)) = LiesIn-upper_ends (common_bounds region piece.region) ordered in
    let in_box : LiesIn h.box (upper_ends (common_bounds region piece.region)) =
    inside (upper_ends (common_bounds region piece.region)) (both_from_common_bounds region piece.region (upper_ends (common_bounds region piece.region)) (sym axes) last).0 in
    omega (arith, place_of-lt h.box (upper_ends (common_bounds region piece.region)) in_box, length-points h.box)

pub asks_whole : (h : HeaderValue) (region : List (ℕ × ℕ)) (pieces : List Piece) (before after : ℕ) → HoldsAll h.box region →
    All (λ (piece : Piece). length piece.region ≡ length region) pieces → AsksBetween h region pieces before after → AsksAtMost before after (volume_bytes h)
asks_whole h region pieces before after inside axes asks =
    subst (λ (n : ℕ). AsksAtMost before after (n * sum (map sample_bytes h.fields))) none
    (asks 0 (length (points h.box)) (omega arith)
    (λ k d lt.
    let met : meets region (get_or (meeting region pieces) k d).region ≡ true = filter_passes (λ (p : Piece). meets region p.region) pieces k d lt in
    let same : length (get_or (meeting region pieces) k d).region ≡ length region =
    All-filter (λ (p : Piece). meets region p.region) (λ (piece : Piece). length piece.region ≡ length region) pieces axes k d lt in
    (omega arith, common_within h region (get_or (meeting region pieces) k d) inside same met)))
  where
    none : length (points h.box) - 0 ≡ length (points h.box)
    none = omega arith

module _ {V : Type 0} (contents : V → Option (List ℕ)) where
  -- all jobs can be run
  pub jobs_may : (h : HeaderValue) (pieces : List Piece) (n : ℕ) (jobs : List (Job V)) (raws : List V) → IsRegion h.box → All (IsPiece h) pieces →
      raws_of jobs ≡ raws → All (λ (raw : V). HasVolume h (contents raw)) raws → All (IsBegun h.box n) jobs → All (MayRead contents h pieces) jobs
  jobs_may h pieces n jobs raws valid are here volume begun k d lt =
      let job : Job V = get_or jobs k d in
      let region : job.region ≡ region_of h.box n job.rank = begun k d lt in
      let volumes : All (λ (j : Job V). HasVolume h (contents j.raw)) jobs =
      All-through (λ (raw : V). HasVolume h (contents raw)) (λ (j : Job V). j.raw) (λ (raw : V). raw) jobs raws (here ∙ sym (map_itself raws)) volume in
      record {
        volume = volumes k d lt;
        inside = subst (λ (o : Option (List (ℕ × ℕ))). ForSome o (λ r. HoldsAll h.box r)) (sym region)
            (for_region (λ r. HoldsAll h.box r) h.box n job.rank (λ among p inside. (of_rank h.box n job.rank p valid among inside).inside));
        axes = subst (λ (o : Option (List (ℕ × ℕ))). ForSome o (λ r. All (λ (piece : Piece). length piece.region ≡ length r) pieces)) (sym region)
            (for_region (λ r. All (λ (piece : Piece). length piece.region ≡ length r) pieces) h.box n job.rank
            (λ among i e inside. piece_axes h n job.rank (get_or pieces i e) (are i e inside)));
      }

  module _ (faults asked : V → ℕ) (h : HeaderValue) (pieces : List Piece) where
    -- what a rank read, of what its job became
    read_of_job : (n rank : ℕ) (old new : Job V) → old.rank ≡ rank → IsBegun h.box n old → Reads contents faults asked h pieces old new →
        IsRead contents faults asked h pieces n rank old.raw new.raw new.read
    read_of_job n rank old new numbered begun made =
        let region : old.region ≡ region_of h.box n rank = begun ∙ ap (region_of h.box n) numbered in
        record {
          raw = made.raw;
          asked = made.asked;
          parcels = λ among.
              let got : IfSome (Some (rank_region h.box n rank)) (λ region. IfOk new.read (λ parcels. AreParcelsOf old.rank region pieces parcels.items)) =
              subst (λ (o : Option (List (ℕ × ℕ))). IfSome o (λ region. IfOk new.read (λ parcels. AreParcelsOf old.rank region pieces parcels.items))) (region ∙ region_some h.box n rank among) made.parcels in
              subst (λ (r : ℕ). IfOk new.read (λ parcels. AreParcelsOf r (rank_region h.box n rank) pieces parcels.items)) numbered got;
          full = made.full;
          idle = λ past. subst (λ (o : Option (List (ℕ × ℕ))). IfNone o (new.raw ≡ old.raw)) (region ∙ region_none h.box n rank past) made.idle;
        }

    pub reads_of_jobs : (n : ℕ) (old new : List (Job V)) → n ≡ length old → length new ≡ length old → ranks_of old ≡ range_with_len 0 n → All (IsBegun h.box n) old →
        ((i : ℕ) (d : Job V) → i < length old → Reads contents faults asked h pieces (get_or old i d) (get_or new i d)) →
        AreReads contents faults asked h pieces (raws_of old) (raws_of new) (reads_of new)
    reads_of_jobs n old new count same ranks begun each =
        let raw_of : Job V → V = λ job. job.raw in
        let rank_of : Job V → ℕ = λ job. job.rank in
        let read_of : Job V → Result (Vec Parcel) RawRefusal = λ job. job.read in
        let many : length (raws_of old) ≡ length old = length-map old raw_of in
        record {
          number = length-map new raw_of ∙ same ∙ sym many;
          reads_number = length-map new read_of ∙ same ∙ sym many;
          each = λ i d r within.
              let in_old : i < length old = subst (λ n. i < n) many within in
              let in_new : i < length new = subst (λ n. i < n) (sym same) in_old in
              let j : Job V = some_of old i in_old in
              let numbered : (get_or old i j).rank ≡ i =
              sym (get_or-map rank_of old i j 0 in_old) ∙ ap (λ (xs : List ℕ). get_or xs i 0) ranks ∙ get_or-range_with_len 0 n i 0 (omega (arith, in_old, count)) ∙ zero-add i in
              let made = read_of_job n i (get_or old i j) (get_or new i j) numbered (begun i j in_old) (each i j in_old) in
              rw (many ∙ sym count, get_or-map raw_of old i j d in_old, get_or-map raw_of new i j d in_new, get_or-map read_of new i j r in_new) made;
        }
