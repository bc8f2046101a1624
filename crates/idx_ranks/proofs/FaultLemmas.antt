-- From what the ranks read to what the phase answers.
use Rattle.std.proofs.Common.{◌≡◌, ℕ, zero, suc, ◌<◌, ◌≤◌, ⊎_elim, List, [], ◌∷◌, length, map, drop, get_or, refl, sym, ap, ◌∙◌, arith, subst, Option, Some, None, Result, Ok, Err}
use Rattle.std.specs.Prelude.{All, IfOk, slice_index}
use Rattle.std.specs.Global.{Vec}
use Rattle.std.proofs.lemmas.Bool.{cases_lt}
use Rattle.std.proofs.lemmas.List.{ext_get_or, get_or-map, get_or_past, length-map}
use Rattle.idx_header.specs.Header.{HeaderValue, volume_bytes}
use Rattle.idx_outside.specs.Cause.{MeetsOnce, NeverFalls, Rose}
use Rattle.idx_outside.specs.Counts.{EachMeetsOnce, NoneFell}
use Rattle.idx_outside.specs.Objects.{SameContents}
use Rattle.idx_pieces.specs.Parcels.{AreParcelsOf, IsFull}
use Rattle.idx_pieces.specs.Ranks.{rank_count, rank_region}
use Rattle.idx_pieces.specs.RawReads.{KeepsRaw}
use Rattle.idx_pieces.specs.declared.parcel.Parcel.{Parcel}
use Rattle.idx_pieces.specs.declared.piece.Piece.{Piece}
use Rattle.idx_pieces.specs.declared.raw_refusal.RawRefusal.{RawRefusal}
use Rattle.idx_pieces.specs.declared.raw_refusal.RawRefusal.TheVariants.{RawFault as CallFailed, NoMemory as NoRoom}
use Rattle.idx_ranks.specs.Faults.{EachAsksAtMost, IsRefusedBy}
use Rattle.idx_ranks.specs.Jobs.{AreReads, IsRead}
use Rattle.idx_ranks.specs.Queues.{AllFull, AreQueuesOf}
use Rattle.idx_ranks.specs.Settled.{IsWhy, NoneFailed, failed_with}
use Rattle.idx_ranks.specs.declared.ranks_fault.RanksFault.{RanksFault}
use Rattle.idx_ranks.specs.declared.ranks_fault.RanksFault.TheVariants.{RawFault, NoMemory}

abbrev Read : Type 0
Read = Result (Vec Parcel) RawRefusal

some_of : {X : Type 0} (xs : List X) (i : ℕ) → i < length xs → X
some_of [] i within = absurd (omega arith)
some_of (x ∷ xs) i within = x

-- lists that agree from a place on
drop_same : {X : Type 0} (n : ℕ) (xs ys : List X) → length xs ≡ length ys → ((i : ℕ) (d : X) → n ≤ i → i < length xs → get_or xs i d ≡ get_or ys i d) → drop n xs ≡ drop n ys
drop_same n [] [] same agree = refl
drop_same n [] (y ∷ ys) same agree = absurd (omega arith)
drop_same n (x ∷ xs) [] same agree = absurd (omega arith)
drop_same {X} zero (x ∷ xs) (y ∷ ys) same agree =
    let first : x ≡ y = agree 0 x (omega arith) (omega arith) in
    let rest : drop 0 xs ≡ drop 0 ys = drop_same 0 xs ys (omega arith) (λ i d from lt. agree (suc i) d (omega arith) (omega arith)) in
    ap (λ (z : X). z ∷ xs) first ∙ ap (λ (zs : List X). y ∷ zs) rest
drop_same (suc n) (x ∷ xs) (y ∷ ys) same agree = drop_same n xs ys (omega arith) (λ i d from lt. agree (suc i) d (omega arith) (omega arith))

-- a reading that gave up with no count left the count as it was
kept : {told_before told_after : Option (List ℕ)} (before after : ℕ) (read : Read) → KeepsRaw told_before told_after before after read → failed_with read ≡ None → after ≡ before
kept before after (Ok parcels) keeps none = keeps.quiet
kept before after (Err (CallFailed faults)) keeps none = absurd (cc)
kept before after (Err NoRoom) keeps none = keeps.refused

-- a failed call's count is that of the volume, and rose
gave_up : {told_before told_after : Option (List ℕ)} (before after faults : ℕ) (read : Read) → KeepsRaw told_before told_after before after read → failed_with read ≡ Some faults →
    (faults ≡ after) × Rose before after
gave_up before after faults (Ok parcels) keeps some = absurd (cc)
gave_up before after faults (Err (CallFailed count)) keeps some =
    let same : faults ≡ count = cc in
    (same ∙ keeps.refused.0, keeps.refused.1)
gave_up before after faults (Err NoRoom) keeps some = absurd (cc)

-- a reading that was made
full_made : (h : HeaderValue) (told : Option (List ℕ)) (read : Read) (queue : Vec Parcel) → read ≡ Ok queue → IfOk read (λ parcels. All (IsFull h told) parcels.items) → All (IsFull h told) queue.items
full_made h told read queue is full = subst (λ (r : Read). IfOk r (λ parcels. All (IsFull h told) parcels.items)) is full

parcels_made : (rank : ℕ) (region : List (ℕ × ℕ)) (pieces : List Piece) (read : Read) (queue : Vec Parcel) → read ≡ Ok queue →
    IfOk read (λ parcels. AreParcelsOf rank region pieces parcels.items) → AreParcelsOf rank region pieces queue.items
parcels_made rank region pieces read queue is parcels = subst (λ (r : Read). IfOk r (λ ps. AreParcelsOf rank region pieces ps.items)) is parcels

-- what is full of a volume whose bytes are known is full of one whose bytes are not
full_untold : (h : HeaderValue) (told : Option (List ℕ)) (parcel : Parcel) → IsFull h told parcel → IsFull h None parcel
full_untold h told parcel full = record { many = full.many; samples = tt }

module _ {V : Type 0} (contents : V → Option (List ℕ)) (faults asked : V → ℕ) (h : HeaderValue) (pieces : List Piece) (old new : List V) (reads : List Read)
    (are : AreReads contents faults asked h pieces old new reads) where
  in_new : (i : ℕ) → i < length old → i < length new
  in_new i lt = subst (λ n. i < n) (sym are.number) lt

  in_reads : (i : ℕ) → i < length old → i < length reads
  in_reads i lt = subst (λ n. i < n) (sym are.reads_number) lt

  count_at : (raws : List V) (i : ℕ) (d : V) → i < length raws → slice_index (map faults raws) i ≡ faults (get_or raws i d)
  count_at raws i d lt = get_or-map faults raws i d 0 lt

  -- of one rank
  one_read : (i : ℕ) (lt : i < length old) (r : Read) → IsRead contents faults asked h pieces (length old) i (get_or old i (some_of old i lt)) (get_or new i (some_of old i lt)) (get_or reads i r)
  one_read i lt r = are.each i (some_of old i lt) r lt

  pub same_contents : SameContents contents old new
  same_contents =
      ext_get_or None (map contents new) (map contents old) (length-map new contents ∙ are.number ∙ sym (length-map old contents)) (λ i within.
      let here : i < length new = subst (λ n. i < n) (length-map new contents) within in
      let lt : i < length old = subst (λ n. i < n) are.number here in
      let d : V = some_of old i lt in
      get_or-map contents new i d None here ∙ (are.each i d (some_of reads i (in_reads i lt)) lt).raw.contents ∙ sym (get_or-map contents old i d None lt))

  pub none_fell : NoneFell (map faults old) (map faults new)
  none_fell = record {
    same_number = length-map new faults ∙ are.number ∙ sym (length-map old faults);
    each = λ i. ⊎_elim (inside i) (outside i) (cases_lt i (length old));
  }
    where
      inside : (i : ℕ) → i < length old → NeverFalls (slice_index (map faults old) i) (slice_index (map faults new) i)
      inside i lt =
          let d : V = some_of old i lt in
          rw (count_at old i d lt, count_at new i d (in_new i lt)) ((are.each i d (some_of reads i (in_reads i lt)) lt).raw.count)

      outside : (i : ℕ) → length old ≤ i → NeverFalls (slice_index (map faults old) i) (slice_index (map faults new) i)
      outside i past =
          let none : slice_index (map faults old) i ≡ 0 = get_or_past (map faults old) i 0 (omega (arith, past, length-map old faults)) in
          omega (arith, none)

  pub each_once : EachMeetsOnce (map faults old) (map faults new)
  each_once i = ⊎_elim inside outside (cases_lt i (length old))
    where
      inside : i < length old → MeetsOnce (slice_index (map faults old) i) (slice_index (map faults new) i)
      inside lt =
          let d : V = some_of old i lt in
          rw (count_at old i d lt, count_at new i d (in_new i lt)) ((are.each i d (some_of reads i (in_reads i lt)) lt).raw.once)

      outside : length old ≤ i → MeetsOnce (slice_index (map faults old) i) (slice_index (map faults new) i)
      outside past =
          let none : slice_index (map faults new) i ≡ 0 = get_or_past (map faults new) i 0 (omega (arith, past, length-map new faults, are.number)) in
          omega (arith, none)

  pub asks : EachAsksAtMost (map asked old) (map asked new) (volume_bytes h)
  asks = record {
    same_number = length-map new asked ∙ are.number ∙ sym (length-map old asked);
    each = λ i within.
        let lt : i < length old = subst (λ n. i < n) (length-map old asked) within in
        let d : V = some_of old i lt in
        rw (get_or-map asked old i d 0 lt, get_or-map asked new i d 0 (in_new i lt)) ((are.each i d (some_of reads i (in_reads i lt)) lt).asked);
  }

  pub idle : drop (rank_count h.box (length old)) new ≡ drop (rank_count h.box (length old)) old
  idle = drop_same (rank_count h.box (length old)) new old are.number (λ i d from within.
      let lt : i < length old = subst (λ n. i < n) are.number within in
      (are.each i d (some_of reads i (in_reads i lt)) lt).idle from)

  -- where no reading failed
  count_kept : (i : ℕ) → i < length old → ((r : Read) → failed_with (get_or reads i r) ≡ None) → slice_index (map faults new) i ≡ slice_index (map faults old) i
  count_kept i lt none =
      let d : V = some_of old i lt in
      let r : Read = some_of reads i (in_reads i lt) in
      count_at new i d (in_new i lt) ∙ kept _ _ (get_or reads i r) (are.each i d r lt).raw (none r) ∙ sym (count_at old i d lt)

  pub quiet : NoneFailed reads (length reads) → map faults new ≡ map faults old
  quiet none =
      ext_get_or 0 (map faults new) (map faults old) (length-map new faults ∙ are.number ∙ sym (length-map old faults)) (λ i within.
      let lt : i < length old = omega (arith, within, length-map new faults, are.number) in
      count_kept i lt (λ r. none i r (in_reads i lt)))

  pub refused : (fault : RanksFault) → IsWhy reads fault → IsRefusedBy (map faults old) (map faults new) fault
  refused NoMemory none = quiet none
  refused (RawFault rank count) least =
      let lt : rank < length old = subst (λ n. rank < n) are.reads_number least.within in
      let d : V = some_of old rank lt in
      let r : Read = some_of reads rank least.within in
      let was = gave_up _ _ count (get_or reads rank r) (are.each rank d r lt).raw (least.failed r) in
      record {
        within = subst (λ n. rank < n) (sym (length-map old faults)) lt;
        is = was.0 ∙ sym (count_at new rank d (in_new rank lt));
        rose = rw (count_at old rank d lt, count_at new rank d (in_new rank lt)) (was.1);
        least = λ i below. count_kept i (omega (arith, lt, below)) (λ s. least.least i s below);
      }

  module _ (queues : List (Vec Parcel)) (made : reads ≡ map Ok queues) where
    queues_number : length queues ≡ length old
    queues_number = sym (length-map queues Ok) ∙ sym (ap length made) ∙ are.reads_number

    read_is : (i : ℕ) (q : Vec Parcel) → i < length queues → get_or reads i (Ok q) ≡ Ok (get_or queues i q)
    read_is i q lt = ap (λ (rs : List Read). get_or rs i (Ok q)) made ∙ get_or-map Ok queues i q (Ok q) lt

    pub none_failed : NoneFailed reads (length reads)
    none_failed i r within =
        let lt : i < length queues = omega (arith, within, queues_number, are.reads_number) in
        let q : Vec Parcel = some_of queues i lt in
        ap failed_with (ap (λ (rs : List Read). get_or rs i r) made ∙ get_or-map Ok queues i q r lt)

    pub number_made : length queues ≡ length old
    number_made = queues_number

    pub queues_are : AreQueuesOf h.box (length old) pieces queues
    queues_are = record {
      each = λ rank among.
          let lt : rank < length old = omega (arith, among) in
          let in_queues : rank < length queues = subst (λ n. rank < n) (sym queues_number) lt in
          let q : Vec Parcel = some_of queues rank in_queues in
          let d : V = some_of old rank lt in
          let got : AreParcelsOf rank (rank_region h.box (length old) rank) pieces (get_or queues rank q).items =
          parcels_made rank (rank_region h.box (length old) rank) pieces (get_or reads rank (Ok q)) (get_or queues rank q) (read_is rank q in_queues) ((are.each rank d (Ok q) lt).parcels among) in
          subst (λ (ps : List Parcel). AreParcelsOf rank (rank_region h.box (length old) rank) pieces ps) (sym (get_or-map (λ (v : Vec Parcel). v.items) queues rank q [] in_queues)) got;
    }

    full_at : (i : ℕ) (q : Vec Parcel) (lt : i < length old) → i < length queues → All (IsFull h (contents (get_or old i (some_of old i lt)))) (get_or queues i q).items
    full_at i q lt inside =
        full_made h (contents (get_or old i (some_of old i lt))) (get_or reads i (Ok q)) (get_or queues i q) (read_is i q inside) (are.each i (some_of old i lt) (Ok q) lt).full

    pub full_none : AllFull h None queues
    full_none i q inside =
        let lt : i < length old = subst (λ n. i < n) queues_number inside in
        λ k d within. full_untold h _ _ (full_at i q lt inside k d within)

    pub full_told : (bytes : List ℕ) → All (λ (raw : V). contents raw ≡ Some bytes) old → AllFull h (Some bytes) queues
    full_told bytes told i q inside =
        let lt : i < length old = subst (λ n. i < n) queues_number inside in
        subst (λ (t : Option (List ℕ)). All (IsFull h t) (get_or queues i q).items) (told i (some_of old i lt) lt) (full_at i q lt inside)
