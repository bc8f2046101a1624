-- What workers do, and what the ranks read.
use Rattle.std.specs.Prelude.{◌≡◌, ℕ, ◌<◌, ◌≤◌, nat_lt, if◌then◌else◌, List, All, Option, Some, None, Result, IfNone, IfOk, IfSome, length, map, slice_index_or}
use Rattle.std.specs.Option.{ForSome}
use Rattle.std.specs.Global.{Vec}
use Rattle.idx_geom.specs.Region.{HoldsAll}
use Rattle.idx_header.specs.Header.{HeaderValue, volume_bytes}
use Rattle.idx_pieces.specs.Parcels.{AreParcelsOf, IsFull}
use Rattle.idx_pieces.specs.Ranks.{rank_count, rank_region}
use Rattle.idx_pieces.specs.RawReads.{AsksAtMost, HasVolume, KeepsRaw}
use Rattle.idx_pieces.specs.declared.parcel.Parcel.{Parcel}
use Rattle.idx_pieces.specs.declared.piece.Piece.{Piece}
use Rattle.idx_pieces.specs.declared.raw_refusal.RawRefusal.{RawRefusal}
use Rattle.idx_ranks.specs.declared.job.Job.{Job}

-- the region of a rank of a box, of n that may have a part, where it has one
abbrev pub region_of : List (ℕ × ℕ) → ℕ → ℕ → Option (List (ℕ × ℕ))
region_of box n rank = if nat_lt rank (rank_count box n) then Some (rank_region box n rank) else None

-- the raw volumes of jobs, their ranks, and what was read
abbrev pub raws_of : {V : Type 0} → List (Job V) → List V
raws_of jobs = map (λ job. job.raw) jobs

abbrev pub ranks_of : {V : Type 0} → List (Job V) → List ℕ
ranks_of jobs = map (λ job. job.rank) jobs

abbrev pub reads_of : {V : Type 0} → List (Job V) → List (Result (Vec Parcel) RawRefusal)
reads_of jobs = map (λ job. job.read) jobs

-- a job has the region of its rank
abbrev pub IsBegun : {V : Type 0} → List (ℕ × ℕ) → ℕ → Job V → Type 0
IsBegun box n job = job.region ≡ region_of box n job.rank

module _ {V : Type 0} (contents : V → Option (List ℕ)) where
  -- a job can be run: its volume has the samples of the box, where its bytes are known, and its region lies in the box
  -- and has the axes of the pieces
  pub record MayRead (h : HeaderValue) (pieces : List Piece) (job : Job V) : Type 0 where
    pub volume : HasVolume h (contents job.raw)
    pub inside : ForSome job.region (λ region. HoldsAll h.box region)
    pub axes : ForSome job.region (λ region. All (λ piece. length piece.region ≡ length region) pieces)

  module _ (faults asks : V → ℕ) (h : HeaderValue) (pieces : List Piece) where
    -- what a worker makes of a job
    pub record Reads (old new : Job V) : Type 0 where
      pub raw : KeepsRaw (contents old.raw) (contents new.raw) (faults old.raw) (faults new.raw) new.read
      pub asked : AsksAtMost (asks old.raw) (asks new.raw) (volume_bytes h)
      pub parcels : IfSome old.region (λ region. IfOk new.read (λ parcels. AreParcelsOf old.rank region pieces parcels.items))
      pub full : IfOk new.read (λ parcels. All (IsFull h (contents old.raw)) parcels.items)
      pub idle : IfNone old.region (new.raw ≡ old.raw)

    -- what a rank read, of n that may have a part of the box: its raw volume before and after, and the parcels
    pub record IsRead (n rank : ℕ) (old new : V) (read : Result (Vec Parcel) RawRefusal) : Type 0 where
      pub raw : KeepsRaw (contents old) (contents new) (faults old) (faults new) read
      pub asked : AsksAtMost (asks old) (asks new) (volume_bytes h)
      pub parcels : rank < rank_count h.box n → IfOk read (λ parcels. AreParcelsOf rank (rank_region h.box n rank) pieces parcels.items)
      pub full : IfOk read (λ parcels. All (IsFull h (contents old)) parcels.items)
      pub idle : rank_count h.box n ≤ rank → new ≡ old

    -- the same of all ranks
    pub record AreReads (old new : List V) (reads : List (Result (Vec Parcel) RawRefusal)) : Type 0 where
      pub number : length new ≡ length old
      pub reads_number : length reads ≡ length old
      pub each : (i : ℕ) (d : V) (r : Result (Vec Parcel) RawRefusal) → i < length old →
          IsRead (length old) i (slice_index_or old i d) (slice_index_or new i d) (slice_index_or reads i r)
