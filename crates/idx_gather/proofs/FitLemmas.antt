-- Samples of the points of the box, made to have their size at all other points too.
use Rattle.std.proofs.Common.{◌≡◌, ℕ, ◌<◌, Bool, true, false, List, [], ◌++◌, length, get_or, map, take, refl, sym, ap, subst, ◌∙◌, arith, Option, Some, None, length-append}
use Rattle.std.specs.Prelude.{◌==◌, find, if◌then◌else◌, nat_lt, replicate}
use Rattle.std.specs.List.{flat_map, range_with_len}
use Rattle.std.specs.Option.{option_map_or}
use Rattle.std.proofs.lemmas.Bool.{lt-ltb, ltb-true}
use Rattle.std.proofs.Math.Seq.{take-append_seam}
use Rattle.std.proofs.lemmas.List.{get_or-map, length-map, length-replicate, length-take-le}
use Rattle.idx_geom.specs.Region.{LiesIn, place_of, points}
use Rattle.idx_geom.proofs.PointsLemmas.{length-points, place_of-lt}
use Rattle.idx_hz.specs.Address.{hz_address}
use Rattle.idx_fields.specs.Field.{field_at, sample_bytes}
use Rattle.idx_header.specs.Header.{HeaderValue, IsHeader, sample_bytes_of, volume_bytes}
use Rattle.idx_layout.specs.Step.{volume_of_raw}
use Rattle.idx_pieces.specs.Runs.{run_addresses, sample_at_address}
use Rattle.idx_pieces.specs.Samples.{AreSamples, raw_sample}
use Rattle.idx_pieces.specs.declared.parcel.Parcel.{Parcel}
use Rattle.idx_pieces.specs.declared.run.Run.{Run}
use Rattle.idx_pieces.proofs.JoinLists.{joined_agree, joined_within}
use Rattle.idx_dock.specs.Content.{runs_in}
use Rattle.idx_dock.specs.Dock.{DockValue}
use Rattle.idx_dock.proofs.CompleteLemmas.{find_point, volume_sample}
use Rattle.idx_ranks.specs.Loads.{HoldsLoad, IsLoad}
use Rattle.idx_ranks.specs.declared.load.Load.{Load}
use Rattle.idx_aggregate.proofs.HeldLemmas.{own_inside, point_in}
use Rattle.idx_gather.specs.States.{AreBoxSamples, HaveSamples}
use Rattle.idx_gather.proofs.EditionLemmas.{is_volume}

-- as many bytes as these
sized : ℕ → List ℕ → List ℕ
sized n bytes = take n (bytes ++ replicate n 0)

length-sized : (n : ℕ) (bytes : List ℕ) → length (sized n bytes) ≡ n
unfolding sized
length-sized n bytes =
    length-take-le n (bytes ++ replicate n 0)
    (omega (arith, length-append bytes (replicate n 0), length-replicate {A = ℕ} n 0))

sized_same : (n : ℕ) (bytes : List ℕ) → length bytes ≡ n → sized n bytes ≡ bytes
unfolding sized
sized_same n bytes many = ap (λ k. take k (bytes ++ replicate n 0)) (sym many) ∙ take-append_seam bytes (replicate n 0)

module _ (h : HeaderValue) (sample : ℕ → List ℕ → List ℕ) where
  -- the samples of each field of the dataset, of its size wherever they are
  pub fit : ℕ → List ℕ → List ℕ
  fit field p = if nat_lt field (length h.fields) then sized (sample_bytes_of h field) (sample field p) else sample field p

  pub fit_are : AreSamples h fit
  unfolding fit
  fit_are field p within =
      ap (λ b. length (if b then sized (sample_bytes_of h field) (sample field p) else sample field p)) (lt-ltb field (length h.fields) within)
      ∙ length-sized (sample_bytes_of h field) (sample field p)

  module _ (are : AreBoxSamples h sample) where
    -- in the box they are the same
    pub fit_same : (field : ℕ) (p : List ℕ) → LiesIn h.box p → fit field p ≡ sample field p
    unfolding fit
    fit_same field p inside = by_test (nat_lt field (length h.fields)) refl
      where
        by_test : (b : Bool) → nat_lt field (length h.fields) ≡ b → (if b then sized (sample_bytes_of h field) (sample field p) else sample field p) ≡ sample field p
        by_test true is = sized_same (sample_bytes_of h field) (sample field p) (are field p (ltb-true field (length h.fields) is) inside)
        by_test false is = refl

    -- a load that holds the samples holds these
    pub load_fits : (load : Load) → IsHeader h → IsLoad h load → HoldsLoad h sample load → HoldsLoad h fit load
    load_fits load valid known held k d within =
        let parcel : Parcel = get_or load.parcels k d in
        held k d within
        ∙ joined_agree (λ field. flat_map (sample field) (points parcel.region)) (λ field. flat_map (fit field) (points parcel.region)) (range_with_len 0 (length h.fields))
        (λ field. joined_within (sample field) (fit field) (points parcel.region)
        (λ p among. sym (fit_same field p (own_inside h load.piece load.parcels valid known.piece known.legal k d p within (point_in h load.piece load.parcels valid known.piece known.legal parcel.region p among)))))

    pub at_address : (field a : ℕ) → sample_at_address h fit field a ≡ sample_at_address h sample field a
    at_address field a = by_find (find (λ p. hz_address h.mask p == a) (points h.box)) refl
      where
        by_find : (o : Option (List ℕ)) → find (λ p. hz_address h.mask p == a) (points h.box) ≡ o →
            option_map_or (fit field) o (replicate (sample_bytes_of h field) 0) ≡ option_map_or (sample field) o (replicate (sample_bytes_of h field) 0)
        by_find None found = refl
        by_find (Some p) found = fit_same field p (find_point h.box (λ p. hz_address h.mask p == a) p found)

    same_run : (run : Run) → flat_map (sample_at_address h fit run.field) (run_addresses h run) ≡ flat_map (sample_at_address h sample run.field) (run_addresses h run)
    same_run run = joined_agree (sample_at_address h fit run.field) (sample_at_address h sample run.field) (run_addresses h run) (at_address run.field)

    -- and so it is with what was delivered
    pub docks_fit : (docks : List DockValue) → HaveSamples h sample docks → HaveSamples h fit docks
    docks_fit docks have i d within j r inside = have i d within j r inside ∙ sym (same_run (get_or (runs_in (get_or docks i d).awaited) j r))

    pub docks_from_fit : (docks : List DockValue) → HaveSamples h fit docks → HaveSamples h sample docks
    docks_from_fit docks have i d within j r inside = have i d within j r inside ∙ same_run (get_or (runs_in (get_or docks i d).awaited) j r)

-- the samples of a raw volume have their size in the box
pub raw_are : (h : HeaderValue) (raw : List ℕ) → length raw ≡ volume_bytes h → AreBoxSamples h (raw_sample h raw)
raw_are h raw whole field p within inside =
    let place : place_of h.box p < length (points h.box) = omega (arith, place_of-lt h.box p inside, length-points h.box) in
    let there : field < length (map sample_bytes h.fields) = subst (λ n. field < n) (sym (length-map h.fields sample_bytes)) within in
    volume_sample (map sample_bytes h.fields) (length (points h.box)) field (place_of h.box p) (volume_of_raw h raw) (is_volume h raw whole) there place
    ∙ get_or-map sample_bytes h.fields field (field_at [] 0) 0 within
