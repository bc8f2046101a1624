-- The walk over the points of a region between two levels.
use Rattle.std.proofs.Common.{◌≡◌, ℕ, zero, suc, ◌+◌, ◌-◌, ◌*◌, ◌^◌, ◌<◌, ◌≤◌, ◌&&◌, leb, ltb, List, [], length, get_or, take, drop, map, filter, sym, ap, ◌∙◌, subst, arith}
use Rattle.std.specs.Prelude.{All, not}
use Rattle.std.proofs.lemmas.List.{drop-drop}
use Rattle.std.proofs.lemmas.List.Elements.{All-from_get_or, All-filter, filter_agree}
use Rattle.std.proofs.lemmas.List.Folds.{flat_map-map}
use Rattle.std.proofs.lemmas.Option.{slice_get-get_or}
use Rattle.std.proofs.lemmas.Nat.{mul-le}
use Rattle.std.proofs.Math.Bool.{and_comm}
use Rattle.idx_lanes.specs.Axis.{on}
use Rattle.idx_lanes.proofs.AxisLemmas.{stride_pos}
use Rattle.idx_geom.specs.Region.{points, place_of, LiesIn, IsRegion, lower_ends, upper_ends}
use Rattle.idx_geom.specs.Volume.{samples_of, sample_at}
use Rattle.idx_geom.proofs.LiesInLemmas.{length_from_LiesIn, axes_from_ends, HoldsAll-from_ends}
use Rattle.idx_geom.proofs.PointsLemmas.{LiesIn-slice_get, place_of-lt, length-points}
use Rattle.idx_hz.specs.Mask.{NamesAxes}
use Rattle.idx_hz.specs.Address.{level}
use Rattle.idx_hz.specs.Answer.{has_level, answer}
use Rattle.idx_hz.specs.Stride.{stride}
use Rattle.idx_stride.specs.Places.{samples_at}
use Rattle.idx_stride.specs.Strides.{Walk, IsStrides, end_of, offsets_of}
use Rattle.idx_walk.specs.Walk.{wanted_places, points_up_to}
use Rattle.idx_walk.proofs.ListLemmas.{filter-filter, filter-agree_on, flat_map-agree_on}
use Rattle.idx_walk.proofs.GridLemmas.{lattice, filter-on}
use Rattle.idx_walk.proofs.PlaceLemmas.{axes_of, start_of, offsets-of_points}
use Rattle.idx_walk.proofs.LevelTests.{on-agree, level-test, has_level-on, ratio_of, ratio_pos, stride-ratio}
use Rattle.idx_walk.proofs.BoundLemmas.{HasMultiples, lattice-some, reach-le, grid_points-le, length-axes_of, All-axes_of}

-- what is asked of a walk
pub record IsQuestion (mask : List ℕ) (es bs : List (ℕ × ℕ)) (lo hi : ℕ) : Type 0 where
  pub named : NamesAxes mask (length es)
  pub lower : LiesIn es (lower_ends bs)
  pub upper : LiesIn es (upper_ends bs)
  pub region : IsRegion bs
  pub ordered : lo ≤ hi

-- the walk
abbrev pub walk_of : List ℕ → List (ℕ × ℕ) → List (ℕ × ℕ) → ℕ → ℕ → ℕ → Walk
walk_of mask es bs lo hi bytes = record {
  base = start_of (stride mask hi) bytes 0 es bs;
  size = bytes;
  coarse = ltb 0 lo;
  axes = axes_of (stride mask hi) (ratio_of mask lo hi) bytes 0 es bs;
}

-- each point of a region lies in it
pub All-points : (bs : List (ℕ × ℕ)) → All (LiesIn bs) (points bs)
All-points bs = All-from_get_or (LiesIn bs) (points bs) [] (λ k within. (LiesIn-slice_get bs k (get_or (points bs) k []) (slice_get-get_or (points bs) k [] within)).0)

-- a mask that names axes of the extent names those of each point of the region
NamesAxes-point : (mask : List ℕ) (es bs : List (ℕ × ℕ)) (p : List ℕ) → NamesAxes mask (length es) → LiesIn es (lower_ends bs) → LiesIn bs p → NamesAxes mask (length p)
NamesAxes-point mask es bs p named lower h =
    subst (NamesAxes mask) (axes_from_ends es bs lower ∙ sym (length_from_LiesIn bs p h)) named

-- the places that the walk visits are those that are wanted
pub offsets-wanted : (mask : List ℕ) (es bs : List (ℕ × ℕ)) (lo hi bytes : ℕ) → IsQuestion mask es bs lo hi → offsets_of (walk_of mask es bs lo hi bytes) ≡ wanted_places mask es bytes bs lo hi
offsets-wanted mask es bs lo hi bytes asked =
    let fine : ℕ → ℕ = stride mask hi in
    let ratio : ℕ → ℕ = ratio_of mask lo hi in
    let agree : (p : List ℕ) → LiesIn bs p → (on fine 0 p && not (ltb 0 lo && on (λ a. fine a * ratio a) 0 p)) ≡ has_level mask lo hi p = λ p h.
    ap (λ b. on fine 0 p && not (ltb 0 lo && b)) (on-agree (λ a. fine a * ratio a) (stride mask (lo - 1)) (λ a. stride-ratio mask lo hi a asked.ordered) 0 p)
    ∙ sym (has_level-on mask p lo hi (NamesAxes-point mask es bs p asked.named asked.lower h)) in
    offsets-of_points fine ratio (stride_pos mask hi) (λ a. ratio_pos mask lo hi a asked.ordered) bytes (ltb 0 lo) es bs asked.lower asked.region.ordered
    ∙ ap (map (λ p. bytes * place_of es p)) (filter-agree_on (LiesIn bs) _ (has_level mask lo hi) agree (points bs) (All-points bs))

-- the points of level at most h are those on its strides
pub points_up_to-lattice : (mask : List ℕ) (es bs : List (ℕ × ℕ)) (lo hi : ℕ) → IsQuestion mask es bs lo hi → points_up_to mask bs hi ≡ lattice (stride mask hi) 0 bs
points_up_to-lattice mask es bs lo hi asked =
    filter-agree_on (LiesIn bs) (λ p. leb (level mask p) hi) (on (stride mask hi) 0)
    (λ p h. level-test mask p hi (NamesAxes-point mask es bs p asked.named asked.lower h)) (points bs) (All-points bs)
    ∙ filter-on (stride mask hi) (stride_pos mask hi) 0 bs asked.region.ordered

-- where no point has such a level, none is wanted
pub wanted-none : (mask : List ℕ) (es bs : List (ℕ × ℕ)) (lo hi bytes : ℕ) → points_up_to mask bs hi ≡ [] → wanted_places mask es bytes bs lo hi ≡ []
wanted-none mask es bs lo hi bytes none =
    ap (map (λ p. bytes * place_of es p))
    (filter_agree (has_level mask lo hi) (λ p. leb (level mask p) hi && leb lo (level mask p)) (λ p. and_comm (leb lo (level mask p)) (leb (level mask p) hi)) (points bs)
    ∙ sym (filter-filter (λ p. leb (level mask p) hi) (λ p. leb lo (level mask p)) (points bs))
    ∙ ap (filter (λ p. leb lo (level mask p))) none)

-- where each axis has a multiple, some point has such a level
pub points_up_to-some : (mask : List ℕ) (es bs : List (ℕ × ℕ)) (lo hi : ℕ) → IsQuestion mask es bs lo hi → HasMultiples (stride mask hi) 0 bs → points_up_to mask bs hi ≡ [] → ⊥
points_up_to-some mask es bs lo hi asked counted none =
    omega (arith, lattice-some (stride mask hi) 0 bs counted, ap length (sym (points_up_to-lattice mask es bs lo hi asked) ∙ none))

-- the walk ends where the volume does
pub end-le : (mask : List ℕ) (es bs : List (ℕ × ℕ)) (lo hi bytes : ℕ) → IsQuestion mask es bs lo hi → HasMultiples (stride mask hi) 0 bs →
    end_of (walk_of mask es bs lo hi bytes) ≤ bytes * length (points es)
end-le mask es bs lo hi bytes asked counted =
    omega (arith, reach-le (stride mask hi) (ratio_of mask lo hi) (stride_pos mask hi) bytes 0 es bs asked.lower asked.upper counted, ap (λ n. bytes * n) (length-points es))

-- it is a walk
pub IsStrides-walk : (mask : List ℕ) (es bs : List (ℕ × ℕ)) (lo hi bytes : ℕ) → IsQuestion mask es bs lo hi → HasMultiples (stride mask hi) 0 bs → IsRegion es → 1 ≤ bytes → bytes ≤ 64 →
    IsStrides (walk_of mask es bs lo hi bytes)
IsStrides-walk mask es bs lo hi bytes asked counted volume some few =
    let fine : ℕ → ℕ = stride mask hi in
    let ratio : ℕ → ℕ = ratio_of mask lo hi in
    record {
      few_axes = omega (arith, length-axes_of fine ratio bytes 0 es bs asked.lower, asked.region.axes.1);
      axes = All-axes_of fine ratio (λ a. ratio_pos mask lo hi a asked.ordered) bytes 0 es bs asked.lower asked.region.small counted;
      some_bytes = some;
      few_bytes = few;
      within = omega (arith, end-le mask es bs lo hi bytes asked counted, mul-le bytes (length (points es)) 64 (2 ^ 40) few volume.few);
      few_points = omega (arith, grid_points-le fine ratio (stride_pos mask hi) bytes 0 es bs asked.lower, length-points bs, asked.region.few);
    }

-- ---- the samples at the places

-- a sample of a volume that is cut from raw bytes
get_or-samples_of : (bytes n : ℕ) (raw : List ℕ) (k : ℕ) → k < n → get_or (samples_of bytes n raw) k [] ≡ take bytes (drop (bytes * k) raw)
get_or-samples_of bytes zero raw k few = absurd (omega arith)
get_or-samples_of bytes (suc n) raw zero few =
    let none : bytes * zero ≡ 0 = omega arith in
    ap (λ at. take bytes (drop at raw)) (sym none)
get_or-samples_of bytes (suc n) raw (suc k) few =
    let more : bytes + bytes * k ≡ bytes * suc k = grind arith in
    get_or-samples_of bytes n (drop bytes raw) k (omega arith)
    ∙ ap (take bytes) (drop-drop (bytes * k) bytes raw ∙ ap (λ at. drop at raw) more)

pub sample_at-raw : (es : List (ℕ × ℕ)) (bytes : ℕ) (raw p : List ℕ) → LiesIn es p → sample_at es (samples_of bytes (length (points es)) raw) p ≡ take bytes (drop (bytes * place_of es p) raw)
sample_at-raw es bytes raw p h = get_or-samples_of bytes (length (points es)) raw (place_of es p) (omega (arith, place_of-lt es p h, length-points es))

-- the samples at the wanted places are the answer
pub samples_at-wanted : (mask : List ℕ) (es bs : List (ℕ × ℕ)) (lo hi bytes : ℕ) (raw : List ℕ) → IsQuestion mask es bs lo hi →
    samples_at bytes raw (wanted_places mask es bytes bs lo hi) ≡ answer mask es (samples_of bytes (length (points es)) raw) bs lo hi
samples_at-wanted mask es bs lo hi bytes raw asked =
    flat_map-map (λ o. take bytes (drop o raw)) (λ p. bytes * place_of es p) (filter (has_level mask lo hi) (points bs))
    ∙ flat_map-agree_on (LiesIn bs) _ _ (λ p h. sym (sample_at-raw es bytes raw p (HoldsAll-from_ends es bs asked.lower asked.upper p h)))
    (filter (has_level mask lo hi) (points bs)) (All-filter (has_level mask lo hi) (LiesIn bs) (points bs) (All-points bs))
