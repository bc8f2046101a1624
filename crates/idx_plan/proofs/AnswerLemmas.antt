-- The answer by its samples, and the blocks of its points.
use Rattle.std.proofs.Common.{◌≡◌, ℕ, zero, suc, ◌+◌, ◌-◌, ◌*◌, ◌/◌, ◌^◌, ◌<◌, ◌≤◌, Bool, true, false, cond, ◌&&◌, eqb, leb, List, [], ◌∷◌, ◌++◌, length, take, drop, get_or, filter, Some, None, refl, sym, ap, ◌∙◌, subst, zero-add, arith}
use Rattle.std.specs.Prelude.{Contains, Option, slice_get}
use Rattle.std.specs.List.{flat_map, range_with_len}
use Rattle.std.proofs.lemmas.Bool.{eq-eqb, le-leb}
use Rattle.std.proofs.lemmas.List.{drop-drop, get_or-map, length-drop, nil_from_length, take-append-drop}
use Rattle.std.proofs.lemmas.List.FromFn.{get_or-range_with_len, length-range_with_len}
use Rattle.std.proofs.lemmas.Nat.{div_below, pow-add, pow_pos}
use Rattle.std.proofs.lemmas.Option.{get_or_from_slice_get, slice_get_within}
use Rattle.idx_geom.specs.Region.{LiesIn, place_of, points}
use Rattle.idx_geom.specs.Volume.{sample_at}
use Rattle.idx_geom.proofs.PointsLemmas.{slice_get-place_of}
use Rattle.idx_hz.specs.Address.{hz_address, level}
use Rattle.idx_hz.specs.Answer.{answer, has_level}
use Rattle.idx_hz.proofs.AddressLaws.{hz_address-lt}
use Rattle.idx_header.specs.Header.{HeaderValue, block_count, sample_bytes_of}
use Rattle.idx_layout.specs.Content.{field_in, sample_in}
use Rattle.idx_layout.specs.Placing.{Placing}
use Rattle.idx_layout.specs.OfHeader.{placing_of}
use Rattle.idx_layout.proofs.PresentLemmas.{any_point}
use Rattle.idx_scatter.specs.Asked.{asked_points}
use Rattle.idx_scatter.specs.Scatter.{sample_of}
use Rattle.idx_scatter.proofs.AskedLemmas.{asked-from}
use Rattle.idx_plan.specs.Answer.{answer_of}
use Rattle.idx_plan.specs.Needed.{answer_bytes, fault_by_axis, is_needed, needed, outside_axis, plan_fault}
use Rattle.idx_plan.specs.Plan.{asked_of}
use Rattle.idx_plan.specs.declared.ask.Ask.{Ask}
use Rattle.idx_plan.proofs.OutsideLemmas.{inside-box}

-- ---- all levels

filter-all : {X : Type 0} (f : X → Bool) (xs : List X) → ((x : X) → f x ≡ true) → filter f xs ≡ xs
filter-all f [] each = refl
filter-all f (x ∷ xs) each =
    ap (λ b. cond b (x ∷ filter f xs) (filter f xs)) (each x) ∙ ap (λ t. x ∷ t) (filter-all f xs each)

each_level : (mask p : List ℕ) → has_level mask 0 (length mask) p ≡ true
each_level mask p =
    ap (λ b. b && leb (level mask p) (length mask)) (le-leb 0 (level mask p) (omega arith))
    ∙ le-leb (level mask p) (length mask) (omega arith)

pub all_levels : (mask : List ℕ) (box region : List (ℕ × ℕ)) (samples : List (List ℕ)) → answer mask box samples region 0 (length mask) ≡ flat_map (sample_at box samples) (points region)
all_levels mask box region samples =
    ap (flat_map (sample_at box samples)) (filter-all (has_level mask 0 (length mask)) (points region) (each_level mask))

-- ---- an answer by its samples

-- bytes whose parts of one size are those of the items
pieces : {X : Type 0} (size : ℕ) (f : X → List ℕ) (xs : List X) (out : List ℕ) → length out ≡ length xs * size → ((place : ℕ) (x : X) → slice_get xs place ≡ Some x → take size (drop (place * size) out) ≡ f x) → out ≡ flat_map f xs
pieces size f [] out whole each = nil_from_length out (omega (arith, whole))
pieces size f (x ∷ xs) out whole each =
    let rest : drop size out ≡ flat_map f xs =
    pieces size f xs (drop size out) (omega (arith, whole, length-drop size out))
    (λ place y at. ap (take size) (drop-drop (place * size) size out)
    ∙ ap (λ n. take size (drop n out)) (next place)
    ∙ each (suc place) y at) in
    let first : take size out ≡ f x = ap (λ n. take size (drop n out)) start ∙ each 0 x refl in
    sym (take-append-drop size out) ∙ (λ i. first i ++ rest i)
  where
    start : 0 ≡ 0 * size
    start = omega arith

    next : (place : ℕ) → size + place * size ≡ suc place * size
    next place = omega arith

-- the sample of a field at a point of the box
field-sample_at : (l : Placing) (content : ℕ → ℕ → List ℕ) (field : ℕ) (p : List ℕ) → LiesIn l.region p → sample_at l.region (field_in l content field) p ≡ sample_in l content field p
field-sample_at l content field p inside =
    let at = slice_get-place_of l.region p inside in
    get_or-map (sample_in l content field) (points l.region) (place_of l.region p) p [] (slice_get_within (points l.region) (place_of l.region p) p at)
    ∙ ap (sample_in l content field) (get_or_from_slice_get (points l.region) (place_of l.region p) p p at)

no_axis : (h : HeaderValue) (ask : Ask) (axis : Option ℕ) → fault_by_axis h ask axis ≡ None → axis ≡ None
no_axis h ask None e = refl
no_axis h ask (Some axis) e = cc

pub copied : (h : HeaderValue) (ask : Ask) (content : ℕ → ℕ → List ℕ) (out : List ℕ) → length ask.region ≡ length h.box → plan_fault h ask ≡ None → length out ≡ answer_bytes h ask →
    ((place : ℕ) (p : List ℕ) → slice_get (asked_points (asked_of h ask)) place ≡ Some p → sample_of (sample_bytes_of h ask.field) out place ≡ sample_in (placing_of h) content ask.field p) → out ≡ answer_of h ask content
copied h ask content out axes sound whole each =
    pieces (sample_bytes_of h ask.field) (sample_at h.box (field_in (placing_of h) content ask.field)) (asked_points (asked_of h ask)) out whole
    (λ place p at.
    let inside : LiesIn h.box p = inside-box 0 ask.region h.box p axes (no_axis h ask (outside_axis 0 ask.region h.box) sound) (asked-from (asked_of h ask) place p at).inside in
    each place p at ∙ sym (field-sample_at (placing_of h) content ask.field p inside))

-- ---- the blocks of its points

one_more : {X : Type 0} (y x : X) (xs : List X) → Contains xs x → Contains (y ∷ xs) x
one_more y x xs has = (suc has.0, omega (arith, has.1), has.2)

Contains-filter : {X : Type 0} (f : X → Bool) (xs : List X) (k : ℕ) (x : X) → k < length xs → get_or xs k x ≡ x → f x ≡ true → Contains (filter f xs) x
Contains-filter f [] k x within at passes = absurd (omega arith)
Contains-filter f (y ∷ ys) zero x within at passes =
    subst (λ (b : Bool). Contains (cond b (y ∷ filter f ys) (filter f ys)) x) (sym (ap f at ∙ passes)) (0, omega arith, at)
Contains-filter f (y ∷ ys) (suc k) x within at passes = by_test (f y) (Contains-filter f ys k x (omega arith) at passes)
  where
    by_test : (b : Bool) → Contains (filter f ys) x → Contains (cond b (y ∷ filter f ys) (filter f ys)) x
    by_test true has = one_more y x (filter f ys) has
    by_test false has = has

block_exists : (h : HeaderValue) (p : List ℕ) → h.block_bits ≤ length h.mask → hz_address h.mask p / 2 ^ h.block_bits < block_count h
block_exists h p within =
    let digits : length h.mask ≡ length h.mask - h.block_bits + h.block_bits = omega arith in
    let whole : 2 ^ length h.mask ≡ 2 ^ (length h.mask - h.block_bits) * 2 ^ h.block_bits =
    ap (λ n. 2 ^ n) digits ∙ pow-add 2 (length h.mask - h.block_bits) h.block_bits in
    div_below (hz_address h.mask p) (2 ^ h.block_bits) (block_count h) (pow_pos h.block_bits)
    (subst (λ (n : ℕ). hz_address h.mask p < n) whole (hz_address-lt h.mask p))

both : (a b : Bool) → a ≡ true → b ≡ true → (a && b) ≡ true
both true b x y = y
both false b x y = x

pub needed-block : (h : HeaderValue) (ask : Ask) (place : ℕ) (p : List ℕ) → h.block_bits ≤ length h.mask → slice_get (asked_points (asked_of h ask)) place ≡ Some p → Contains (needed h ask) (hz_address h.mask p / 2 ^ h.block_bits)
needed-block h ask place p within at =
    let block : ℕ = hz_address h.mask p / 2 ^ h.block_bits in
    let from = asked-from (asked_of h ask) place p at in
    let below : block < block_count h = block_exists h p within in
    let is : is_needed h ask block ≡ true =
    any_point ask.region _ p from.inside
    (both (has_level h.mask ask.lo ask.hi p) (eqb block block) from.asked (eq-eqb block block refl)) in
    Contains-filter (is_needed h ask) (range_with_len 0 (block_count h)) block block
    (omega (arith, below, length-range_with_len 0 (block_count h)))
    (get_or-range_with_len 0 (block_count h) block block below ∙ zero-add block) is
