-- The delivered runs of a dock: those of each piece rise, and no two have a sample of one field and address.
use Rattle.std.proofs.Common.{◌≡◌, ◌≢◌, ℕ, zero, suc, ◌+◌, ◌-◌, ◌*◌, ◌/◌, ◌%◌, ◌^◌, ◌<◌, ◌≤◌, Bool, true, false, cond, List, [], ◌∷◌, ◌++◌, length, get_or, take, drop, map, refl, sym, ap, ◌∙◌, subst, arith, inl, inr, Option, Some, None, eqb-true, eq-eqb}
use Rattle.std.specs.Prelude.{◌⊎◌, ◌==◌, All, filter, EachIndex, slice_index}
use Rattle.std.specs.List.{AllByRecursion, flat_map, range_with_len}
use Rattle.std.specs.Option.{ForSome, unwrap_or}
use Rattle.std.proofs.lemmas.Bool.{cases_eq, cases_lt}
use Rattle.std.proofs.lemmas.List.{length-map, get_or-map}
use Rattle.std.proofs.lemmas.List.Elements.{All-head, All-tail, All-nil, All-cons}
use Rattle.std.proofs.lemmas.Nat.{pow_pos, pow-add}
use Rattle.std.proofs.Math.Nat.{mul-le-mul_right}
use Rattle.idx_geom.specs.Region.{LiesIn}
use Rattle.idx_geom.proofs.LiesInLemmas.{both_from_common_bounds, length_from_LiesIn, LiesIn-at_axis, LiesIn-common_bounds, LiesIn-from_axes}
use Rattle.idx_hz.specs.Mask.{HasAddress, NamesAxes, bit_count}
use Rattle.idx_hz.specs.Address.{hz_address, z_address}
use Rattle.idx_hz.specs.Coordinate.{coordinate_at, point_at}
use Rattle.idx_hz.specs.Stride.{stride}
use Rattle.idx_hz.proofs.AddressLaws.{hz_address-injective}
use Rattle.idx_hz.proofs.PrefixLemmas.{prefix_iff_strides}
use Rattle.idx_hz.proofs.PointLemmas.{IsPointOf-point_at}
use Rattle.idx_hz.proofs.RegionLemmas.{HasAddress-from_end}
use Rattle.idx_hz.proofs.ZLemmas.{length-point_at, get_or-point_at}
use Rattle.idx_grid.proofs.BoxLemmas.{IsCorner, between_iff, corner_multiple, corner_quotient}
use Rattle.idx_layout.proofs.PresentLemmas.{point_found}
use Rattle.idx_header.specs.Header.{HeaderValue, IsHeader}
use Rattle.idx_pieces.specs.Pieces.{front_bounds, has_piece, piece_at, piece_of, piece_region}
use Rattle.idx_pieces.specs.Runs.{AreRunsOf, IsRun, addresses_of, has_address, run_addresses, run_length}
use Rattle.idx_pieces.specs.declared.piece.Piece.{Piece}
use Rattle.idx_pieces.specs.declared.run.Run.{Run}
use Rattle.idx_dock.specs.declared.awaited.Awaited.{Awaited}
use Rattle.idx_dock.specs.Content.{has_sample, runs_in}
use Rattle.idx_dock.specs.Dock.{DockValue, IsDock, awaited_of, reaches, reaching, undelivered}
use Rattle.idx_dock.specs.Next.{AreApart, AreWritable, IsOneOf, RiseIn, end_of, runs_of}
use Rattle.idx_dock.proofs.NextLemmas.{AllByRecursion-weaker}
use Rattle.idx_dock.proofs.WriteLemmas.{has_is}
use Rattle.idx_dock.proofs.ContentLemmas.{RiseFrom, RiseFrom-filter, IsOneOf-split, one_of}

-- the number is one of these
abbrev pub IsIn : List ℕ → ℕ → Type 0
IsIn [] n = ⊥
IsIn (m ∷ ms) n = (m ≡ n) ⊎ IsIn ms n

IsIn-front : (xs ys : List ℕ) (n : ℕ) → IsIn xs n → IsIn (xs ++ ys) n
IsIn-front [] ys n here = absurd here
IsIn-front (x ∷ xs) ys n (inl same) = inl same
IsIn-front (x ∷ xs) ys n (inr more) = inr (IsIn-front xs ys n more)

IsIn-back : (xs ys : List ℕ) (n : ℕ) → IsIn ys n → IsIn (xs ++ ys) n
IsIn-back [] ys n here = here
IsIn-back (x ∷ xs) ys n here = inr (IsIn-back xs ys n here)

pub IsIn-range : (a n k : ℕ) → a ≤ k → k < a + n → IsIn (range_with_len a n) k
IsIn-range a zero k from to = absurd (omega arith)
IsIn-range a (suc n) k from to = by_cases (cases_eq a k) (λ other. IsIn-range (a + 1) n k (omega arith) (omega arith))
  where
    by_cases : (a ≡ k) ⊎ (a ≢ k) → (a ≢ k → IsIn (range_with_len (a + 1) n) k) → (a ≡ k) ⊎ IsIn (range_with_len (a + 1) n) k
    by_cases (inl same) more = inl same
    by_cases (inr other) more = inr (more other)

pub IsIn-filter : (p : ℕ → Bool) (xs : List ℕ) (n : ℕ) → IsIn (filter p xs) n → p n ≡ true
IsIn-filter p [] n here = absurd here
IsIn-filter p (x ∷ xs) n here = by_test (p x) refl (IsIn-filter p xs n) here
  where
    by_test : (b : Bool) → p x ≡ b → (IsIn (filter p xs) n → p n ≡ true) → IsIn (cond b (x ∷ filter p xs) (filter p xs)) n → p n ≡ true
    by_test true is more (inl same) = ap p (sym same) ∙ is
    by_test true is more (inr rest) = more rest
    by_test false is more here = more here

-- the addresses of the runs of a field have those of each of them
addresses_have : (h : HeaderValue) (field : ℕ) (runs : List Run) (r : Run) → IsOneOf runs r → r.field ≡ field → (a : ℕ) → r.first ≤ a → a < end_of h r → IsIn (addresses_of h field runs) a
addresses_have h field [] r here same a from to = absurd here
addresses_have h field (q ∷ runs) r here same a from to =
    by_test (q.field == field) refl here (λ more. addresses_have h field runs r more same a from to)
  where
    rest : List Run
    rest = filter (λ run. run.field == field) runs

    by_test : (b : Bool) → (q.field == field) ≡ b → (q ≡ r) ⊎ IsOneOf runs r → (IsOneOf runs r → IsIn (flat_map (run_addresses h) rest) a) →
        IsIn (flat_map (run_addresses h) (cond b (q ∷ rest) rest)) a
    by_test true is (inl one) more =
        IsIn-front (run_addresses h q) (flat_map (run_addresses h) rest) a (subst (λ x. IsIn (run_addresses h x) a) (sym one) (IsIn-range r.first (run_length h r) a from to))
    by_test true is (inr others) more = IsIn-back (run_addresses h q) (flat_map (run_addresses h) rest) a (more others)
    by_test false is (inl one) more =
        let yes : (q.field == field) ≡ true = eq-eqb q.field field (ap (λ (x : Run). x.field) one ∙ same) in
        let wrong : true ≡ false = sym yes ∙ is in
        absurd (cc)
    by_test false is (inr others) more = more others

-- what a run of a piece has a sample at is the address of a point of the piece
pub address_of_run : (h : HeaderValue) (region : List (ℕ × ℕ)) (file field address : ℕ) (runs : List Run) (r : Run) → AreRunsOf h region file runs → IsOneOf runs r →
    has_sample h field address r ≡ true → has_address h.mask region address ≡ true
address_of_run h region file field address runs r are here has =
    let is = has_is h field address r has in
    let run = one_of (IsRun h file) runs r are.each here in
    let within : field < length h.fields = subst (λ n. n < length h.fields) is.0 run.field in
    IsIn-filter (has_address h.mask region) _ address
    (subst (λ xs. IsIn xs address) (are.addresses field within) (addresses_have h field runs r here is.0 address is.1 is.2))

-- behind a range that rises
cut : (low a n : ℕ) (ys : List ℕ) → RiseFrom low (range_with_len a (suc n) ++ ys) → RiseFrom (a + suc n) ys
cut low a zero ys rise = let at : a + 1 ≡ a + suc 0 = omega arith in subst (λ k. RiseFrom k ys) at rise.1
cut low a (suc n) ys rise =
    let at : a + 1 + suc n ≡ a + suc (suc n) = omega arith in
    subst (λ k. RiseFrom k ys) at (cut (a + 1) (a + 1) n ys rise.1)

rise_of : (h : HeaderValue) (file field low : ℕ) (runs : List Run) → All (IsRun h file) runs → RiseFrom low (addresses_of h field runs) →
    AllByRecursion (λ q. q.field ≡ field → low ≤ q.first) runs × RiseIn h field runs
rise_of h file field low [] all rise = (tt, tt)
rise_of h file field low (q ∷ runs) all rise =
    by_test (q.field == field) refl (λ more above. rise_of h file field more runs (All-tail (IsRun h file) q runs all) above) rise
  where
    rest : List Run
    rest = filter (λ run. run.field == field) runs

    others : List ℕ
    others = flat_map (run_addresses h) rest

    by_test : (b : Bool) → (q.field == field) ≡ b →
        ((more : ℕ) → RiseFrom more others → AllByRecursion (λ x. x.field ≡ field → more ≤ x.first) runs × RiseIn h field runs) →
        RiseFrom low (flat_map (run_addresses h) (cond b (q ∷ rest) rest)) →
        ((q.field ≡ field → low ≤ q.first) × AllByRecursion (λ x. x.field ≡ field → low ≤ x.first) runs)
        × ((q.field ≡ field → AllByRecursion (λ x. x.field ≡ field → end_of h q ≤ x.first) runs) × RiseIn h field runs)
    by_test true is more rise =
        let run = All-head (IsRun h file) q runs all in
        let count : run_length h q ≡ suc (run_length h q - 1) = omega (arith, run.some) in
        let whole : RiseFrom low (range_with_len q.first (suc (run_length h q - 1)) ++ others) = subst (λ n. RiseFrom low (range_with_len q.first n ++ others)) count rise in
        let at : q.first + suc (run_length h q - 1) ≡ end_of h q = omega (arith, run.some) in
        let next = more (end_of h q) (subst (λ k. RiseFrom k others) at (cut low q.first (run_length h q - 1) others whole)) in
        let first : low ≤ q.first = whole.0 in
        let lower = AllByRecursion-weaker (λ (x : Run). x.field ≡ field → end_of h q ≤ x.first) (λ x. x.field ≡ field → low ≤ x.first)
        (λ x above same. let far : end_of h q ≤ x.first = above same in omega arith) runs next.0 in
        (((λ _. first), lower), ((λ _. next.0), next.1))
    by_test false is more rise =
        let next = more low rise in
        let gone : q.field ≡ field → ⊥ = λ same. (let wrong : true ≡ false = sym (eq-eqb q.field field same) ∙ is in cc) in
        (((λ same. absurd (gone same)), next.0), ((λ same. absurd (gone same)), next.1))

rise_none : (h : HeaderValue) (file field : ℕ) (runs : List Run) → All (IsRun h file) runs → length h.fields ≤ field → RiseIn h field runs
rise_none h file field [] all past = tt
rise_none h file field (q ∷ runs) all past =
    ((λ same. absurd (omega (arith, (All-head (IsRun h file) q runs all).field))), rise_none h file field runs (All-tail (IsRun h file) q runs all) past)

-- the runs of a piece rise
pub piece_rises : (h : HeaderValue) (region : List (ℕ × ℕ)) (file : ℕ) (runs : List Run) → AreRunsOf h region file runs → (field : ℕ) → RiseIn h field runs
piece_rises h region file runs are field = by_cases (cases_lt field (length h.fields))
  where
    by_cases : (field < length h.fields) ⊎ (length h.fields ≤ field) → RiseIn h field runs
    by_cases (inl within) =
        let low : ℕ = file * 2 ^ h.block_bits in
        (rise_of h file field low runs are.each
        (subst (RiseFrom low) (sym (are.addresses field within)) (RiseFrom-filter (has_address h.mask region) low (h.blocks_per_file * 2 ^ h.block_bits)))).1
    by_cases (inr past) = rise_none h file field runs are.each past

all_of : (P : Run → Type 0) (runs : List Run) (r : Run) → AllByRecursion P runs → IsOneOf runs r → P r
all_of P [] r all here = absurd here
all_of P (q ∷ runs) r all (inl same) = subst P same all.0
all_of P (q ∷ runs) r all (inr more) = all_of P runs r all.1 more

-- of rising runs one has a sample at an address
one_has : (h : HeaderValue) (field address : ℕ) (runs : List Run) → RiseIn h field runs → (q r : Run) → IsOneOf runs q → IsOneOf runs r →
    has_sample h field address q ≡ true → has_sample h field address r ≡ true → q ≡ r
one_has h field address [] rise q r one other has_q has_r = absurd one
one_has h field address (x ∷ runs) rise q r one other has_q has_r =
    by_cases one other (λ a b. one_has h field address runs rise.1 q r a b has_q has_r)
  where
    clash : (a b : Run) → x ≡ a → IsOneOf runs b → has_sample h field address a ≡ true → has_sample h field address b ≡ true → ⊥
    clash a b same more has_a has_b =
        let is_a = has_is h field address a has_a in
        let is_b = has_is h field address b has_b in
        let behind = all_of (λ z. z.field ≡ field → end_of h x ≤ z.first) runs b (rise.0 (ap (λ (y : Run). y.field) same ∙ is_a.0)) more in
        let far : end_of h x ≤ b.first = behind is_b.0 in
        let ends : end_of h x ≡ end_of h a = ap (end_of h) same in
        omega (arith, is_a.2, is_b.1)

    by_cases : (x ≡ q) ⊎ IsOneOf runs q → (x ≡ r) ⊎ IsOneOf runs r → (IsOneOf runs q → IsOneOf runs r → q ≡ r) → q ≡ r
    by_cases (inl a) (inl b) more = sym a ∙ b
    by_cases (inl a) (inr b) more = absurd (clash q r a b has_q has_r)
    by_cases (inr a) (inl b) more = absurd (clash r q b a has_r has_q)
    by_cases (inr a) (inr b) more = more a b

length-range : (a n : ℕ) → length (range_with_len a n) ≡ n
length-range a zero = refl
length-range a (suc n) = ap suc (length-range (a + 1) n)

get_or-range : (a n k : ℕ) → k < n → get_or (range_with_len a n) k 0 ≡ a + k
get_or-range a zero k within = absurd (omega arith)
get_or-range a (suc n) zero within = omega arith
get_or-range a (suc n) (suc k) within = get_or-range (a + 1) n k (omega arith) ∙ omega arith

-- the bounds of the points with the same digits in front, on each axis
front_length : (mask : List ℕ) (e id axes : ℕ) → length (map (front_bounds mask e id) (range_with_len 0 axes)) ≡ axes
front_length mask e id axes = length-map (range_with_len 0 axes) (front_bounds mask e id) ∙ length-range 0 axes

front_at : (mask : List ℕ) (e id axes axis : ℕ) → axis < axes → get_or (map (front_bounds mask e id) (range_with_len 0 axes)) axis (0, 0) ≡ front_bounds mask e id axis
front_at mask e id axes axis within =
    let inside : axis < length (range_with_len 0 axes) = subst (λ n. axis < n) (sym (length-range 0 axes)) within in
    let at : get_or (range_with_len 0 axes) axis 0 ≡ axis = get_or-range 0 axes axis within ∙ omega arith in
    get_or-map (front_bounds mask e id) (range_with_len 0 axes) axis 0 (0, 0) inside ∙ ap (front_bounds mask e id) at

-- the lowest point of a piece
corner_of : (mask : List ℕ) (axes e id : ℕ) → NamesAxes mask axes → e ≤ length mask → id < 2 ^ (length mask - e) → IsCorner mask (point_at mask axes (id * 2 ^ e)) (length mask - e) id
corner_of mask axes e id named within small =
    let digits : ℕ = length mask - e in
    let rest : length mask - digits ≡ e = omega arith in
    let all : digits + e ≡ length mask = omega arith in
    let power : 2 ^ digits * 2 ^ e ≡ 2 ^ length mask = sym (pow-add 2 digits e) ∙ ap (λ n. 2 ^ n) all in
    let le : id + 1 ≤ 2 ^ digits = omega arith in
    let product : (id + 1) * 2 ^ e ≤ 2 ^ digits * 2 ^ e = mul-le-mul_right (2 ^ e) le in
    let below : id * 2 ^ e < 2 ^ length mask = omega (arith, product, power, pow_pos e) in
    let is = IsPointOf-point_at mask axes (id * 2 ^ e) named below in
    record {
      has = is.below;
      fits = omega arith;
      small = small;
      address = is.address ∙ ap (λ n. id * 2 ^ n) (sym rest);
    }

-- the points of a piece are of it
pub piece_of_point : (h : HeaderValue) (e id : ℕ) (p : List ℕ) → IsHeader h → e ≤ length h.mask → id < 2 ^ (length h.mask - e) → LiesIn (piece_region h.mask h.box e id) p →
    LiesIn h.box p × (piece_of h.mask e p ≡ id)
piece_of_point h e id p is within small lies =
    let mask : List ℕ = h.mask in
    let axes : ℕ = length h.box in
    let digits : ℕ = length mask - e in
    let bounds : List (ℕ × ℕ) = map (front_bounds mask e id) (range_with_len 0 axes) in
    let both = both_from_common_bounds h.box bounds p (sym (front_length mask e id axes)) lies in
    let size : length p ≡ axes = length_from_LiesIn h.box p both.0 in
    let has : HasAddress mask p = HasAddress-from_end mask h.box p is.covered both.0 in
    let rest : length mask - digits ≡ e = omega arith in
    let named : NamesAxes mask axes = subst (NamesAxes mask) size has.named in
    let z : ℕ = id * 2 ^ e in
    let corner = corner_of mask axes e id named within small in
    let strides : EachIndex p (λ axis. slice_index p axis / stride mask digits axis ≡ coordinate_at (take digits mask) axis id) = λ axis inside.
    (let on : axis < axes = omega arith in
    let on_point : axis < length (point_at mask axes z) = subst (λ n. axis < n) (sym (length-point_at mask axes z)) on in
    let low : get_or (point_at mask axes z) axis 0 ≡ coordinate_at mask axis z = get_or-point_at mask axes z axis on in
    let in_bounds : axis < length bounds = subst (λ n. axis < n) (sym (front_length mask e id axes)) on in
    let between = subst (λ (b : ℕ × ℕ). (b.0 ≤ get_or p axis 0) × (get_or p axis 0 ≤ b.1)) (front_at mask e id axes axis on) (LiesIn-at_axis bounds p both.1 axis in_bounds) in
    let whole : coordinate_at mask axis z % stride mask digits axis ≡ 0 = subst (λ n. n % stride mask digits axis ≡ 0) low (corner_multiple mask (point_at mask axes z) digits id corner axis on_point) in
    let quotient : coordinate_at mask axis z / stride mask digits axis ≡ coordinate_at (take digits mask) axis id =
    subst (λ n. n / stride mask digits axis ≡ coordinate_at (take digits mask) axis id) low (corner_quotient mask (point_at mask axes z) digits id corner axis on_point) in
    (between_iff (stride mask digits axis) (coordinate_at mask axis z) (get_or p axis 0) (pow_pos (bit_count axis (drop digits mask))) whole).0 between ∙ quotient) in
    (both.0, ap (λ n. z_address mask p / 2 ^ n) (sym rest) ∙ (prefix_iff_strides mask p digits id has (omega arith) small).1 strides)

-- and each point of the box is one of its piece
pub point_of_piece : (h : HeaderValue) (e : ℕ) (p : List ℕ) → IsHeader h → e ≤ length h.mask → piece_of h.mask e p < 2 ^ (length h.mask - e) → LiesIn h.box p →
    LiesIn (piece_region h.mask h.box e (piece_of h.mask e p)) p
point_of_piece h e p is within small lies =
    let mask : List ℕ = h.mask in
    let axes : ℕ = length h.box in
    let digits : ℕ = length mask - e in
    let id : ℕ = piece_of mask e p in
    let bounds : List (ℕ × ℕ) = map (front_bounds mask e id) (range_with_len 0 axes) in
    let size : length p ≡ axes = length_from_LiesIn h.box p lies in
    let has : HasAddress mask p = HasAddress-from_end mask h.box p is.covered lies in
    let rest : length mask - digits ≡ e = omega arith in
    let named : NamesAxes mask axes = subst (NamesAxes mask) size has.named in
    let z : ℕ = id * 2 ^ e in
    let corner = corner_of mask axes e id named within small in
    let strides = (prefix_iff_strides mask p digits id has (omega arith) small).0 (ap (λ n. z_address mask p / 2 ^ n) rest) in
    let count : length bounds ≡ axes = front_length mask e id axes in
    LiesIn-common_bounds h.box bounds p lies (LiesIn-from_axes bounds p (size ∙ sym count) (λ axis inside.
    (let on : axis < axes = omega arith in
    let on_point : axis < length (point_at mask axes z) = subst (λ n. axis < n) (sym (length-point_at mask axes z)) on in
    let low : get_or (point_at mask axes z) axis 0 ≡ coordinate_at mask axis z = get_or-point_at mask axes z axis on in
    let whole : coordinate_at mask axis z % stride mask digits axis ≡ 0 = subst (λ n. n % stride mask digits axis ≡ 0) low (corner_multiple mask (point_at mask axes z) digits id corner axis on_point) in
    let quotient : coordinate_at mask axis z / stride mask digits axis ≡ coordinate_at (take digits mask) axis id =
    subst (λ n. n / stride mask digits axis ≡ coordinate_at (take digits mask) axis id) low (corner_quotient mask (point_at mask axes z) digits id corner axis on_point) in
    let between = (between_iff (stride mask digits axis) (coordinate_at mask axis z) (get_or p axis 0) (pow_pos (bit_count axis (drop digits mask))) whole).1 (strides axis (omega arith) ∙ sym quotient) in
    subst (λ (b : ℕ × ℕ). (b.0 ≤ get_or p axis 0) × (get_or p axis 0 ≤ b.1)) (sym (front_at mask e id axes axis on)) between)))

-- the pieces of a list are those of rising ids
abbrev pub Divided : HeaderValue → ℕ → ℕ → List Awaited → Type 0
Divided h e low [] = Unit {0}
Divided h e low (a ∷ others) =
    (low ≤ a.piece) × (a.piece < 2 ^ (length h.mask - e)) × (a.region ≡ piece_region h.mask h.box e a.piece) × Divided h e (a.piece + 1) others

Divided-lower : (h : HeaderValue) (e low more : ℕ) (awaited : List Awaited) → low ≤ more → Divided h e more awaited → Divided h e low awaited
Divided-lower h e low more [] le divided = tt
Divided-lower h e low more (a ∷ others) le divided = (omega (arith, divided.0), divided.1, divided.2, divided.3)

pub head_is : (a b : Awaited) (others rest : List Awaited) → undelivered a ∷ others ≡ b ∷ rest → (a.piece ≡ b.piece) × (a.region ≡ b.region) × (others ≡ rest)
head_is a b others rest same = (cc, cc, cc)

pub divided_of : (h : HeaderValue) (e n file low : ℕ) (ids : List ℕ) (awaited : List Awaited) → RiseFrom low ids → AllByRecursion (λ id. id < 2 ^ (length h.mask - e)) ids →
    map undelivered awaited ≡ map awaited_of (reaching h file (map (piece_at h e n) ids)) → Divided h e low awaited
divided_of h e n file low [] [] rise small same = tt
divided_of h e n file low [] (a ∷ others) rise small same = let wrong : undelivered a ∷ map undelivered others ≡ [] = same in absurd (cc)
divided_of h e n file low (id ∷ ids) awaited rise small same =
    by_test (reaches h (piece_region h.mask h.box e id) file) awaited (λ others is. divided_of h e n file (id + 1) ids others rise.1 small.1 is) same
  where
    rest : List Piece
    rest = reaching h file (map (piece_at h e n) ids)

    by_test : (b : Bool) (awaited : List Awaited) → ((others : List Awaited) → map undelivered others ≡ map awaited_of rest → Divided h e (id + 1) others) →
        map undelivered awaited ≡ map awaited_of (cond b (piece_at h e n id ∷ rest) rest) → Divided h e low awaited
    by_test true [] more same = let wrong : [] ≡ awaited_of (piece_at h e n id) ∷ map awaited_of rest = same in absurd (cc)
    by_test true (a ∷ others) more same =
        let parts = head_is a (awaited_of (piece_at h e n id)) (map undelivered others) (map awaited_of rest) same in (
          subst (λ k. low ≤ k) (sym parts.0) rise.0,
          subst (λ k. k < 2 ^ (length h.mask - e)) (sym parts.0) small.0,
          parts.1 ∙ ap (piece_region h.mask h.box e) (sym parts.0),
          subst (λ k. Divided h e (k + 1) others) (sym parts.0) (more others parts.2),
        )
    by_test false awaited more same = Divided-lower h e low (id + 1) awaited (omega (arith, rise.0)) (more awaited same)

-- no address is that of points of two pieces
pieces_apart : (h : HeaderValue) (e id other address : ℕ) → IsHeader h → e ≤ length h.mask → id < 2 ^ (length h.mask - e) → other < 2 ^ (length h.mask - e) → id < other →
    has_address h.mask (piece_region h.mask h.box e id) address ≡ true → has_address h.mask (piece_region h.mask h.box e other) address ≡ true → ⊥
pieces_apart h e id other address is within small_id small_other less one two =
    let p = point_found (piece_region h.mask h.box e id) (λ p. hz_address h.mask p == address) one in
    let q = point_found (piece_region h.mask h.box e other) (λ p. hz_address h.mask p == address) two in
    let of_p = piece_of_point h e id p.0 is within small_id p.1 in
    let of_q = piece_of_point h e other q.0 is within small_other q.1 in
    let same_address : hz_address h.mask p.0 ≡ hz_address h.mask q.0 = eqb-true (hz_address h.mask p.0) address p.2 ∙ sym (eqb-true (hz_address h.mask q.0) address q.2) in
    let same : p.0 ≡ q.0 = hz_address-injective h.mask p.0 q.0 (HasAddress-from_end h.mask h.box p.0 is.covered of_p.0) (HasAddress-from_end h.mask h.box q.0 is.covered of_q.0)
    (length_from_LiesIn h.box p.0 of_p.0 ∙ sym (length_from_LiesIn h.box q.0 of_q.0)) same_address in
    let ids : id ≡ other = sym of_p.1 ∙ ap (piece_of h.mask e) same ∙ of_q.1 in
    omega arith

-- what each piece has of a dock
abbrev pub AreTheirs : HeaderValue → ℕ → List Awaited → Type 0
AreTheirs h file awaited = All (λ a. ForSome a.runs (AreRunsOf h a.region file)) awaited

pub run_is : (h : HeaderValue) (file field address : ℕ) (a : Awaited) (r : Run) → ForSome a.runs (AreRunsOf h a.region file) → IsOneOf (runs_of a) r → has_sample h field address r ≡ true →
    has_address h.mask a.region address ≡ true
run_is h file field address a r are here has = by_runs a.runs are here
  where
    by_runs : (o : Option (List Run)) → ForSome o (AreRunsOf h a.region file) → IsOneOf (unwrap_or o []) r → has_address h.mask a.region address ≡ true
    by_runs None are here = absurd here
    by_runs (Some runs) are here = address_of_run h a.region file field address runs r (are runs refl) here has

-- a run of a later piece has no sample at an address of an earlier one
later_apart : (h : HeaderValue) (e low file field address : ℕ) (awaited : List Awaited) (a : Awaited) (r : Run) → IsHeader h → e ≤ length h.mask → a.piece < low →
    a.piece < 2 ^ (length h.mask - e) → a.region ≡ piece_region h.mask h.box e a.piece → Divided h e low awaited → AreTheirs h file awaited → IsOneOf (runs_in awaited) r →
    has_address h.mask a.region address ≡ true → has_sample h field address r ≡ true → ⊥
later_apart h e low file field address [] a r is within less small region divided are here one has = absurd here
later_apart h e low file field address (b ∷ others) a r is within less small region divided are here one has =
    by_place (λ more. later_apart h e (b.piece + 1) file field address others a r is within (omega (arith, divided.0)) small region divided.3
    (All-tail (λ a. ForSome a.runs (AreRunsOf h a.region file)) b others are) more one has)
    (IsOneOf-split (runs_of b) (runs_in others) r here)
  where
    by_place : (IsOneOf (runs_in others) r → ⊥) → IsOneOf (runs_of b) r ⊎ IsOneOf (runs_in others) r → ⊥
    by_place more (inl front) =
        let two = run_is h file field address b r (All-head (λ a. ForSome a.runs (AreRunsOf h a.region file)) b others are) front has in
        pieces_apart h e a.piece b.piece address is within small divided.1 (omega (arith, divided.0))
        (subst (λ region. has_address h.mask region address ≡ true) region one) (subst (λ region. has_address h.mask region address ≡ true) divided.2 two)
    by_place more (inr back) = more back

rises : (h : HeaderValue) (file field : ℕ) (a : Awaited) → ForSome a.runs (AreRunsOf h a.region file) → RiseIn h field (runs_of a)
rises h file field a are = by_runs a.runs are
  where
    by_runs : (o : Option (List Run)) → ForSome o (AreRunsOf h a.region file) → RiseIn h field (unwrap_or o [])
    by_runs None are = tt
    by_runs (Some runs) are = piece_rises h a.region file runs (are runs refl) field

runs_are : (h : HeaderValue) (file : ℕ) (a : Awaited) → ForSome a.runs (AreRunsOf h a.region file) → All (IsRun h file) (runs_of a)
runs_are h file a are = by_runs a.runs are
  where
    by_runs : (o : Option (List Run)) → ForSome o (AreRunsOf h a.region file) → All (IsRun h file) (unwrap_or o [])
    by_runs None are = All-nil (IsRun h file)
    by_runs (Some runs) are = (are runs refl).each

apart_of : (h : HeaderValue) (e low file : ℕ) (awaited : List Awaited) → IsHeader h → e ≤ length h.mask → Divided h e low awaited → AreTheirs h file awaited → AreApart h (runs_in awaited)
apart_of h e low file [] is within divided are field address q r one other has_q has_r = absurd one
apart_of h e low file (a ∷ others) is within divided are field address q r one other has_q has_r =
    by_places (λ x y. apart_of h e (a.piece + 1) file others is within divided.3 (All-tail P a others are) field address q r x y has_q has_r)
    (IsOneOf-split (runs_of a) (runs_in others) q one) (IsOneOf-split (runs_of a) (runs_in others) r other)
  where
    P : Awaited → Type 0
    P a = ForSome a.runs (AreRunsOf h a.region file)

    clash : (x y : Run) → IsOneOf (runs_of a) x → IsOneOf (runs_in others) y → has_sample h field address x ≡ true → has_sample h field address y ≡ true → ⊥
    clash x y front back has_x has_y =
        later_apart h e (a.piece + 1) file field address others a y is within (omega arith) divided.1 divided.2 divided.3 (All-tail P a others are) back
        (run_is h file field address a x (All-head P a others are) front has_x) has_y

    by_places : (IsOneOf (runs_in others) q → IsOneOf (runs_in others) r → q ≡ r) → IsOneOf (runs_of a) q ⊎ IsOneOf (runs_in others) q → IsOneOf (runs_of a) r ⊎ IsOneOf (runs_in others) r → q ≡ r
    by_places more (inl x) (inl y) = one_has h field address (runs_of a) (rises h file field a (All-head P a others are)) q r x y has_q has_r
    by_places more (inl x) (inr y) = absurd (clash q r x y has_q has_r)
    by_places more (inr x) (inl y) = absurd (clash r q y x has_r has_q)
    by_places more (inr x) (inr y) = more x y

pub below_of : (p : ℕ → Bool) (a n m : ℕ) → a + n ≤ m → AllByRecursion (λ id. id < m) (filter p (range_with_len a n))
below_of p a zero m le = tt
below_of p a (suc n) m le = by_test (p a) (below_of p (a + 1) n m (omega arith))
  where
    rest : List ℕ
    rest = filter p (range_with_len (a + 1) n)

    by_test : (b : Bool) → AllByRecursion (λ id. id < m) rest → AllByRecursion (λ id. id < m) (cond b (a ∷ rest) rest)
    by_test true more = (omega arith, more)
    by_test false more = more

All-by : {X : Type 0} (P Q : X → Type 0) → ((x : X) → P x → Q x) → (xs : List X) → All P xs → All Q xs
All-by P Q f [] all = All-nil Q
All-by P Q f (x ∷ xs) all = All-cons Q x xs (f x (All-head P x xs all)) (All-by P Q f xs (All-tail P x xs all))

-- the awaited pieces of a dock are those of rising ids
dock_divided : (d : DockValue) (is : IsDock d) → Divided d.header is.division.e 0 d.awaited
dock_divided d is =
    let h : HeaderValue = d.header in
    let e : ℕ = is.division.e in
    let ids : List ℕ = filter (has_piece h.mask h.box e) (range_with_len 0 (2 ^ (length h.mask - e))) in
    let same : map undelivered d.awaited ≡ map awaited_of (reaching h d.file (map (piece_at h e is.division.ranks) ids)) =
    is.awaited ∙ ap (λ pieces. map awaited_of (reaching h d.file pieces)) is.division.is in
    divided_of h e is.division.ranks d.file 0 ids d.awaited (RiseFrom-filter (has_piece h.mask h.box e) 0 (2 ^ (length h.mask - e)))
    (below_of (has_piece h.mask h.box e) 0 (2 ^ (length h.mask - e)) (2 ^ (length h.mask - e)) (omega arith)) same

-- each dock can be written
pub dock_writable : (d : DockValue) → IsDock d → AreWritable d.header d.file d.awaited
dock_writable d is =
    let h : HeaderValue = d.header in
    record {
      header = is.header;
      exists = is.exists;
      runs = All-by (λ a. ForSome a.runs (AreRunsOf h a.region d.file)) (λ a. All (IsRun h d.file) (runs_of a)) (λ a are. runs_are h d.file a are) d.awaited is.runs;
      rising = All-by (λ a. ForSome a.runs (AreRunsOf h a.region d.file)) (λ a. (field : ℕ) → RiseIn h field (runs_of a)) (λ a are field. rises h d.file field a are) d.awaited is.runs;
      apart = apart_of h is.division.e 0 d.file d.awaited is.header is.division.within (dock_divided d is) is.runs;
    }

-- what a run of pieces has a sample at is the address of a point of the box
point_among : (h : HeaderValue) (e low file field address : ℕ) (awaited : List Awaited) (r : Run) → IsHeader h → e ≤ length h.mask → Divided h e low awaited → AreTheirs h file awaited →
    IsOneOf (runs_in awaited) r → has_sample h field address r ≡ true → (p : List ℕ) × LiesIn h.box p × (hz_address h.mask p ≡ address)
point_among h e low file field address [] r is within divided are here has = absurd here
point_among h e low file field address (a ∷ others) r is within divided are here has =
    by_place (λ more. point_among h e (a.piece + 1) file field address others r is within divided.3 (All-tail P a others are) more has)
    (IsOneOf-split (runs_of a) (runs_in others) r here)
  where
    P : Awaited → Type 0
    P a = ForSome a.runs (AreRunsOf h a.region file)

    by_place : (IsOneOf (runs_in others) r → (p : List ℕ) × LiesIn h.box p × (hz_address h.mask p ≡ address)) → IsOneOf (runs_of a) r ⊎ IsOneOf (runs_in others) r →
        (p : List ℕ) × LiesIn h.box p × (hz_address h.mask p ≡ address)
    by_place more (inl front) =
        let some = run_is h file field address a r (All-head P a others are) front has in
        let p = point_found a.region (λ p. hz_address h.mask p == address) some in
        (p.0, (piece_of_point h e a.piece p.0 is within divided.1 (subst (λ region. LiesIn region p.0) divided.2 p.1)).0, eqb-true (hz_address h.mask p.0) address p.2)
    by_place more (inr back) = more back

-- so it is of the runs of a dock
pub run_point : (d : DockValue) → IsDock d → (field address : ℕ) (r : Run) → IsOneOf (runs_in d.awaited) r → has_sample d.header field address r ≡ true →
    (p : List ℕ) × LiesIn d.header.box p × (hz_address d.header.mask p ≡ address)
run_point d is field address r here has =
    point_among d.header is.division.e 0 d.file field address d.awaited r is.header is.division.within (dock_divided d is) is.runs here has
