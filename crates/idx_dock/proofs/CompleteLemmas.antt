-- A dock to which all is delivered writes the file of the volume whose samples came.
use Rattle.std.proofs.Common.{◌≡◌, ◌≢◌, ℕ, zero, suc, ◌+◌, ◌-◌, ◌*◌, ◌/◌, ◌%◌, ◌^◌, ◌<◌, ◌≤◌, Bool, true, false, cond, List, [], ◌∷◌, ◌++◌, length, get_or, take, drop, map, not, refl, sym, ap, ◌∙◌, subst, arith, inl, inr, Option, Some, None, eqb-true, eq-eqb}
use Rattle.std.specs.Prelude.{◌⊎◌, ◌==◌, ◌||◌, All, filter, find, replicate}
use Rattle.std.specs.List.{AllByRecursion, flat_map, list_any, range_with_len, zip, slice_index_or}
use Rattle.std.specs.Option.{ForSome, is_some, option_map, option_map_or, unwrap_or}
use Rattle.std.proofs.lemmas.Nat.{pow_pos, shr_below}
use Rattle.std.proofs.lemmas.List.{length-replicate, get_or-map, length-map, take-append-le}
use Rattle.std.proofs.lemmas.List.Elements.{All-cons, All-get_or, All-head, All-nil, All-tail}
use Rattle.idx_geom.specs.Region.{LiesIn, place_of, points}
use Rattle.idx_geom.specs.Volume.{IsVolume}
use Rattle.idx_hz.specs.Address.{hz_address, z_address}
use Rattle.idx_header.specs.Header.{HeaderValue, sample_bytes_of}
use Rattle.idx_fields.specs.Field.{field_at, sample_bytes}
use Rattle.idx_layout.specs.Placing.{block_of_samples, has_point_in, is_present, present_blocks, stored_sample}
use Rattle.idx_layout.specs.Layout.{arranged}
use Rattle.idx_layout.specs.Files.{block_in_file, blocks_of_file, file_bytes}
use Rattle.idx_layout.specs.OfHeader.{placing_of}
use Rattle.idx_rowmajor.specs.declared.layout.Layout.{Layout}
use Rattle.idx_rowmajor.specs.declared.layout.Layout.TheVariants.{Hz}
use Rattle.idx_layout.proofs.PresentLemmas.{any_point, point_found}
use Rattle.idx_pieces.specs.Runs.{AreRunsOf, HasSamples, run_addresses, run_length, sample_at_address}
use Rattle.idx_pieces.specs.declared.run.Run.{Run}
use Rattle.idx_dock.specs.declared.awaited.Awaited.{Awaited}
use Rattle.idx_dock.specs.Content.{block_among, dock_bytes, dock_bytes_as, field_among, fields_among, has_sample, run_sample, runs_in, sample_among, stored_among}
use Rattle.idx_dock.specs.Dock.{DockValue, IsDock, missing}
use Rattle.idx_dock.specs.Next.{IsOneOf}
use Rattle.std.specs.List.{position_or_len}
use Rattle.std.proofs.Math.Nat.{mod-add-div', mod-lt, mul-le-mul_right}
use Rattle.std.proofs.Math.Seq.{drop-append-add, take-length}
use Rattle.std.proofs.lemmas.Nat.{div-mul-add}
use Rattle.std.proofs.lemmas.Bool.{cases_eq}
use Rattle.std.proofs.lemmas.List.Folds.{find_at}
use Rattle.idx_geom.proofs.PointsLemmas.{LiesIn-slice_get, length-points, place_of-lt}
use Rattle.idx_hz.proofs.ZLemmas.{z_address-lt}
use Rattle.idx_table.specs.Row.{row_bytes, row_length}
use Rattle.idx_layout.specs.Placing.{Placing}
use Rattle.idx_layout.specs.Files.{rows_of_file}
use Rattle.idx_pieces.specs.Pieces.{has_piece, piece_at, piece_of, piece_region}
use Rattle.idx_pieces.specs.Runs.{addresses_of, file_addresses, has_address}
use Rattle.idx_pieces.specs.declared.piece.Piece.{Piece}
use Rattle.idx_dock.specs.Content.{sample_of}
use Rattle.idx_dock.specs.Dock.{awaited_of, delivered, reaches, reaching, undelivered, with_runs}
use Rattle.idx_dock.specs.Next.{runs_of}
use Rattle.idx_dock.proofs.NextLemmas.{IsOneOf-back, IsOneOf-front}
use Rattle.idx_dock.proofs.ApartLemmas.{IsIn, IsIn-range, dock_writable, head_is, point_of_piece}
use Rattle.idx_dock.proofs.WriteLemmas.{flat_map-range, has_from, has_is, sample_run}

-- some run has a sample, or none has
pub find_run : (test : Run → Bool) (runs : List Run) → ((r : Run) × IsOneOf runs r × (test r ≡ true)) ⊎ (find test runs ≡ None)
find_run test [] = inr refl
find_run test (r ∷ runs) = by_test (test r) refl (find_run test runs)
  where
    by_test : (b : Bool) → test r ≡ b → ((q : Run) × IsOneOf runs q × (test q ≡ true)) ⊎ (find test runs ≡ None) →
        ((q : Run) × IsOneOf (r ∷ runs) q × (test q ≡ true)) ⊎ (cond (test r) (Some r) (find test runs) ≡ None)
    by_test true is rest = inl (r, inl refl, is)
    by_test false is (inl found) = inl (found.0, inr found.1, found.2)
    by_test false is (inr none) = inr (ap (λ b. cond b (Some r) (find test runs)) is ∙ none)

pub find-unfound : {X : Type 0} (test : X → Bool) (ps : List X) → list_any test ps ≡ false → find test ps ≡ None
find-unfound test [] none = refl
find-unfound {X = X} test (p ∷ ps) none = by_test (test p) refl (λ more. find-unfound test ps more) none
  where
    by_test : (b : Bool) → test p ≡ b → (list_any test ps ≡ false → find test ps ≡ None) → (test p || list_any test ps) ≡ false → cond (test p) (Some p) (find test ps) ≡ None
    by_test true is more none = let wrong : true ≡ false = sym (ap (λ b. b || list_any test ps) is) ∙ none in absurd (cc)
    by_test false is more none = ap (λ b. cond b (Some p) (find test ps)) is ∙ more (sym (ap (λ b. b || list_any test ps) is) ∙ none)

-- the sample of an address among those of a range
pub sample_of_range : (f : ℕ → List ℕ) (size first n a : ℕ) → ((k : ℕ) → length (f k) ≡ size) → first ≤ a → a < first + n →
    take size (drop (size * (a - first)) (flat_map f (range_with_len first n))) ≡ f a
sample_of_range f size first zero a sizes from to = absurd (omega arith)
sample_of_range f size first (suc n) a sizes from to = by_cases (cases_at (a - first)) (λ later. sample_of_range f size (first + 1) n a sizes later (omega arith))
  where
    rest : List ℕ
    rest = flat_map f (range_with_len (first + 1) n)

    cases_at : (k : ℕ) → (k ≡ 0) ⊎ ((j : ℕ) × (k ≡ suc j))
    cases_at zero = inl refl
    cases_at (suc j) = inr (j, refl)

    by_cases : (a - first ≡ 0) ⊎ ((j : ℕ) × (a - first ≡ suc j)) → (first + 1 ≤ a → take size (drop (size * (a - (first + 1))) rest) ≡ f a) →
        take size (drop (size * (a - first)) (f first ++ rest)) ≡ f a
    by_cases (inl here) more =
        let none : size * (a - first) ≡ 0 = ap (λ k. size * k) here ∙ omega arith in
        let at : first ≡ a = omega arith in
        ap (λ k. take size (drop k (f first ++ rest))) none
        ∙ ap (λ k. take k (f first ++ rest)) (sym (sizes first)) ∙ take-append-le (length (f first)) (f first) rest (omega arith) ∙ take-length (f first) ∙ ap f at
    by_cases (inr later) more =
        let step : a - first ≡ 1 + (a - (first + 1)) = omega (arith, later.1) in
        let skipped : size * (a - first) ≡ length (f first) + size * (a - (first + 1)) = ap (λ k. size * k) step ∙ omega (arith, sizes first) in
        ap (λ k. take size (drop k (f first ++ rest))) skipped
        ∙ ap (take size) (drop-append-add (f first) rest (size * (a - (first + 1))))
        ∙ more (omega (arith, later.1))

-- each sample of a volume has its field's size
pub volume_sample : (sizes : List ℕ) (n field k : ℕ) (volume : List (List (List ℕ))) → IsVolume sizes n volume → field < length sizes → k < n →
    length (slice_index_or (slice_index_or volume field []) k []) ≡ get_or sizes field 0
volume_sample [] n field k volume is within inside = absurd (omega arith)
volume_sample (size ∷ sizes) n field k [] is within inside = absurd is
volume_sample (size ∷ sizes) n zero k (samples ∷ volume) is within inside =
    All-get_or (λ sample. length sample ≡ size) samples k [] (omega (arith, is.0)) is.1
volume_sample (size ∷ sizes) n (suc field) k (samples ∷ volume) is within inside = volume_sample sizes n field k volume is.2 (omega arith) inside

IsIn-split : (xs ys : List ℕ) (n : ℕ) → IsIn (xs ++ ys) n → IsIn xs n ⊎ IsIn ys n
IsIn-split [] ys n here = inr here
IsIn-split (x ∷ xs) ys n (inl same) = inl (inl same)
IsIn-split (x ∷ xs) ys n (inr more) = elim (IsIn-split xs ys n more) [ inl front ↦ inl (inr front) | inr back ↦ inr back ]

IsIn-bounds : (a n k : ℕ) → IsIn (range_with_len a n) k → (a ≤ k) × (k < a + n)
IsIn-bounds a zero k here = absurd here
IsIn-bounds a (suc n) k (inl same) = (omega arith, omega arith)
IsIn-bounds a (suc n) k (inr more) = let rest = IsIn-bounds (a + 1) n k more in (omega (arith, rest.0), omega (arith, rest.1))

pub IsIn-passes : (p : ℕ → Bool) (xs : List ℕ) (n : ℕ) → IsIn xs n → p n ≡ true → IsIn (filter p xs) n
IsIn-passes p [] n here sure = absurd here
IsIn-passes p (x ∷ xs) n here sure = by_test (p x) refl here (λ more. IsIn-passes p xs n more sure)
  where
    by_test : (b : Bool) → p x ≡ b → (x ≡ n) ⊎ IsIn xs n → (IsIn xs n → IsIn (filter p xs) n) → IsIn (cond b (x ∷ filter p xs) (filter p xs)) n
    by_test true is (inl same) more = inl same
    by_test true is (inr rest) more = inr (more rest)
    by_test false is (inl same) more = let wrong : true ≡ false = sym sure ∙ sym (ap p same) ∙ is in absurd (cc)
    by_test false is (inr rest) more = more rest

-- an address of the runs of a field is one of which a run has a sample
pub run_with : (h : HeaderValue) (field a : ℕ) (runs : List Run) → IsIn (addresses_of h field runs) a → (r : Run) × IsOneOf runs r × (has_sample h field a r ≡ true)
run_with h field a [] here = absurd here
run_with h field a (q ∷ runs) here = by_test (q.field == field) refl (λ more. run_with h field a runs more) here
  where
    rest : List Run
    rest = filter (λ run. run.field == field) runs

    by_test : (b : Bool) → (q.field == field) ≡ b → (IsIn (flat_map (run_addresses h) rest) a → (r : Run) × IsOneOf runs r × (has_sample h field a r ≡ true)) →
        IsIn (flat_map (run_addresses h) (cond b (q ∷ rest) rest)) a → (r : Run) × IsOneOf (q ∷ runs) r × (has_sample h field a r ≡ true)
    by_test true is more here =
        elim (IsIn-split (run_addresses h q) (flat_map (run_addresses h) rest) a here) [
          | inl front ↦ let at = IsIn-bounds q.first (run_length h q) a front in (q, inl refl, has_from h field a q (eqb-true q.field field is) at.0 at.1)
          | inr back ↦ let found = more back in (found.0, inr found.1, found.2)
        ]
    by_test false is more here = let found = more here in (found.0, inr found.1, found.2)

pub any_range : (test : ℕ → Bool) (a n k : ℕ) → a ≤ k → k < a + n → test k ≡ true → list_any test (range_with_len a n) ≡ true
any_range test a zero k from to sure = absurd (omega arith)
any_range test a (suc n) k from to sure = by_cases (cases_eq a k) (λ other. any_range test (a + 1) n k (omega arith) (omega arith) sure)
  where
    behind : (b : Bool) → (b || true) ≡ true
    behind true = refl
    behind false = refl

    by_cases : (a ≡ k) ⊎ (a ≢ k) → (a ≢ k → list_any test (range_with_len (a + 1) n) ≡ true) → (test a || list_any test (range_with_len (a + 1) n)) ≡ true
    by_cases (inl same) more = ap (λ b. b || list_any test (range_with_len (a + 1) n)) (ap test same ∙ sure)
    by_cases (inr other) more = ap (λ b. test a || b) (more other) ∙ behind (test a)

-- nothing is missing
all_here : (awaited : List Awaited) → option_map (λ (a : Awaited). a.piece) (find (λ a. not (is_some a.runs)) awaited) ≡ None → AllByRecursion (λ a. is_some a.runs ≡ true) awaited
all_here [] none = tt
all_here (a ∷ others) none = by_runs (is_some a.runs) refl (all_here others) none
  where
    by_runs : (b : Bool) → is_some a.runs ≡ b → (option_map (λ (a : Awaited). a.piece) (find (λ a. not (is_some a.runs)) others) ≡ None → AllByRecursion (λ a. is_some a.runs ≡ true) others) →
        option_map (λ (a : Awaited). a.piece) (cond (not b) (Some a) (find (λ a. not (is_some a.runs)) others)) ≡ None →
        (is_some a.runs ≡ true) × AllByRecursion (λ a. is_some a.runs ≡ true) others
    by_runs true is more none = (is, more none)
    by_runs false is more none = let wrong : Some a.piece ≡ None = none in absurd (cc)

-- the piece of an id is awaited, and its runs have a sample
awaited_has : (h : HeaderValue) (e n file field address id : ℕ) (ids : List ℕ) (awaited : List Awaited) → IsIn ids id → reaches h (piece_region h.mask h.box e id) file ≡ true →
    map undelivered awaited ≡ map awaited_of (reaching h file (map (piece_at h e n) ids)) → AllByRecursion (λ a. is_some a.runs ≡ true) awaited →
    All (λ a. ForSome a.runs (AreRunsOf h a.region file)) awaited →
    ((runs : List Run) → AreRunsOf h (piece_region h.mask h.box e id) file runs → (r : Run) × IsOneOf runs r × (has_sample h field address r ≡ true)) →
    (r : Run) × IsOneOf (runs_in awaited) r × (has_sample h field address r ≡ true)
awaited_has h e n file field address id [] awaited here reach same all are has = absurd here
awaited_has h e n file field address id (i ∷ ids) awaited here reach same all are has =
    by_test (reaches h (piece_region h.mask h.box e i) file) refl awaited here same all are
    (λ others more is all are. awaited_has h e n file field address id ids others more reach is all are has)
  where
    rest : List Piece
    rest = reaching h file (map (piece_at h e n) ids)

    R : List Awaited → Type 0
    R awaited = (r : Run) × IsOneOf (runs_in awaited) r × (has_sample h field address r ≡ true)

    P : Awaited → Type 0
    P a = ForSome a.runs (AreRunsOf h a.region file)

    of_runs : (o : Option (List Run)) (region : List (ℕ × ℕ)) → is_some o ≡ true → ForSome o (AreRunsOf h region file) → region ≡ piece_region h.mask h.box e id →
        (r : Run) × IsOneOf (unwrap_or o []) r × (has_sample h field address r ≡ true)
    of_runs None region some are is = let wrong : false ≡ true = some in absurd (cc)
    of_runs (Some runs) region some are is = has runs (subst (λ region. AreRunsOf h region file runs) is (are runs refl))

    by_test : (b : Bool) → reaches h (piece_region h.mask h.box e i) file ≡ b → (awaited : List Awaited) → (i ≡ id) ⊎ IsIn ids id →
        map undelivered awaited ≡ map awaited_of (cond b (piece_at h e n i ∷ rest) rest) → AllByRecursion (λ a. is_some a.runs ≡ true) awaited → All P awaited →
        ((others : List Awaited) → IsIn ids id → map undelivered others ≡ map awaited_of rest → AllByRecursion (λ a. is_some a.runs ≡ true) others → All P others → R others) → R awaited
    by_test true is [] here same all are more = let wrong : [] ≡ awaited_of (piece_at h e n i) ∷ map awaited_of rest = same in absurd (cc)
    by_test true is (a ∷ others) (inl one) same all are more =
        let parts = head_is a (awaited_of (piece_at h e n i)) (map undelivered others) (map awaited_of rest) same in
        let found = of_runs a.runs a.region all.0 (All-head P a others are) (parts.1 ∙ ap (piece_region h.mask h.box e) one) in
        (found.0, IsOneOf-front (runs_of a) (runs_in others) found.0 found.1, found.2)
    by_test true is (a ∷ others) (inr later) same all are more =
        let parts = head_is a (awaited_of (piece_at h e n i)) (map undelivered others) (map awaited_of rest) same in
        let found = more others later parts.2 all.1 (All-tail P a others are) in
        (found.0, IsOneOf-back (runs_of a) (runs_in others) found.0 found.1, found.2)
    by_test false is awaited (inl one) same all are more =
        let wrong : true ≡ false = sym reach ∙ sym (ap (λ k. reaches h (piece_region h.mask h.box e k) file) one) ∙ is in absurd (cc)
    by_test false is awaited (inr later) same all are more = more awaited later same all are

-- where nothing is missing, each point of the box with an address in the file has a sample
covered : (d : DockValue) → IsDock d → missing d ≡ None → (field block : ℕ) (p : List ℕ) → field < length d.header.fields → d.file ≤ block → block < d.file + d.header.blocks_per_file →
    hz_address d.header.mask p / 2 ^ d.header.block_bits ≡ block → LiesIn d.header.box p →
    (r : Run) × IsOneOf (runs_in d.awaited) r × (has_sample d.header field (hz_address d.header.mask p) r ≡ true)
covered d is none field block p within from to at lies =
    let h : HeaderValue = d.header in
    let e : ℕ = is.division.e in
    let id : ℕ = piece_of h.mask e p in
    let digits : ℕ = length h.mask - e in
    let address : ℕ = hz_address h.mask p in
    let region : List (ℕ × ℕ) = piece_region h.mask h.box e id in
    let ids : List ℕ = filter (has_piece h.mask h.box e) (range_with_len 0 (2 ^ digits)) in
    let all : digits + e ≡ length h.mask = omega (arith, is.division.within) in
    let small : id < 2 ^ digits = shr_below (z_address h.mask p) digits e (subst (λ n. z_address h.mask p < 2 ^ n) (sym all) (z_address-lt h.mask p)) in
    let inside : LiesIn region p = point_of_piece h e p is.header is.division.within small lies in
    let is_id : IsIn ids id = IsIn-passes (has_piece h.mask h.box e) (range_with_len 0 (2 ^ digits)) id (IsIn-range 0 (2 ^ digits) id (omega arith) (omega arith))
    (any_point h.box (λ q. piece_of h.mask e q == id) p lies (eq-eqb id id refl)) in
    let reach : reaches h region d.file ≡ true = any_range (has_point_in h.mask region h.block_bits) d.file h.blocks_per_file block from to
    (any_point region (λ q. hz_address h.mask q / 2 ^ h.block_bits == block) p inside (eq-eqb (address / 2 ^ h.block_bits) block at)) in
    let same : map undelivered d.awaited ≡ map awaited_of (reaching h d.file (map (piece_at h e is.division.ranks) ids)) =
    is.awaited ∙ ap (λ pieces. map awaited_of (reaching h d.file pieces)) is.division.is in
    let parts : address ≡ block * 2 ^ h.block_bits + address % 2 ^ h.block_bits = sym (mod-add-div' address (2 ^ h.block_bits)) ∙ ap (λ n. address % 2 ^ h.block_bits + n * 2 ^ h.block_bits) at ∙ omega arith in
    let rest : address % 2 ^ h.block_bits < 2 ^ h.block_bits = mod-lt address (pow_pos h.block_bits) in
    let low : d.file * 2 ^ h.block_bits ≤ block * 2 ^ h.block_bits = mul-le-mul_right (2 ^ h.block_bits) from in
    let last : block + 1 ≤ d.file + h.blocks_per_file = omega arith in
    let high : (block + 1) * 2 ^ h.block_bits ≤ (d.file + h.blocks_per_file) * 2 ^ h.block_bits = mul-le-mul_right (2 ^ h.block_bits) last in
    let in_file : IsIn (file_addresses h d.file) address = IsIn-range (d.file * 2 ^ h.block_bits) (h.blocks_per_file * 2 ^ h.block_bits) address (omega arith) (omega arith) in
    awaited_has h e is.division.ranks d.file field address id ids d.awaited is_id reach same (all_here d.awaited none) is.runs
    (λ runs are. run_with h field address runs (subst (λ xs. IsIn xs address) (sym (are.addresses field within))
    (IsIn-passes (has_address h.mask region) (file_addresses h d.file) address in_file (any_point region (λ q. hz_address h.mask q == address) p inside (eq-eqb address address refl)))))

-- the first point that passes a test is one of the box
pub find_point : (r : List (ℕ × ℕ)) (test : List ℕ → Bool) (p : List ℕ) → find test (points r) ≡ Some p → LiesIn r p
find_point r test p found = (LiesIn-slice_get r (position_or_len test (points r)) p (sym (find_at test (points r)) ∙ found)).0

-- each sample that a volume has at an address has its field's size
pub sized : (h : HeaderValue) (volume : List (List (List ℕ))) (field a : ℕ) → IsVolume (map sample_bytes h.fields) (length (points h.box)) volume → field < length h.fields →
    length (sample_at_address h (sample_of h volume) field a) ≡ sample_bytes_of h field
sized h volume field a is within = by_find (find (λ p. hz_address h.mask p == a) (points h.box)) refl
  where
    by_find : (o : Option (List ℕ)) → find (λ p. hz_address h.mask p == a) (points h.box) ≡ o →
        length (option_map_or (sample_of h volume field) o (replicate (sample_bytes_of h field) 0)) ≡ sample_bytes_of h field
    by_find None found = length-replicate (sample_bytes_of h field) 0
    by_find (Some p) found =
        let lies = find_point h.box (λ p. hz_address h.mask p == a) p found in
        let place : place_of h.box p < length (points h.box) = omega (arith, place_of-lt h.box p lies, length-points h.box) in
        let there : field < length (map sample_bytes h.fields) = subst (λ n. field < n) (sym (length-map h.fields sample_bytes)) within in
        volume_sample (map sample_bytes h.fields) (length (points h.box)) field (place_of h.box p) volume is there place
        ∙ get_or-map sample_bytes h.fields field (field_at [] 0) 0 within

pub unfound : (test : Run → Bool) (runs : List Run) (r : Run) → IsOneOf runs r → test r ≡ true → find test runs ≡ None → ⊥
unfound test [] r here sure none = here
unfound test (q ∷ runs) r here sure none = by_test (test q) refl here none (λ more rest. unfound test runs r more sure rest)
  where
    by_test : (b : Bool) → test q ≡ b → (q ≡ r) ⊎ IsOneOf runs r → cond b (Some q) (find test runs) ≡ None → (IsOneOf runs r → find test runs ≡ None → ⊥) → ⊥
    by_test true is here none more = let wrong : Some q ≡ None = none in cc
    by_test false is (inl same) none more = let wrong : true ≡ false = sym sure ∙ sym (ap test same) ∙ is in cc
    by_test false is (inr rest) none more = more rest none

-- what stands at an address of a dock to which all was delivered
pub complete_sample : (d : DockValue) → IsDock d → missing d ≡ None → (volume : List (List (List ℕ))) → IsVolume (map sample_bytes d.header.fields) (length (points d.header.box)) volume →
    ((r : Run) → IsOneOf (runs_in d.awaited) r → HasSamples d.header (sample_of d.header volume) r) → (field block a : ℕ) → field < length d.header.fields →
    d.file ≤ block → block < d.file + d.header.blocks_per_file → a / 2 ^ d.header.block_bits ≡ block →
    sample_among d.header (runs_in d.awaited) field a ≡ sample_at_address d.header (sample_of d.header volume) field a
complete_sample d is none volume are samples field block a within from to at =
    elim (find_run (has_sample h field a) runs) [
      | inl found ↦ of_run found.0 found.1 found.2
      | inr unfound_any ↦ ap (λ o. option_map_or (run_sample h a) o (replicate (sample_bytes_of h field) 0)) unfound_any ∙ sym (ap (λ o. option_map_or (sample_of h volume field) o (replicate (sample_bytes_of h field) 0)) (no_point unfound_any))
    ]
  where
    h : HeaderValue
    h = d.header

    runs : List Run
    runs = runs_in d.awaited

    of_run : (r : Run) → IsOneOf runs r → has_sample h field a r ≡ true → sample_among h runs field a ≡ sample_at_address h (sample_of h volume) field a
    of_run r one has =
        let bounds = has_is h field a r has in
        let own : r.field < length h.fields = subst (λ n. n < length h.fields) (sym bounds.0) within in
        sample_run h field a runs r (dock_writable d is).apart one has
        ∙ ap (λ bytes. take (sample_bytes_of h r.field) (drop (sample_bytes_of h r.field * (a - r.first)) bytes)) (samples r one)
        ∙ sample_of_range (sample_at_address h (sample_of h volume) r.field) (sample_bytes_of h r.field) r.first (run_length h r) a (λ k. sized h volume r.field k are own) bounds.1 bounds.2
        ∙ ap (λ f. sample_at_address h (sample_of h volume) f a) bounds.0

    by_any : find (has_sample h field a) runs ≡ None → (b : Bool) → list_any (λ p. hz_address h.mask p == a) (points h.box) ≡ b → find (λ p. hz_address h.mask p == a) (points h.box) ≡ None
    by_any unfound_any true some =
        let p = point_found h.box (λ p. hz_address h.mask p == a) some in
        let here : hz_address h.mask p.0 ≡ a = eqb-true (hz_address h.mask p.0) a p.2 in
        let run = covered d is none field block p.0 within from to (ap (λ n. n / 2 ^ h.block_bits) here ∙ at) p.1 in
        absurd (unfound (has_sample h field a) runs run.0 run.1 (subst (λ n. has_sample h field n run.0 ≡ true) here run.2) unfound_any)
    by_any unfound_any false nothing = find-unfound (λ p. hz_address h.mask p == a) (points h.box) nothing

    no_point : find (has_sample h field a) runs ≡ None → find (λ p. hz_address h.mask p == a) (points h.box) ≡ None
    no_point unfound_any = by_any unfound_any (list_any (λ p. hz_address h.mask p == a) (points h.box)) refl

pub filter_range : (f g : ℕ → List ℕ) (p : ℕ → Bool) (a n : ℕ) → ((k : ℕ) → a ≤ k → k < a + n → f k ≡ g k) → flat_map f (filter p (range_with_len a n)) ≡ flat_map g (filter p (range_with_len a n))
filter_range f g p a zero same = refl
filter_range f g p a (suc n) same = by_test (p a) (filter_range f g p (a + 1) n (λ k from to. same k (omega arith) (omega arith)))
  where
    rest : List ℕ
    rest = filter p (range_with_len (a + 1) n)

    by_test : (b : Bool) → flat_map f rest ≡ flat_map g rest → flat_map f (cond b (a ∷ rest) rest) ≡ flat_map g (cond b (a ∷ rest) rest)
    by_test true more = ap (λ x. x ++ flat_map f rest) (same a (omega arith) (omega arith)) ∙ ap (λ x. g a ++ x) more
    by_test false more = more

pub zip_range : (f : ℕ × List (List ℕ) → List ℕ) (g : ℕ → List ℕ) (sizes : List ℕ) (volume : List (List (List ℕ))) (n a : ℕ) → IsVolume sizes n volume →
    ((k : ℕ) → k < length sizes → f (get_or sizes k 0, get_or volume k []) ≡ g (a + k)) → flat_map f (zip sizes volume) ≡ flat_map g (range_with_len a (length sizes))
zip_range f g [] [] n a is each = refl
zip_range f g [] (v ∷ volume) n a is each = absurd is
zip_range f g (s ∷ sizes) [] n a is each = absurd is
zip_range f g (s ∷ sizes) (v ∷ volume) n a is each =
    let here : a + 0 ≡ a = omega arith in
    ap (λ x. x ++ flat_map f (zip sizes volume)) (each 0 (omega arith) ∙ ap g here)
    ∙ ap (λ x. g a ++ x) (zip_range f g sizes volume n (a + 1) is.2 (λ k within. (let at : a + suc k ≡ a + 1 + k = omega arith in each (suc k) (omega arith) ∙ ap g at)))

-- a dock to which all was delivered writes the file of the volume, in each layout
pub complete_bytes_as : (layout : Layout) (d : DockValue) → IsDock d → missing d ≡ None → (volume : List (List (List ℕ))) → IsVolume (map sample_bytes d.header.fields) (length (points d.header.box)) volume →
    ((r : Run) → IsOneOf (runs_in d.awaited) r → HasSamples d.header (sample_of d.header volume) r) → dock_bytes_as layout d ≡ file_bytes layout (placing_of d.header) volume d.file
complete_bytes_as layout d is none volume are samples = ap (λ blocks. (replicate row_length 0 ++ flat_map row_bytes (rows_of_file layout l d.file)) ++ blocks) (sym fields)
  where
    h : HeaderValue
    h = d.header

    l : Placing
    l = placing_of h

    sizes : List ℕ
    sizes = map sample_bytes h.fields

    m : ℕ
    m = 2 ^ h.block_bits

    runs : List Run
    runs = runs_in d.awaited

    size : (k : ℕ) → k < length h.fields → get_or sizes k 0 ≡ sample_bytes_of h k
    size k within = get_or-map sample_bytes h.fields k (field_at [] 0) 0 within

    address : (k block a : ℕ) → k < length h.fields → d.file ≤ block → block < d.file + h.blocks_per_file → block * m ≤ a → a < block * m + m →
        stored_sample l (get_or sizes k 0) (get_or volume k []) a ≡ sample_among h runs k a
    address k block a within from to low high =
        let parts : a ≡ block * m + (a - block * m) = omega arith in
        let at : a / m ≡ block = ap (λ n. n / m) parts ∙ div-mul-add block m (a - block * m) (omega arith) in
        ap (λ n. stored_sample l n (get_or volume k []) a) (size k within)
        ∙ sym (complete_sample d is none volume are samples k block a within from to at)

    samples_same : (k block : ℕ) → k < length h.fields → d.file ≤ block → block < d.file + h.blocks_per_file →
        block_of_samples l (get_or sizes k 0) (get_or volume k []) block ≡ block_among h runs k block
    samples_same k block within from to =
        flat_map-range (stored_sample l (get_or sizes k 0) (get_or volume k [])) (sample_among h runs k) (block * m) m (λ a low high. address k block a within from to low high)

    stored_same : (k block : ℕ) → k < length h.fields → d.file ≤ block → block < d.file + h.blocks_per_file →
        block_in_file layout l (get_or sizes k 0) (get_or volume k []) block ≡ stored_among layout h runs k block
    stored_same k block within from to =
        ap (arranged layout l (get_or sizes k 0) block) (samples_same k block within from to)
        ∙ ap (λ n. arranged layout l n block (block_among h runs k block)) (size k within)

    field : (k : ℕ) → k < length sizes → flat_map (block_in_file layout l (get_or sizes k 0) (get_or volume k [])) (present_blocks l d.file) ≡ field_among layout h d.file runs (0 + k)
    field k inside =
        let within : k < length h.fields = subst (λ n. k < n) (length-map h.fields sample_bytes) inside in
        let at : k ≡ 0 + k = omega arith in
        filter_range (block_in_file layout l (get_or sizes k 0) (get_or volume k [])) (stored_among layout h runs k) (is_present l) d.file h.blocks_per_file
        (λ block from to. stored_same k block within from to)
        ∙ ap (field_among layout h d.file runs) at

    fields : blocks_of_file layout l volume d.file ≡ fields_among layout h d.file runs
    fields =
        zip_range (λ f. flat_map (block_in_file layout l f.0 f.1) (present_blocks l d.file)) (field_among layout h d.file runs) sizes volume (length (points h.box)) 0 are field
        ∙ ap (λ n. flat_map (field_among layout h d.file runs) (range_with_len 0 n)) (length-map h.fields sample_bytes)

-- in hierarchical order
pub complete_bytes : (d : DockValue) → IsDock d → missing d ≡ None → (volume : List (List (List ℕ))) → IsVolume (map sample_bytes d.header.fields) (length (points d.header.box)) volume →
    ((r : Run) → IsOneOf (runs_in d.awaited) r → HasSamples d.header (sample_of d.header volume) r) → dock_bytes d ≡ file_bytes Hz (placing_of d.header) volume d.file
complete_bytes d is none volume are samples = complete_bytes_as Hz d is none volume are samples

-- deliveries of two pieces, in either order
pub swapped : (p q : ℕ) (rs qs : List Run) → (p ≡ q → ⊥) → (awaited : List Awaited) → with_runs p rs (with_runs q qs awaited) ≡ with_runs q qs (with_runs p rs awaited)
swapped p q rs qs other [] = refl
swapped p q rs qs other (a ∷ others) = by_tests (a.piece == q) refl (a.piece == p) refl (swapped p q rs qs other others)
  where
    by_tests : (b : Bool) → (a.piece == q) ≡ b → (c : Bool) → (a.piece == p) ≡ c → with_runs p rs (with_runs q qs others) ≡ with_runs q qs (with_runs p rs others) →
        with_runs p rs (cond b (delivered qs a ∷ others) (a ∷ with_runs q qs others)) ≡ with_runs q qs (cond c (delivered rs a ∷ others) (a ∷ with_runs p rs others))
    by_tests true at_q true at_p more = absurd (other (sym (eqb-true a.piece p at_p) ∙ eqb-true a.piece q at_q))
    by_tests true at_q false at_p more =
        ap (λ x. cond x (delivered rs (delivered qs a) ∷ others) (delivered qs a ∷ with_runs p rs others)) at_p
        ∙ sym (ap (λ x. cond x (delivered qs a ∷ with_runs p rs others) (a ∷ with_runs q qs (with_runs p rs others))) at_q)
    by_tests false at_q true at_p more =
        ap (λ x. cond x (delivered rs a ∷ with_runs q qs others) (a ∷ with_runs p rs (with_runs q qs others))) at_p
        ∙ sym (ap (λ x. cond x (delivered qs (delivered rs a) ∷ others) (delivered rs a ∷ with_runs q qs others)) at_q)
    by_tests false at_q false at_p more =
        ap (λ x. cond x (delivered rs a ∷ with_runs q qs others) (a ∷ with_runs p rs (with_runs q qs others))) at_p
        ∙ ap (λ xs. a ∷ xs) more
        ∙ sym (ap (λ x. cond x (delivered qs a ∷ with_runs p rs others) (a ∷ with_runs q qs (with_runs p rs others))) at_q)

-- what holds of each one of some runs holds of all
pub all_from : (P : Run → Type 0) (runs : List Run) → ((r : Run) → IsOneOf runs r → P r) → All P runs
all_from P [] each = All-nil P
all_from P (r ∷ runs) each = All-cons P r runs (each r (inl refl)) (all_from P runs (λ q here. each q (inr here)))
