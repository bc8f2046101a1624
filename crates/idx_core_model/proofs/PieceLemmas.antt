-- Files apart, and the pieces of their addresses.
use Rattle.std.proofs.Common.{◌≡◌, ◌⊎◌, inl, inr, ℕ, zero, suc, ◌+◌, ◌-◌, ◌*◌, ◌^◌, ◌<◌, ◌≤◌, Bool, true, false, cond, nat_eq, List, [], ◌∷◌, length, map, Option, Some, None, refl, sym, ap, ◌∙◌, subst, arith, eqb-true, eq-eqb}
use Rattle.std.specs.Prelude.{◌==◌, filter, find, replicate}
use Rattle.std.specs.List.{AllByRecursion, IsDistinct, range_with_len}
use Rattle.std.specs.Option.{option_map_or}
use Rattle.std.proofs.lemmas.Bool.{ne_eqb, or_left, or_right}
use Rattle.std.proofs.lemmas.Nat.{shr_below}
use Rattle.idx_geom.specs.Region.{LiesIn, points}
use Rattle.idx_hz.specs.Address.{hz_address, z_address}
use Rattle.idx_hz.proofs.ZLemmas.{z_address-lt}
use Rattle.idx_header.specs.Header.{HeaderValue, IsHeader, sample_bytes_of}
use Rattle.idx_layout.proofs.PresentLemmas.{any_point}
use Rattle.idx_pieces.specs.Pieces.{has_piece, piece_at, piece_of, piece_region}
use Rattle.idx_pieces.specs.Runs.{file_addresses, has_address, sample_at_address}
use Rattle.idx_pieces.specs.Samples.{raw_sample}
use Rattle.idx_pieces.specs.declared.piece.Piece.{Piece}
use Rattle.idx_dock.specs.Dock.{piece_at_address, reaches, reaching}
use Rattle.idx_dock.proofs.ApartLemmas.{IsIn, IsIn-range, point_of_piece}
use Rattle.idx_dock.proofs.CompleteLemmas.{any_range, find_point}
use Rattle.idx_dock.proofs.ReachLemmas.{reaches_addresses}
use Rattle.idx_edition.specs.Tables.{RiseFrom}
use Rattle.idx_events.specs.Lists.{has}
use Rattle.idx_core_model.specs.Layers.{pieces_in_file}

-- ---- numbers that rise are apart

later_apart : (k a : ℕ) (xs : List ℕ) → k < a → RiseFrom a xs → AllByRecursion (λ x. nat_eq k x ≡ false) xs
later_apart k a [] less rise = tt
later_apart k a (x ∷ xs) less rise = (ne_eqb k x (λ same. absurd (omega (arith, rise.0, same))), later_apart k (x + 1) xs (omega (arith, rise.0)) rise.1)

pub rise_apart : (a : ℕ) (xs : List ℕ) → RiseFrom a xs → IsDistinct nat_eq xs
unfolding IsDistinct
rise_apart a [] rise = tt
rise_apart a (x ∷ xs) rise = (later_apart x (x + 1) xs (omega arith) rise.1, rise_apart (x + 1) xs rise.1)

-- ---- the piece of an address

-- what holds of each number of a range holds of all
pub all_range : (P : ℕ → Type 0) (a n : ℕ) → ((k : ℕ) → a ≤ k → k < a + n → P k) → AllByRecursion P (range_with_len a n)
all_range P a zero each = tt
all_range P a (suc n) each = (each a (omega arith) (omega arith), all_range P (a + 1) n (λ k from to. each k (omega arith) (omega arith)))

passes_found : (test : List ℕ → Bool) (ps : List (List ℕ)) (p : List ℕ) → find test ps ≡ Some p → test p ≡ true
passes_found test [] p found = let wrong : None ≡ Some p = found in absurd (cc)
passes_found test (q ∷ ps) p found = by_test (test q) refl found (passes_found test ps p)
  where
    by_test : (b : Bool) → test q ≡ b → cond b (Some q) (find test ps) ≡ Some p → (find test ps ≡ Some p → test p ≡ true) → test p ≡ true
    by_test true is found more = let same : q ≡ p = cc in sym (ap test same) ∙ is
    by_test false is found more = more found

stays_in : (p : ℕ → Bool) (xs : List ℕ) (n : ℕ) → IsIn xs n → p n ≡ true → IsIn (filter p xs) n
stays_in p [] n here sure = absurd here
stays_in p (x ∷ xs) n here sure = by_test (p x) refl here (λ more. stays_in p xs n more sure)
  where
    by_test : (b : Bool) → p x ≡ b → (x ≡ n) ⊎ IsIn xs n → (IsIn xs n → IsIn (filter p xs) n) → IsIn (cond b (x ∷ filter p xs) (filter p xs)) n
    by_test true is (inl same) more = inl same
    by_test true is (inr rest) more = inr (more rest)
    by_test false is (inl same) more = let wrong : true ≡ false = sym sure ∙ sym (ap p same) ∙ is in absurd (cc)
    by_test false is (inr rest) more = more rest

-- the id of a piece with a point in a file is among those of the file
among_ids : (h : HeaderValue) (e n file id : ℕ) (ids : List ℕ) → IsIn ids id → reaches h (piece_region h.mask h.box e id) file ≡ true →
    has id (map (λ (piece : Piece). piece.id) (reaching h file (map (piece_at h e n) ids))) ≡ true
among_ids h e n file id [] here reach = absurd here
among_ids h e n file id (i ∷ ids) here reach = by_test (reaches h (piece_region h.mask h.box e i) file) refl here (λ more. among_ids h e n file id ids more reach)
  where
    rest : List Piece
    rest = reaching h file (map (piece_at h e n) ids)

    by_test : (b : Bool) → reaches h (piece_region h.mask h.box e i) file ≡ b → (i ≡ id) ⊎ IsIn ids id → (IsIn ids id → has id (map (λ (piece : Piece). piece.id) rest) ≡ true) →
        has id (map (λ (piece : Piece). piece.id) (cond b (piece_at h e n i ∷ rest) rest)) ≡ true
    by_test true is (inl same) more = or_left (nat_eq id i) (has id (map (λ (piece : Piece). piece.id) rest)) (eq-eqb id i (sym same))
    by_test true is (inr later) more = or_right (nat_eq id i) (has id (map (λ (piece : Piece). piece.id) rest)) (more later)
    by_test false is (inl same) more =
        let wrong : true ≡ false = sym reach ∙ sym (ap (λ k. reaches h (piece_region h.mask h.box e k) file) same) ∙ is in absurd (cc)
    by_test false is (inr later) more = more later

-- the piece of a point with an address in a file is among those of the file
point_covered : (h : HeaderValue) (e n file address : ℕ) (p : List ℕ) → IsHeader h → e ≤ length h.mask → LiesIn h.box p → hz_address h.mask p ≡ address →
    file * 2 ^ h.block_bits ≤ address → address < file * 2 ^ h.block_bits + h.blocks_per_file * 2 ^ h.block_bits → has (piece_of h.mask e p) (pieces_in_file h e n file) ≡ true
point_covered h e n file address p is within lies at low high =
    let id : ℕ = piece_of h.mask e p in
    let digits : ℕ = length h.mask - e in
    let region : List (ℕ × ℕ) = piece_region h.mask h.box e id in
    let all : digits + e ≡ length h.mask = omega (arith, within) in
    let small : id < 2 ^ digits = shr_below (z_address h.mask p) digits e (subst (λ n. z_address h.mask p < 2 ^ n) (sym all) (z_address-lt h.mask p)) in
    let inside : LiesIn region p = point_of_piece h e p is within small lies in
    let is_id : IsIn (filter (has_piece h.mask h.box e) (range_with_len 0 (2 ^ digits))) id =
    stays_in (has_piece h.mask h.box e) (range_with_len 0 (2 ^ digits)) id (IsIn-range 0 (2 ^ digits) id (omega arith) (omega arith))
    (any_point h.box (λ q. piece_of h.mask e q == id) p lies (eq-eqb id id refl)) in
    let reach : reaches h region file ≡ true =
    reaches_addresses h region file
    ∙ any_range (has_address h.mask region) (file * 2 ^ h.block_bits) (h.blocks_per_file * 2 ^ h.block_bits) address low high
    (any_point region (λ q. hz_address h.mask q == address) p inside (eq-eqb (hz_address h.mask p) address at)) in
    among_ids h e n file id (filter (has_piece h.mask h.box e) (range_with_len 0 (2 ^ digits))) is_id reach

-- the piece of an address of a file is among those of the file, or the address has zeros
abbrev pub IsCovered : HeaderValue → ℕ → ℕ → ℕ → ℕ → Type 0
IsCovered h e n file address = (has (piece_at_address h e address) (pieces_in_file h e n file) ≡ true)
    ⊎ ((raw : List ℕ) (field : ℕ) → sample_at_address h (raw_sample h raw) field address ≡ replicate (sample_bytes_of h field) 0)

pub address_covered : (h : HeaderValue) (e n file address : ℕ) → IsHeader h → e ≤ length h.mask →
    file * 2 ^ h.block_bits ≤ address → address < file * 2 ^ h.block_bits + h.blocks_per_file * 2 ^ h.block_bits → IsCovered h e n file address
address_covered h e n file address is within low high = by_find (find (λ p. hz_address h.mask p == address) (points h.box)) refl
  where
    by_find : (o : Option (List ℕ)) → find (λ p. hz_address h.mask p == address) (points h.box) ≡ o →
        (has (option_map_or (piece_of h.mask e) o 0) (pieces_in_file h e n file) ≡ true)
        ⊎ ((raw : List ℕ) (field : ℕ) → option_map_or (raw_sample h raw field) o (replicate (sample_bytes_of h field) 0) ≡ replicate (sample_bytes_of h field) 0)
    by_find None found = inr (λ raw field. refl)
    by_find (Some p) found =
        inl (point_covered h e n file address p is within (find_point h.box (λ q. hz_address h.mask q == address) p found)
        (eqb-true (hz_address h.mask p) address (passes_found (λ q. hz_address h.mask q == address) (points h.box) p found)) low high)

pub all_covered : (h : HeaderValue) (e n file : ℕ) → IsHeader h → e ≤ length h.mask → AllByRecursion (IsCovered h e n file) (file_addresses h file)
all_covered h e n file is within =
    all_range (IsCovered h e n file) (file * 2 ^ h.block_bits) (h.blocks_per_file * 2 ^ h.block_bits) (λ address low high. address_covered h e n file address is within low high)
