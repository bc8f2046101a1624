-- The ids of pieces, found from those of a coarser division.
use Rattle.std.proofs.Common.{◌≡◌, ℕ, zero, suc, ◌+◌, ◌-◌, ◌*◌, ◌/◌, ◌^◌, ◌<◌, ◌≤◌, Bool, true, false, cond, List, [], ◌∷◌, ◌++◌, length, get_or, refl, sym, ap, ◌∙◌, arith, subst, zero-add, take, append_assoc}
use Rattle.std.specs.Prelude.{filter, All}
use Rattle.std.specs.List.{flat_map, range_with_len}
use Rattle.std.proofs.lemmas.List.Elements.{All-filter, filter-append, filter_passes}
use Rattle.std.proofs.lemmas.List.{append-nil, flat_map_more, take_more}
use Rattle.idx_layout.proofs.ListLemmas.{range_with_len-more}
use Rattle.std.proofs.lemmas.List.FromFn.{length-range_with_len, get_or-range_with_len}
use Rattle.std.proofs.lemmas.Nat.{pow-add}
use Rattle.std.proofs.Math.Nat.{div-div-eq-div-mul, div-eq_of_lt}
use Rattle.std.proofs.Math.Pow.{pow_mono}
use Rattle.idx_geom.specs.Region.{lower_ends}
use Rattle.idx_geom.proofs.EndsLemmas.{IsOrdered}
use Rattle.idx_geom.proofs.LiesInLemmas.{LiesIn-lower_ends}
use Rattle.idx_hz.specs.Address.{z_address}
use Rattle.idx_hz.proofs.ZLemmas.{z_address-lt}
use Rattle.idx_pieces.specs.Pieces.{has_piece, piece_of}
use Rattle.idx_pieces.proofs.PieceLemmas.{piece_has_point, point_of_piece}

-- the two halves of a number
abbrev pub halves_of : ℕ → List ℕ
halves_of id = (2 * id) ∷ (2 * id + 1) ∷ []

-- those of them that pass
abbrev pub passing_halves : (ℕ → Bool) → ℕ → List ℕ
passing_halves p id = filter p (halves_of id)

-- where a half of a number passes only if the number does, a filter can look at the halves of those that pass
pub filter-halves : (p q : ℕ → Bool) → ((id : ℕ) → q id ≡ false → (p (2 * id) ≡ false) × (p (2 * id + 1) ≡ false)) → (a n : ℕ) →
    filter p (range_with_len (2 * a) (2 * n)) ≡ flat_map (passing_halves p) (filter q (range_with_len a n))
filter-halves p q none a zero = refl
filter-halves p q none a (suc n) =
    ap (λ (k : ℕ). filter p (range_with_len (2 * a) k)) twice
    ∙ ap (λ (b : ℕ). filter p ((2 * a) ∷ (2 * a + 1) ∷ range_with_len b (2 * n))) next
    ∙ by_test (filter-halves p q none (a + 1) n) (q a) refl
  where
    twice : 2 * suc n ≡ suc (suc (2 * n))
    twice = omega arith

    next : 2 * a + 1 + 1 ≡ 2 * (a + 1)
    next = omega arith

    two : (x y : Bool) (xs : List ℕ) → cond x ((2 * a) ∷ cond y ((2 * a + 1) ∷ xs) xs) (cond y ((2 * a + 1) ∷ xs) xs)
        ≡ cond x ((2 * a) ∷ cond y ((2 * a + 1) ∷ []) []) (cond y ((2 * a + 1) ∷ []) []) ++ xs
    two true true xs = refl
    two true false xs = refl
    two false true xs = refl
    two false false xs = refl

    by_test : filter p (range_with_len (2 * (a + 1)) (2 * n)) ≡ flat_map (passing_halves p) (filter q (range_with_len (a + 1) n)) → (t : Bool) → q a ≡ t →
        filter p ((2 * a) ∷ (2 * a + 1) ∷ range_with_len (2 * (a + 1)) (2 * n)) ≡ flat_map (passing_halves p) (filter q (range_with_len a (suc n)))
    by_test rest true is =
        two (p (2 * a)) (p (2 * a + 1)) (filter p (range_with_len (2 * (a + 1)) (2 * n)))
        ∙ ap (λ (xs : List ℕ). passing_halves p a ++ xs) rest
        ∙ sym (ap (λ (t : Bool). flat_map (passing_halves p) (cond t (a ∷ filter q (range_with_len (a + 1) n)) (filter q (range_with_len (a + 1) n)))) is)
    by_test rest false is =
        ap (λ (t : Bool). cond t ((2 * a) ∷ filter p ((2 * a + 1) ∷ range_with_len (2 * (a + 1)) (2 * n))) (filter p ((2 * a + 1) ∷ range_with_len (2 * (a + 1)) (2 * n)))) (none a is).0
        ∙ ap (λ (t : Bool). cond t ((2 * a + 1) ∷ filter p (range_with_len (2 * (a + 1)) (2 * n))) (filter p (range_with_len (2 * (a + 1)) (2 * n)))) (none a is).1
        ∙ rest
        ∙ sym (ap (λ (t : Bool). flat_map (passing_halves p) (cond t (a ∷ filter q (range_with_len (a + 1) n)) (filter q (range_with_len (a + 1) n)))) is)

-- a half with a point belongs to a piece with a point
half_in_whole : (mask : List ℕ) (box : List (ℕ × ℕ)) (e id half : ℕ) → half / 2 ≡ id → has_piece mask box (e + 1) id ≡ false → has_piece mask box e half ≡ false
half_in_whole mask box e id half of none = by_test (has_piece mask box e half) refl
  where
    by_test : (t : Bool) → has_piece mask box e half ≡ t → has_piece mask box e half ≡ false
    by_test false is = is
    by_test true is =
        let at = point_of_piece mask box e half is in
        let z : ℕ = z_address mask at.0 in
        let wide : piece_of mask (e + 1) at.0 ≡ id =
        ap (λ (n : ℕ). z / n) (pow-add 2 e 1) ∙ sym (div-div-eq-div-mul z (2 ^ e) (2 ^ 1)) ∙ ap (λ (n : ℕ). n / 2) at.1.1 ∙ of in
        let wrong : true ≡ false = sym (piece_has_point mask box (e + 1) id at.0 at.1.0 wide) ∙ none in
        cc

half_even : (id : ℕ) → 2 * id / 2 ≡ id
half_even id = omega arith

half_odd : (id : ℕ) → (2 * id + 1) / 2 ≡ id
half_odd id = omega arith

pub twice_as_many : (digits e : ℕ) → e < digits → 2 ^ (digits - e) ≡ 2 * 2 ^ (digits - (e + 1))
twice_as_many digits e h =
    let more : digits - e ≡ 1 + (digits - (e + 1)) = omega arith in
    ap (λ (n : ℕ). 2 ^ n) more ∙ pow-add 2 1 (digits - (e + 1))

-- the ids of a division, from those of one that has a digit less in front
pub ids_from_halves : (mask : List ℕ) (box : List (ℕ × ℕ)) (e : ℕ) → e < length mask →
    flat_map (passing_halves (has_piece mask box e)) (filter (has_piece mask box (e + 1)) (range_with_len 0 (2 ^ (length mask - (e + 1)))))
    ≡ filter (has_piece mask box e) (range_with_len 0 (2 ^ (length mask - e)))
ids_from_halves mask box e h =
    sym (ap (λ (n : ℕ). filter (has_piece mask box e) (range_with_len 0 n)) (twice_as_many (length mask) e h)
    ∙ filter-halves (has_piece mask box e) (has_piece mask box (e + 1))
    (λ id none. (half_in_whole mask box e id (2 * id) (half_even id) none, half_in_whole mask box e id (2 * id + 1) (half_odd id) none))
    0 (2 ^ (length mask - (e + 1))))

-- a number among the first is small
pub range_below : (a n : ℕ) → All (λ k. k < a + n) (range_with_len a n)
range_below a n k d h =
    let long : k < n = omega (arith, length-range_with_len a n) in
    subst (λ (x : ℕ). x < a + n) (sym (get_or-range_with_len a n k d long)) (omega arith)

pub id_below : (mask : List ℕ) (box : List (ℕ × ℕ)) (e n k d : ℕ) → k < length (filter (has_piece mask box e) (range_with_len 0 n)) →
    get_or (filter (has_piece mask box e) (range_with_len 0 n)) k d < n
id_below mask box e n k d h =
    omega (arith, All-filter (has_piece mask box e) (λ x. x < 0 + n) (range_with_len 0 n) (range_below 0 n) k d h)

pub id_passes : (mask : List ℕ) (box : List (ℕ × ℕ)) (e n k d : ℕ) → k < length (filter (has_piece mask box e) (range_with_len 0 n)) →
    has_piece mask box e (get_or (filter (has_piece mask box e) (range_with_len 0 n)) k d) ≡ true
id_passes mask box e n k d h = filter_passes (has_piece mask box e) (range_with_len 0 n) k d h

-- all points of a box are of the only piece of a division with no digit in front
pub whole_box : (mask : List ℕ) (box : List (ℕ × ℕ)) (e : ℕ) → e ≡ length mask → IsOrdered box →
    0 ∷ [] ≡ filter (has_piece mask box e) (range_with_len 0 (2 ^ (length mask - e)))
whole_box mask box e same ordered =
    let one : 2 ^ (length mask - e) ≡ 1 = ap (λ (n : ℕ). 2 ^ n) (zero_left same) in
    let small : z_address mask (lower_ends box) / 2 ^ e ≡ 0 =
    ap (λ (n : ℕ). z_address mask (lower_ends box) / 2 ^ n) same ∙ div-eq_of_lt (z_address-lt mask (lower_ends box)) in
    let has : has_piece mask box e 0 ≡ true = piece_has_point mask box e 0 (lower_ends box) (LiesIn-lower_ends box ordered) small in
    sym (ap (λ (n : ℕ). filter (has_piece mask box e) (range_with_len 0 n)) one ∙ ap (λ (t : Bool). cond t (0 ∷ []) []) has)
  where
    zero_left : e ≡ length mask → length mask - e ≡ 0
    zero_left h = omega arith

-- ids fit their words
pub small_halves : (digits e id : ℕ) → digits ≤ 40 → e < digits → id < 2 ^ (digits - (e + 1)) →
    (2 * id + 1 < 2 ^ (digits - e)) × (2 * id + 1 < 2 ^ 64)
small_halves digits e id few inside small =
    let twice = twice_as_many digits e inside in
    let most : 2 ^ (digits - e) ≤ 2 ^ 40 = pow_mono (less few) in
    (omega (arith, twice, small), omega (arith, twice, small, most))
  where
    less : digits ≤ 40 → digits - e ≤ 40
    less h = omega arith

-- the numbers of a word
pub whole_small : (mask : List ℕ) (box : List (ℕ × ℕ)) (e k : ℕ) (ws : List ℕ) → length mask ≤ 40 → e < length mask →
    ws ≡ filter (has_piece mask box (e + 1)) (range_with_len 0 (2 ^ (length mask - (e + 1)))) → k < length ws →
    (2 * get_or ws k 0 + 1 < 2 ^ (length mask - e)) × (2 * get_or ws k 0 + 1 < 2 ^ 64)
whole_small mask box e k ws few inside is within =
    small_halves (length mask) e (get_or ws k 0) few inside
    (subst (λ (xs : List ℕ). k < length xs → get_or xs k 0 < 2 ^ (length mask - (e + 1))) (sym is)
    (λ h. id_below mask box (e + 1) (2 ^ (length mask - (e + 1))) k 0 h) within)

-- one number more
pub halves_more : (p : ℕ → Bool) (ids first second ws : List ℕ) (k : ℕ) → k < length ws →
    ids ≡ flat_map (passing_halves p) (take k ws) →
    first ≡ ids ++ filter p ((2 * get_or ws k 0) ∷ []) →
    second ≡ first ++ filter p ((2 * get_or ws k 0 + 1) ∷ []) →
    second ≡ flat_map (passing_halves p) (take (k + 1) ws)
halves_more p ids first second ws k inside so_far one two =
    let w : ℕ = get_or ws k 0 in
    two
    ∙ ap (λ (xs : List ℕ). xs ++ filter p ((2 * w + 1) ∷ [])) (one ∙ ap (λ (xs : List ℕ). xs ++ filter p ((2 * w) ∷ [])) so_far)
    ∙ append_assoc (flat_map (passing_halves p) (take k ws)) (filter p ((2 * w) ∷ [])) (filter p ((2 * w + 1) ∷ []))
    ∙ ap (λ (xs : List ℕ). flat_map (passing_halves p) (take k ws) ++ xs) (sym (filter-append p ((2 * w) ∷ []) ((2 * w + 1) ∷ [])))
    ∙ flat_map_more (passing_halves p) [] (take k ws) w
    ∙ ap (flat_map (passing_halves p)) (sym (take_more ws k 0 inside))

-- a number more at the end of those of a range that pass
pub range_kept : (p : ℕ → Bool) (n : ℕ) (xs ys : List ℕ) → xs ≡ filter p (range_with_len 0 n) → p n ≡ true → ys ≡ xs ++ n ∷ [] →
    ys ≡ filter p (range_with_len 0 (n + 1))
range_kept p n xs ys so_far passes is =
    is ∙ ap (λ (zs : List ℕ). zs ++ n ∷ []) so_far
    ∙ sym (ap (filter p) (range_with_len-more 0 n) ∙ filter-append p (range_with_len 0 n) ((0 + n) ∷ [])
    ∙ ap (λ (k : ℕ). filter p (range_with_len 0 n) ++ filter p (k ∷ [])) (zero-add n)
    ∙ ap (λ (t : Bool). filter p (range_with_len 0 n) ++ cond t (n ∷ []) []) passes)

pub range_skipped : (p : ℕ → Bool) (n : ℕ) (xs : List ℕ) → xs ≡ filter p (range_with_len 0 n) → p n ≡ false →
    xs ≡ filter p (range_with_len 0 (n + 1))
range_skipped p n xs so_far fails =
    so_far
    ∙ sym (ap (filter p) (range_with_len-more 0 n) ∙ filter-append p (range_with_len 0 n) ((0 + n) ∷ [])
    ∙ ap (λ (k : ℕ). filter p (range_with_len 0 n) ++ filter p (k ∷ [])) (zero-add n)
    ∙ ap (λ (t : Bool). filter p (range_with_len 0 n) ++ cond t (n ∷ []) []) fails
    ∙ append-nil (filter p (range_with_len 0 n)))
