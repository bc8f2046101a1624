-- Where a block begins, in sums over the fields.
use Rattle.std.proofs.Common.{◌≡◌, ℕ, zero, suc, ◌+◌, ◌-◌, ◌*◌, ◌<◌, ◌≤◌, Bool, true, false, cond, List, [], ◌∷◌, ◌++◌, length, map, refl, sym, ap, ◌∙◌, arith, append-nil, zero-add, eq-eqb, Some, None}
use Rattle.std.proofs.Math.Nat.{add-mul}
use Rattle.std.specs.Prelude.{filter, sum_by, nat_lt, slice_get, Option, ◌||◌, ◌&&◌, ◌==◌}
use Rattle.std.specs.List.{flat_map, range_with_len}
use Rattle.std.proofs.lemmas.Bool.{lt-ltb, le-ltb, ne_eqb}
use Rattle.std.proofs.lemmas.Grind.{flat_map-append}
use Rattle.std.proofs.lemmas.List.Elements.{filter-append}
use Rattle.std.proofs.lemmas.List.Sums.{sum_by-append, sum_by-cons}
use Rattle.idx_layout.specs.Placing.{Placing, block_bytes, present_blocks, is_present}
use Rattle.idx_layout.specs.Files.{stands_before, offset_of, length_of_file, row_count}
use Rattle.idx_table.specs.Table.{table_bytes}
use Rattle.idx_layout.proofs.ListLemmas.{range-split}

-- the blocks of one field
abbrev pub of_field : List ℕ → ℕ → List (ℕ × ℕ)
of_field blocks field = map (λ block. (field, block)) blocks

-- the bytes of blocks, by their fields
abbrev pub bytes_of : (ℕ → ℕ) → List (ℕ × ℕ) → ℕ
bytes_of size stored = sum_by (λ s. size s.0) stored

bytes_of-field : (size : ℕ → ℕ) (blocks : List ℕ) (field : ℕ) → bytes_of size (of_field blocks field) ≡ size field * length blocks
bytes_of-field size [] field = omega arith
bytes_of-field size (b ∷ bs) field =
    sum_by-cons (λ s. size s.0) (field, b) (of_field bs field) ∙ ap (λ n. size field + n) (bytes_of-field size bs field)
    ∙ one_more (size field) (length bs)
  where
    one_more : (s n : ℕ) → s + s * n ≡ s * suc n
    one_more s n = grind arith

pub bytes_of-fields : (size : ℕ → ℕ) (blocks : List ℕ) (a n : ℕ) → bytes_of size (flat_map (of_field blocks) (range_with_len a n)) ≡ sum_by size (range_with_len a n) * length blocks
bytes_of-fields size blocks a zero = omega arith
bytes_of-fields size blocks a (suc n) =
    let rest = bytes_of-fields size blocks (a + 1) n in
    sum_by-append (λ s. size s.0) (of_field blocks a) (flat_map (of_field blocks) (range_with_len (a + 1) n))
    ∙ ap (λ k. k + bytes_of size (flat_map (of_field blocks) (range_with_len (a + 1) n))) (bytes_of-field size blocks a)
    ∙ ap (λ k. size a * length blocks + k) rest
    ∙ sym (add-mul (size a) (sum_by size (range_with_len (a + 1) n)) (length blocks))
    ∙ ap (λ k. k * length blocks) (sym (sum_by-cons size a (range_with_len (a + 1) n)))

-- a block of an earlier field stands before
field_before : (field block : ℕ) (blocks : List ℕ) (other : ℕ) → other < field → filter (λ s. stands_before s (field, block)) (of_field blocks other) ≡ of_field blocks other
field_before field block [] other h = refl
field_before field block (b ∷ bs) other h =
    ap (λ t. cond (t || ((other == field) && nat_lt b block))
    ((other, b) ∷ filter (λ s. stands_before s (field, block)) (of_field bs other))
    (filter (λ s. stands_before s (field, block)) (of_field bs other))) (lt-ltb other field h)
    ∙ ap (λ rest. (other, b) ∷ rest) (field_before field block bs other h)

stands-same : (field block b : ℕ) → stands_before (field, b) (field, block) ≡ nat_lt b block
stands-same field block b =
    ap (λ t. t || ((field == field) && nat_lt b block)) (le-ltb field field (omega arith)) ∙ ap (λ t. t && nat_lt b block) (eq-eqb field field refl)

stands-behind : (field block other b : ℕ) → field < other → stands_before (other, b) (field, block) ≡ false
stands-behind field block other b h =
    ap (λ t. t || ((other == field) && nat_lt b block)) (le-ltb other field (omega arith)) ∙ ap (λ t. t && nat_lt b block) (ne_eqb other field (λ same. absurd (omega arith)))

-- of the same field those of a lesser number do
field_same : (field block : ℕ) (blocks : List ℕ) → filter (λ s. stands_before s (field, block)) (of_field blocks field) ≡ of_field (filter (λ b. nat_lt b block) blocks) field
field_same field block [] = refl
field_same field block (b ∷ bs) =
    ap (λ t. cond t ((field, b) ∷ filter (λ s. stands_before s (field, block)) (of_field bs field)) (filter (λ s. stands_before s (field, block)) (of_field bs field))) (stands-same field block b)
    ∙ ap (λ rest. cond (nat_lt b block) ((field, b) ∷ rest) rest) (field_same field block bs)
    ∙ out (nat_lt b block)
  where
    out : (t : Bool) → cond t ((field, b) ∷ of_field (filter (λ b. nat_lt b block) bs) field)
        (of_field (filter (λ b. nat_lt b block) bs) field) ≡ of_field
        (cond t (b ∷ filter (λ b. nat_lt b block) bs) (filter (λ b. nat_lt b block) bs)) field
    out true = refl
    out false = refl

-- and of a later field none
field_behind : (field block : ℕ) (blocks : List ℕ) (other : ℕ) → field < other → filter (λ s. stands_before s (field, block)) (of_field blocks other) ≡ []
field_behind field block [] other h = refl
field_behind field block (b ∷ bs) other h =
    ap (λ t. cond t ((other, b) ∷ filter (λ s. stands_before s (field, block)) (of_field bs other))
    (filter (λ s. stands_before s (field, block)) (of_field bs other))) (stands-behind field block other b h)
    ∙ field_behind field block bs other h

fields_before : (field block : ℕ) (blocks : List ℕ) (a n : ℕ) → a + n ≤ field →
    filter (λ s. stands_before s (field, block)) (flat_map (of_field blocks) (range_with_len a n)) ≡ flat_map
    (of_field blocks) (range_with_len a n)
fields_before field block blocks a zero h = refl
fields_before field block blocks a (suc n) h =
    filter-append (λ s. stands_before s (field, block)) (of_field blocks a) (flat_map (of_field blocks) (range_with_len (a + 1) n))
    ∙ ap (λ first. first ++ filter (λ s. stands_before s (field, block)) (flat_map (of_field blocks) (range_with_len (a + 1) n))) (field_before field block blocks a (omega arith))
    ∙ ap (λ rest. of_field blocks a ++ rest) (fields_before field block blocks (a + 1) n (omega arith))

fields_behind : (field block : ℕ) (blocks : List ℕ) (a n : ℕ) → field < a → filter (λ s. stands_before s (field, block)) (flat_map (of_field blocks) (range_with_len a n)) ≡ []
fields_behind field block blocks a zero h = refl
fields_behind field block blocks a (suc n) h =
    filter-append (λ s. stands_before s (field, block)) (of_field blocks a) (flat_map (of_field blocks) (range_with_len (a + 1) n))
    ∙ ap (λ first. first ++ filter (λ s. stands_before s (field, block)) (flat_map (of_field blocks) (range_with_len (a + 1) n))) (field_behind field block blocks a h)
    ∙ fields_behind field block blocks (a + 1) n (omega arith)

-- the blocks of all fields that stand before one
stored_before : (field block : ℕ) (blocks : List ℕ) (n : ℕ) → field < n →
    filter (λ s. stands_before s (field, block)) (flat_map (of_field blocks) (range_with_len 0 n)) ≡ flat_map
    (of_field blocks) (range_with_len 0 field) ++ of_field (filter (λ b. nat_lt b block) blocks) field
stored_before field block blocks n h =
    let p : ℕ × ℕ → Bool = λ s. stands_before s (field, block) in
    let front : List (ℕ × ℕ) = flat_map (of_field blocks) (range_with_len 0 field) in
    let behind : List (ℕ × ℕ) = flat_map (of_field blocks) (range_with_len (field + 1) (n - field - 1)) in
    let cut : n ≡ field + suc (n - field - 1) = omega arith in
    let split : range_with_len 0 n ≡ range_with_len 0 field ++ range_with_len field (suc (n - field - 1)) =
    ap (range_with_len 0) cut ∙ range-split 0 field (suc (n - field - 1)) ∙ ap (λ a. range_with_len 0 field ++ range_with_len a (suc (n - field - 1))) (zero-add field) in
    ap (λ xs. filter p (flat_map (of_field blocks) xs)) split
    ∙ ap (filter p) (flat_map-append (of_field blocks) (range_with_len 0 field) (range_with_len field (suc (n - field - 1))))
    ∙ filter-append p front (of_field blocks field ++ behind)
    ∙ ap (λ xs. xs ++ filter p (of_field blocks field ++ behind)) (fields_before field block blocks 0 field (omega arith))
    ∙ ap (λ xs. front ++ xs) (filter-append p (of_field blocks field) behind
    ∙ ap (λ xs. xs ++ filter p behind) (field_same field block blocks)
    ∙ ap (λ xs. of_field (filter (λ b. nat_lt b block) blocks) field ++ xs) (fields_behind field block blocks (field + 1) (n - field - 1) (omega arith))
    ∙ append-nil (of_field (filter (λ b. nat_lt b block) blocks) field))

-- where a block begins
pub offset_of-sums : (l : Placing) (file field block : ℕ) → field < length l.sizes →
    offset_of l file field block ≡ table_bytes (row_count l)
    + (sum_by (block_bytes l) (range_with_len 0 field) * length (present_blocks l file) + block_bytes l field * length
    (filter (λ b. nat_lt b block) (present_blocks l file)))
offset_of-sums l file field block h =
    let blocks : List ℕ = present_blocks l file in
    let own : List ℕ = filter (λ b. nat_lt b block) blocks in
    let front : List (ℕ × ℕ) = flat_map (of_field blocks) (range_with_len 0 field) in
    ap (λ n. table_bytes (row_count l) + n)
    (ap (bytes_of (block_bytes l)) (stored_before field block blocks (length l.sizes) h)
    ∙ sum_by-append (λ s. block_bytes l s.0) front (of_field own field)
    ∙ ap (λ n. n + bytes_of (block_bytes l) (of_field own field)) (bytes_of-fields (block_bytes l) blocks 0 field)
    ∙ ap (λ n. sum_by (block_bytes l) (range_with_len 0 field) * length blocks + n) (bytes_of-field (block_bytes l) own field))

-- how many bytes a file has
pub length_of_file-sums : (l : Placing) (file : ℕ) → length_of_file l file ≡ table_bytes (row_count l) + sum_by (block_bytes l) (range_with_len 0 (length l.sizes)) * length (present_blocks l file)
length_of_file-sums l file =
    ap (λ n. table_bytes (row_count l) + n) (bytes_of-fields (block_bytes l) (present_blocks l file) 0 (length l.sizes))

number_below : (p : ℕ → Bool) (a n block : ℕ) → a + n ≤ block → filter (λ b. nat_lt b block) (filter p (range_with_len a n)) ≡ filter p (range_with_len a n)
number_below p a zero block h = refl
number_below p a (suc n) block h = by_test (p a) (number_below p (a + 1) n block (omega arith))
  where
    rest : List ℕ
    rest = filter p (range_with_len (a + 1) n)

    by_test : (t : Bool) → filter (λ b. nat_lt b block) rest ≡ rest → filter (λ b. nat_lt b block) (cond t (a ∷ rest) rest) ≡ cond t (a ∷ rest) rest
    by_test true e =
        ap (λ t. cond t (a ∷ filter (λ b. nat_lt b block) rest) (filter (λ b. nat_lt b block) rest)) (lt-ltb a block (omega arith)) ∙ ap (λ xs. a ∷ xs) e
    by_test false e = e

number_behind : (p : ℕ → Bool) (a n block : ℕ) → block ≤ a → filter (λ b. nat_lt b block) (filter p (range_with_len a n)) ≡ []
number_behind p a zero block h = refl
number_behind p a (suc n) block h = by_test (p a) (number_behind p (a + 1) n block (omega arith))
  where
    rest : List ℕ
    rest = filter p (range_with_len (a + 1) n)

    by_test : (t : Bool) → filter (λ b. nat_lt b block) rest ≡ [] → filter (λ b. nat_lt b block) (cond t (a ∷ rest) rest) ≡ []
    by_test true e =
        ap (λ t. cond t (a ∷ filter (λ b. nat_lt b block) rest) (filter (λ b. nat_lt b block) rest)) (le-ltb a block h) ∙ e
    by_test false e = e

-- the present blocks of a file whose numbers are below one of its places
pub present_before : (l : Placing) (file block : ℕ) → file ≤ block → block ≤ file + l.per_file →
    filter (λ b. nat_lt b block) (present_blocks l file) ≡ filter (is_present l) (range_with_len file (block - file))
present_before l file block from to =
    let m : ℕ = block - file in
    let n : ℕ = l.per_file - m in
    let less : ℕ → Bool = λ b. nat_lt b block in
    let cut : l.per_file ≡ m + n = omega arith in
    let front : List ℕ = filter (is_present l) (range_with_len file m) in
    let behind : List ℕ = filter (is_present l) (range_with_len (file + m) n) in
    ap (λ k. filter less (filter (is_present l) (range_with_len file k))) cut
    ∙ ap (λ xs. filter less (filter (is_present l) xs)) (range-split file m n)
    ∙ ap (filter less) (filter-append (is_present l) (range_with_len file m) (range_with_len (file + m) n))
    ∙ filter-append less front behind
    ∙ ap (λ xs. xs ++ filter less behind) (number_below (is_present l) file m block (omega arith))
    ∙ ap (λ xs. front ++ xs) (number_behind (is_present l) (file + m) n block (omega arith))
    ∙ append-nil front

-- ---- the place of a block among the present ones
number_from : (p : ℕ → Bool) (a n i b : ℕ) → slice_get (filter p (range_with_len a n)) i ≡ Some b → a ≤ b
number_from p a zero i b e = let wrong : ◌≡◌ {A = Option ℕ} None (Some b) = e in cc
number_from p a (suc n) i b e = by_test (number_from p (a + 1) n) (p a) refl i e
  where
    rest : List ℕ
    rest = filter p (range_with_len (a + 1) n)

    by_test : ((i b : ℕ) → slice_get rest i ≡ Some b → a + 1 ≤ b) → (t : Bool) → p a ≡ t → (i : ℕ) → slice_get (cond (p a) (a ∷ rest) rest) i ≡ Some b → a ≤ b
    by_test more true is zero e =
        let first : ◌≡◌ {A = Option ℕ} (Some a) (Some b) = sym (ap (λ (t : Bool). slice_get (cond t (a ∷ rest) rest) 0) is) ∙ e in
        let same : a ≡ b = cc in omega (arith, same)
    by_test more true is (suc i) e = omega (arith, more i b (sym (ap (λ (t : Bool). slice_get (cond t (a ∷ rest) rest) (suc i)) is) ∙ e))
    by_test more false is i e = omega (arith, more i b (sym (ap (λ (t : Bool). slice_get (cond t (a ∷ rest) rest) i) is) ∙ e))

-- as many stand before a present block as its place says
pub place_among : (p : ℕ → Bool) (a n i b : ℕ) → slice_get (filter p (range_with_len a n)) i ≡ Some b → length (filter (λ other. nat_lt other b) (filter p (range_with_len a n))) ≡ i
place_among p a zero i b e = let wrong : ◌≡◌ {A = Option ℕ} None (Some b) = e in cc
place_among p a (suc n) i b e = by_test (place_among p (a + 1) n) (p a) refl i e
  where
    rest : List ℕ
    rest = filter p (range_with_len (a + 1) n)

    less : ℕ → Bool
    less other = nat_lt other b

    by_test : ((i b : ℕ) → slice_get rest i ≡ Some b → length (filter (λ other. nat_lt other b) rest) ≡ i) →
        (t : Bool) → p a ≡ t → (i : ℕ) → slice_get (cond (p a) (a ∷ rest) rest) i ≡ Some b →
        length (filter (λ other. nat_lt other b) (cond (p a) (a ∷ rest) rest)) ≡ i
    by_test more true is zero e =
        let first : ◌≡◌ {A = Option ℕ} (Some a) (Some b) = sym (ap (λ (t : Bool). slice_get (cond t (a ∷ rest) rest) 0) is) ∙ e in
        let same : a ≡ b = cc in
        ap (λ (t : Bool). length (filter (λ other. nat_lt other b) (cond t (a ∷ rest) rest))) is
        ∙ ap (λ (t : Bool). length (cond t (a ∷ filter (λ other. nat_lt other b) rest) (filter (λ other. nat_lt other b) rest))) (le-ltb a b (omega (arith, same)))
        ∙ ap length (number_behind p (a + 1) n b (omega (arith, same)))
    by_test more true is (suc i) e =
        let later : slice_get rest i ≡ Some b = sym (ap (λ (t : Bool). slice_get (cond t (a ∷ rest) rest) (suc i)) is) ∙ e in
        ap (λ (t : Bool). length (filter (λ other. nat_lt other b) (cond t (a ∷ rest) rest))) is
        ∙ ap (λ (t : Bool). length (cond t (a ∷ filter (λ other. nat_lt other b) rest) (filter (λ other. nat_lt other b) rest))) (lt-ltb a b (omega (arith, number_from p (a + 1) n i b later)))
        ∙ ap suc (more i b later)
    by_test more false is i e =
        ap (λ (t : Bool). length (filter (λ other. nat_lt other b) (cond t (a ∷ rest) rest))) is
        ∙ more i b (sym (ap (λ (t : Bool). slice_get (cond t (a ∷ rest) rest) i) is) ∙ e)

-- where the present block of a place among them begins
pub offset_of-place : (l : Placing) (file field i block : ℕ) → field < length l.sizes → slice_get (present_blocks l file) i ≡ Some block →
    offset_of l file field block ≡ table_bytes (row_count l) + (sum_by (block_bytes l) (range_with_len 0 field) * length (present_blocks l file) + block_bytes l field * i)
offset_of-place l file field i block h e =
    offset_of-sums l file field block h
    ∙ ap (λ n. table_bytes (row_count l) + (sum_by (block_bytes l) (range_with_len 0 field) * length
    (present_blocks l file) + block_bytes l field * n)) (place_among (is_present l) file l.per_file i block e)
