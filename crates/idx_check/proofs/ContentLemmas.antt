-- The volume out of the blocks of a content, and the blocks of its files.
use Rattle.std.proofs.Common.{◌≡◌, ℕ, zero, suc, ◌+◌, ◌-◌, ◌*◌, ◌/◌, ◌%◌, ◌^◌, ◌<◌, ◌≤◌, Bool, true, false, cond, List, [], ◌∷◌, ◌++◌, length, map, take, drop, get_or, Some, None, refl, sym, ap, subst, ◌∙◌, arith, add-zero}
use Rattle.std.specs.Prelude.{All, Option, find, filter, replicate, slice_get, slice_index, ◌||◌, ◌==◌}
use Rattle.std.specs.Option.{option_map_or}
use Rattle.std.specs.List.{flat_map, list_any, range_with_len, zip}
use Rattle.std.proofs.Math.Nat.{div-eq_of_lt-le, mod-lt}
use Rattle.std.proofs.lemmas.Bool.{eq-eqb, eqb-true}
use Rattle.std.proofs.lemmas.Nat.{pow_pos}
use Rattle.std.proofs.lemmas.List.{get_or-map, length-drop, length-map, length-replicate, length-take-le}
use Rattle.std.proofs.lemmas.List.Elements.{All-from_get_or}
use Rattle.std.proofs.lemmas.Option.{get_or_from_slice_get, slice_get-get_or, slice_get_within}
use Rattle.idx_geom.specs.Region.{points}
use Rattle.idx_geom.specs.Volume.{IsVolume, sample_at}
use Rattle.idx_geom.proofs.PointsLemmas.{LiesIn-slice_get}
use Rattle.idx_hz.specs.Address.{hz_address}
use Rattle.idx_rowmajor.specs.declared.layout.Layout.{Layout}
use Rattle.idx_layout.specs.Layout.{arranged}
use Rattle.idx_layout.specs.Content.{field_in, sample_in, volume_in}
use Rattle.idx_layout.specs.Files.{block_in_file, file_bytes, rows_of_file}
use Rattle.idx_layout.specs.Placing.{Placing, block_bytes, block_of_samples, is_present, present_blocks, stored_sample}
use Rattle.idx_layout.proofs.ListLemmas.{list_any-slice_get, passing}
use Rattle.idx_table.specs.Row.{row_bytes}
use Rattle.idx_check.specs.Wanted.{is_of_box}

-- ---- lists
nothing_found : {X : Type 0} (test : X → Bool) (xs : List X) → find test xs ≡ None → list_any test xs ≡ false
nothing_found test [] none = refl
nothing_found {X = X} test (x ∷ xs) none = by_test (nothing_found test xs) (test x) refl
  where
    by_test : (find test xs ≡ None → list_any test xs ≡ false) → (b : Bool) → test x ≡ b → list_any test (x ∷ xs) ≡ false
    by_test more true is =
        let wrong : Some x ≡ None = sym (ap (λ (b : Bool). cond b (Some x) (find test xs)) is) ∙ none in absurd (cc)
    by_test more false is =
        ap (λ (b : Bool). b || list_any test xs) is ∙ more (sym (ap (λ (b : Bool). cond b (Some x) (find test xs)) is) ∙ none)

found : {X : Type 0} (test : X → Bool) (xs : List X) (x : X) → find test xs ≡ Some x → (k : ℕ) × (slice_get xs k ≡ Some x) × (test x ≡ true)
found test [] x e = let wrong : None ≡ Some x = e in absurd (cc)
found {X = X} test (y ∷ ys) x e = by_test (found test ys x) (test y) refl
  where
    by_test : (find test ys ≡ Some x → (k : ℕ) × (slice_get ys k ≡ Some x) × (test x ≡ true)) →
        (b : Bool) → test y ≡ b → (k : ℕ) × (slice_get (y ∷ ys) k ≡ Some x) × (test x ≡ true)
    by_test more true is =
        let both : Some y ≡ Some x = sym (ap (λ (b : Bool). cond b (Some y) (find test ys)) is) ∙ e in
        let same : y ≡ x = cc in (0, both, ap test (sym same) ∙ is)
    by_test more false is =
        let next = more (sym (ap (λ (b : Bool). cond b (Some y) (find test ys)) is) ∙ e) in (suc next.0, next.1, next.2)

-- pieces that are the same one by one
pub same_pieces : {X Y : Type 0} (f g : X → List Y) (xs : List X) → ((i : ℕ) (x : X) → slice_get xs i ≡ Some x → f x ≡ g x) → flat_map f xs ≡ flat_map g xs
same_pieces f g [] same = refl
same_pieces f g (x ∷ xs) same =
    ap (λ ys. ys ++ flat_map f xs) (same 0 x refl) ∙ ap (λ ys. g x ++ ys) (same_pieces f g xs (λ i y at. same (suc i) y at))

same_range : {Y : Type 0} (f g : ℕ → List Y) (a n : ℕ) → ((k : ℕ) → a ≤ k → k < a + n → f k ≡ g k) → flat_map f (range_with_len a n) ≡ flat_map g (range_with_len a n)
same_range f g a zero same = refl
same_range f g a (suc n) same =
    ap (λ ys. ys ++ flat_map f (range_with_len (a + 1) n)) (same a (omega arith) (omega arith))
    ∙ ap (λ ys. g a ++ ys) (same_range f g (a + 1) n (λ k from to. same k (omega arith) (omega arith)))

-- numbers of a range that pass a test
pub passing_number : (test : ℕ → Bool) (a n i x : ℕ) → slice_get (filter test (range_with_len a n)) i ≡ Some x → (a ≤ x) × (x < a + n) × (test x ≡ true)
passing_number test a zero i x e = let wrong : ◌≡◌ {A = Option ℕ} None (Some x) = e in absurd (cc)
passing_number test a (suc n) i x e = by_test (passing_number test (a + 1) n) (test a) refl i e
  where
    rest : List ℕ
    rest = filter test (range_with_len (a + 1) n)

    wider : (a + 1 ≤ x) × (x < a + 1 + n) × (test x ≡ true) → (a ≤ x) × (x < a + suc n) × (test x ≡ true)
    wider h = (omega (arith, h.0), omega (arith, h.1), h.2)

    by_test : ((i x : ℕ) → slice_get rest i ≡ Some x → (a + 1 ≤ x) × (x < a + 1 + n) × (test x ≡ true)) →
        (b : Bool) → test a ≡ b → (i : ℕ) → slice_get (cond (test a) (a ∷ rest) rest) i ≡ Some x → (a ≤ x) × (x < a + suc n) × (test x ≡ true)
    by_test more true is zero e =
        let first : ◌≡◌ {A = Option ℕ} (Some a) (Some x) = sym (ap (λ (b : Bool). slice_get (cond b (a ∷ rest) rest) 0) is) ∙ e in
        let same : a ≡ x = cc in (omega (arith, same), omega (arith, same), ap test (sym same) ∙ is)
    by_test more true is (suc i) e = wider (more i x (sym (ap (λ (b : Bool). slice_get (cond b (a ∷ rest) rest) (suc i)) is) ∙ e))
    by_test more false is i e = wider (more i x (sym (ap (λ (b : Bool). slice_get (cond b (a ∷ rest) rest) i) is) ∙ e))

-- ---- samples
-- the sample with an address that a content gives a field: that of the box's point that has it, and zeros where none has
abbrev pub sample_of : Placing → (ℕ → ℕ → List ℕ) → ℕ → ℕ → List ℕ
sample_of l content field address =
    cond (is_of_box l address)
    (take (slice_index l.sizes field) (drop (slice_index l.sizes field * (address % 2 ^ l.bits)) (content field (address / 2 ^ l.bits))))
    (replicate (slice_index l.sizes field) 0)

stored_sample-field_in : (l : Placing) (content : ℕ → ℕ → List ℕ) (field address : ℕ) →
    stored_sample l (slice_index l.sizes field) (field_in l content field) address ≡ sample_of l content field address
stored_sample-field_in l content field address = by_point (find (λ p. hz_address l.mask p == address) (points l.region)) refl
  where
    size : ℕ
    size = slice_index l.sizes field

    piece : ℕ → List ℕ
    piece a = take size (drop (size * (a % 2 ^ l.bits)) (content field (a / 2 ^ l.bits)))

    by_point : (o : Option (List ℕ)) → find (λ p. hz_address l.mask p == address) (points l.region) ≡ o →
        option_map_or (sample_at l.region (field_in l content field)) (find (λ p. hz_address l.mask p == address) (points l.region)) (replicate size 0) ≡ cond (is_of_box l address) (piece address) (replicate size 0)
    by_point None is =
        ap (λ o. option_map_or (sample_at l.region (field_in l content field)) o (replicate size 0)) is
        ∙ sym (ap (λ (b : Bool). cond b (piece address) (replicate size 0)) (nothing_found (λ p. hz_address l.mask p == address) (points l.region) is))
    by_point (Some p) is =
        let at = found (λ p. hz_address l.mask p == address) (points l.region) p is in
        let lies = LiesIn-slice_get l.region at.0 p at.1 in
        let here : hz_address l.mask p ≡ address = eqb-true (hz_address l.mask p) address at.2 in
        ap (λ o. option_map_or (sample_at l.region (field_in l content field)) o (replicate size 0)) is
        ∙ ap (λ k. get_or (field_in l content field) k []) lies.1
        ∙ get_or-map (sample_in l content field) (points l.region) at.0 [] [] (slice_get_within (points l.region) at.0 p at.1)
        ∙ ap (sample_in l content field) (get_or_from_slice_get (points l.region) at.0 p [] at.1)
        ∙ ap piece here
        ∙ sym (ap (λ (b : Bool). cond b (piece address) (replicate size 0)) (list_any-slice_get (λ p. hz_address l.mask p == address) (points l.region) at.0 p at.1 at.2))

-- the samples of a block
abbrev pub block_from : Placing → (ℕ → ℕ → List ℕ) → ℕ → ℕ → List ℕ
block_from l content field block = flat_map (sample_of l content field) (range_with_len (block * 2 ^ l.bits) (2 ^ l.bits))

pub block_of_content : (l : Placing) (content : ℕ → ℕ → List ℕ) (field block : ℕ) →
    block_of_samples l (slice_index l.sizes field) (field_in l content field) block ≡ block_from l content field block
block_of_content l content field block =
    same_pieces (stored_sample l (slice_index l.sizes field) (field_in l content field)) (sample_of l content field) (range_with_len (block * 2 ^ l.bits) (2 ^ l.bits))
    (λ i address at. stored_sample-field_in l content field address)

-- they depend on nothing but the block
block_from-same : (l : Placing) (this that : ℕ → ℕ → List ℕ) (field block : ℕ) → this field block ≡ that field block → block_from l this field block ≡ block_from l that field block
block_from-same l this that field block same =
    same_range (sample_of l this field) (sample_of l that field) (block * 2 ^ l.bits) (2 ^ l.bits) (λ address from to.
    let here : address / 2 ^ l.bits ≡ block = div-eq_of_lt-le (2 ^ l.bits) from (omega (arith, to, one_more block (2 ^ l.bits))) in
    let size : ℕ = slice_index l.sizes field in
    ap (λ (bytes : List ℕ). cond (is_of_box l address) (take size (drop (size * (address % 2 ^ l.bits)) bytes)) (replicate size 0))
    (ap (this field) here ∙ same ∙ ap (that field) (sym here)))
  where
    one_more : (a b : ℕ) → (a + 1) * b ≡ a * b + b
    one_more a b = grind arith

-- ---- files
-- two contents have the same present blocks of a file
pub record HaveSame (l : Placing) (file : ℕ) (this that : ℕ → ℕ → List ℕ) : Type 0 where
  pub blocks : (field block : ℕ) → field < length l.sizes → file ≤ block → block < file + l.per_file → is_present l block ≡ true → this field block ≡ that field block

same_fields : {X Y : Type 0} (f : ℕ → X → List Y) (sizes : List ℕ) (this that : ℕ → X) (a : ℕ) →
    ((i : ℕ) → i < length sizes → f (slice_index sizes i) (this (a + i)) ≡ f (slice_index sizes i) (that (a + i))) →
    flat_map (λ (field : ℕ × X). f field.0 field.1) (zip sizes (map this (range_with_len a (length sizes)))) ≡ flat_map (λ (field : ℕ × X). f field.0 field.1) (zip sizes (map that (range_with_len a (length sizes))))
same_fields f [] this that a same = refl
same_fields {X = X} {Y = Y} f (size ∷ sizes) this that a same =
    let here : a + 0 ≡ a = add-zero a in
    let first : f size (this a) ≡ f size (that a) = ap (λ k. f size (this k)) (sym here) ∙ same 0 (omega arith) ∙ ap (λ k. f size (that k)) here in
    let rest = same_fields f sizes this that (a + 1) (λ i within.
    let moved : a + 1 + i ≡ a + suc i = omega arith in
    ap (λ k. f (slice_index sizes i) (this k)) moved ∙ same (suc i) (omega arith) ∙ ap (λ k. f (slice_index sizes i) (that k)) (sym moved)) in
    ap (λ (ys : List Y). ys ++ flat_map (λ (field : ℕ × X). f field.0 field.1) (zip sizes (map this (range_with_len (a + 1) (length sizes))))) first
    ∙ ap (λ (ys : List Y). f size (that a) ++ ys) rest

-- then their volumes have the same file
pub same_file : (layout : Layout) (l : Placing) (file : ℕ) (this that : ℕ → ℕ → List ℕ) → HaveSame l file this that →
    file_bytes layout l (volume_in l this) file ≡ file_bytes layout l (volume_in l that) file
same_file layout l file this that have =
    ap (λ (blocks : List ℕ). replicate 40 0 ++ flat_map row_bytes (rows_of_file layout l file) ++ blocks)
    (same_fields (λ size samples. flat_map (block_in_file layout l size samples) (present_blocks l file)) l.sizes (field_in l this) (field_in l that) 0 (λ field within.
    let here : 0 + field ≡ field = omega arith in
    let size : ℕ = slice_index l.sizes field in
    ap (λ k. flat_map (block_in_file layout l size (field_in l this k)) (present_blocks l file)) here
    ∙ same_pieces (block_in_file layout l size (field_in l this field)) (block_in_file layout l size (field_in l that field)) (present_blocks l file) (λ i block at.
    let place = passing_number (is_present l) file l.per_file i block at in
    ap (arranged layout l size block) (block_of_content l this field block
    ∙ block_from-same l this that field block (have.blocks field block within place.0 place.1 place.2)
    ∙ sym (block_of_content l that field block)))
    ∙ ap (λ k. flat_map (block_in_file layout l size (field_in l that k)) (present_blocks l file)) (sym here)))

-- ---- volumes
-- the present blocks of a content have their lengths
pub record HasLengths (l : Placing) (content : ℕ → ℕ → List ℕ) : Type 0 where
  pub lengths : (field block : ℕ) → field < length l.sizes → is_present l block ≡ true → length (content field block) ≡ block_bytes l field

length-piece : (size n j : ℕ) (bytes : List ℕ) → length bytes ≡ size * n → j < n → length (take size (drop (size * j) bytes)) ≡ size
length-piece size n j bytes whole within =
    let fits : size * j + size ≤ size * n = subst (λ k. size * j + size ≤ size * k) (sym (cut n j within)) (grind arith) in
    length-take-le size (drop (size * j) bytes) (omega (arith, fits, whole, length-drop (size * j) bytes))
  where
    cut : (n j : ℕ) → j < n → n ≡ j + 1 + (n - j - 1)
    cut n j within = omega arith

-- the block of a point of the box is present
present_at : (l : Placing) (address i : ℕ) (p : List ℕ) → slice_get (points l.region) i ≡ Some p → hz_address l.mask p ≡ address → is_present l (address / 2 ^ l.bits) ≡ true
present_at l address i p at here =
    list_any-slice_get (λ p. hz_address l.mask p / 2 ^ l.bits == address / 2 ^ l.bits) (points l.region) i p at (eq-eqb (hz_address l.mask p / 2 ^ l.bits) (address / 2 ^ l.bits) (ap (λ a. a / 2 ^ l.bits) here))

pub length-sample_of : (l : Placing) (content : ℕ → ℕ → List ℕ) (field address : ℕ) → HasLengths l content → field < length l.sizes → length (sample_of l content field address) ≡ slice_index l.sizes field
length-sample_of l content field address has within = by_test (is_of_box l address) refl
  where
    size : ℕ
    size = slice_index l.sizes field

    piece : List ℕ
    piece = take size (drop (size * (address % 2 ^ l.bits)) (content field (address / 2 ^ l.bits)))

    by_test : (b : Bool) → is_of_box l address ≡ b → length (cond b piece (replicate size 0)) ≡ size
    by_test true is =
        let at = passing (λ p. hz_address l.mask p == address) (points l.region) is in
        let present : is_present l (address / 2 ^ l.bits) ≡ true = present_at l address at.0 at.1 at.2 (eqb-true (hz_address l.mask at.1) address at.3) in
        length-piece size (2 ^ l.bits) (address % 2 ^ l.bits) (content field (address / 2 ^ l.bits)) (has.lengths field (address / 2 ^ l.bits) within present) (mod-lt address (pow_pos l.bits))
    by_test false is = length-replicate size 0

length-sample_in : (l : Placing) (content : ℕ → ℕ → List ℕ) (field i : ℕ) (p : List ℕ) → HasLengths l content → field < length l.sizes → slice_get (points l.region) i ≡ Some p →
    length (sample_in l content field p) ≡ slice_index l.sizes field
length-sample_in l content field i p has within at =
    let address : ℕ = hz_address l.mask p in
    length-piece (slice_index l.sizes field) (2 ^ l.bits) (address % 2 ^ l.bits) (content field (address / 2 ^ l.bits)) (has.lengths field (address / 2 ^ l.bits) within (present_at l address i p at refl)) (mod-lt address (pow_pos l.bits))

fields_fill : (sizes : List ℕ) (n : ℕ) (of : ℕ → List (List ℕ)) (a : ℕ) →
    ((i : ℕ) → i < length sizes → (length (of (a + i)) ≡ n) × All (λ sample. length sample ≡ slice_index sizes i) (of (a + i))) →
    IsVolume sizes n (map of (range_with_len a (length sizes)))
fields_fill [] n of a each = tt
fields_fill (size ∷ sizes) n of a each =
    let here : a + 0 ≡ a = add-zero a in
    let first = subst (λ k. (length (of k) ≡ n) × All (λ sample. length sample ≡ size) (of k)) here (each 0 (omega arith)) in (
      first.0,
      first.1,
      fields_fill sizes n of (a + 1) (λ i within.
          let moved : a + suc i ≡ a + 1 + i = omega arith in
          subst (λ k. (length (of k) ≡ n) × All (λ sample. length sample ≡ slice_index sizes i) (of k)) moved (each (suc i) (omega arith))),
    )

-- what is put together from such blocks is a volume
pub volume_fills : (l : Placing) (content : ℕ → ℕ → List ℕ) → HasLengths l content → IsVolume l.sizes (length (points l.region)) (volume_in l content)
volume_fills l content has = fields_fill l.sizes (length (points l.region)) (field_in l content) 0 (λ field within.
    let here : field ≡ 0 + field = omega arith in
    subst (λ k. (length (field_in l content k) ≡ length (points l.region)) × All (λ sample. length sample ≡ slice_index l.sizes field) (field_in l content k)) here (
      length-map (points l.region) (sample_in l content field),
      All-from_get_or (λ sample. length sample ≡ slice_index l.sizes field) (field_in l content field) [] (λ i less.
          let there : i < length (points l.region) = omega (arith, less, length-map (points l.region) (sample_in l content field)) in
          ap length (get_or-map (sample_in l content field) (points l.region) i [] [] there)
          ∙ length-sample_in l content field i (get_or (points l.region) i []) has within (slice_get-get_or (points l.region) i [] there)),
    ))
