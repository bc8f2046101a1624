-- Blocks stand where their rows say.
use Rattle.std.proofs.Common.{◌≡◌, ℕ, zero, suc, ◌+◌, ◌-◌, ◌*◌, ◌^◌, ◌<◌, ◌≤◌, Bool, true, false, cond, List, [], ◌∷◌, ◌++◌, Option, Some, None, length, length-append, map, take, drop, refl, sym, ap, ◌∙◌, subst, arith, append_assoc, add-one}
use Rattle.std.proofs.Math.Nat.{add-mul, mul_comm}
use Rattle.std.proofs.Math.Seq.{take-append_seam, drop-append_seam, take-length}
use Rattle.std.specs.Prelude.{filter, sum_by, find, slice_get, slice_index, All, replicate}
use Rattle.std.specs.List.{flat_map, range_with_len, zip}
use Rattle.std.specs.Option.{option_map_or}
use Rattle.std.proofs.lemmas.Grind.{flat_map-append}
use Rattle.std.proofs.lemmas.List.{length-replicate}
use Rattle.std.proofs.lemmas.List.Elements.{filter-append}
use Rattle.std.proofs.lemmas.List.Sums.{sum_by-cons}
use Rattle.std.proofs.lemmas.List.FromFn.{length-range_with_len, length-map-range_with_len}
use Rattle.std.specs.Prelude.{◌==◌}
use Rattle.idx_hz.specs.Address.{hz_address}
use Rattle.idx_geom.specs.Region.{points, place_of}
use Rattle.idx_geom.specs.Volume.{IsVolume, sample_at}
use Rattle.idx_geom.proofs.PointsLemmas.{LiesIn-slice_get, place_of-lt, length-points}
use Rattle.idx_rowmajor.specs.declared.layout.Layout.{Layout}
use Rattle.idx_layout.specs.Placing.{Placing, block_bytes, present_blocks, is_present, stored_sample, block_of_samples}
use Rattle.idx_layout.specs.Files.{block_in_file, blocks_of_file, file_bytes, rows_of_file, row_of_block, offset_of, length_of_file, row_count}
use Rattle.idx_table.specs.Row.{IsRow, row_bytes}
use Rattle.idx_table.specs.Table.{rows_of, table_bytes}
use Rattle.idx_table.proofs.ReadBackLemmas.{length-written, rows_of-written}
use Rattle.idx_layout.proofs.ArrangedLemmas.{length-arranged}
use Rattle.idx_layout.proofs.ListLemmas.{range-split}
use Rattle.idx_layout.proofs.OffsetLemmas.{offset_of-sums, present_before, length_of_file-sums}

-- ---- how long samples and blocks are

found : {X : Type 0} (test : X → Bool) (xs : List X) (x : X) → find test xs ≡ Some x → (k : ℕ) × (slice_get xs k ≡ Some x)
found test [] x e = let wrong : None ≡ Some x = e in absurd (cc)
found {X = X} test (y ∷ ys) x e = by_test (λ rest. found test ys x rest) (test y) refl
  where
    by_test : (find test ys ≡ Some x → (k : ℕ) × (slice_get ys k ≡ Some x)) → (b : Bool) → test y ≡ b → (k : ℕ) × (slice_get (y ∷ ys) k ≡ Some x)
    by_test more true is = (0, sym (ap (λ b. cond b (Some y) (find test ys)) is) ∙ e)
    by_test more false is =
        let next = more (sym (ap (λ b. cond b (Some y) (find test ys)) is) ∙ e) in (suc next.0, next.1)

length-stored_sample : (l : Placing) (size : ℕ) (samples : List (List ℕ)) (address : ℕ) →
    length samples ≡ length (points l.region) → All (λ sample. length sample ≡ size) samples →
    length (stored_sample l size samples address) ≡ size
length-stored_sample l size samples address count sizes = by_point _ refl
  where
    by_point : (o : Option (List ℕ)) → find (λ p. hz_address l.mask p == address) (points l.region) ≡ o → length (option_map_or (sample_at l.region samples) o (replicate size 0)) ≡ size
    by_point None is = length-replicate size 0
    by_point (Some p) is =
        let at = found _ (points l.region) p is in
        let lies = LiesIn-slice_get l.region at.0 p at.1 in
        let below = place_of-lt l.region p lies.0 in
        sizes (place_of l.region p) [] (omega (arith, below, length-points l.region, count))

pub length-flat_map_same : {X Y : Type 0} (f : X → List Y) (size : ℕ) (xs : List X) → ((x : X) → length (f x) ≡ size) → length (flat_map f xs) ≡ size * length xs
length-flat_map_same f size [] h = omega arith
length-flat_map_same f size (x ∷ xs) h =
    length-append (f x) (flat_map f xs) ∙ ap (λ n. n + length (flat_map f xs)) (h x) ∙ ap (λ n. size + n) (length-flat_map_same f size xs h)
    ∙ one_more size (length xs)
  where
    one_more : (s n : ℕ) → s + s * n ≡ s * suc n
    one_more s n = grind arith

pub length-block_of_samples : (l : Placing) (size : ℕ) (samples : List (List ℕ)) (block : ℕ) →
    length samples ≡ length (points l.region) → All (λ sample. length sample ≡ size) samples →
    length (block_of_samples l size samples block) ≡ size * 2 ^ l.bits
length-block_of_samples l size samples block count sizes =
    length-flat_map_same (stored_sample l size samples) size (range_with_len (block * 2 ^ l.bits) (2 ^ l.bits)) (λ address. length-stored_sample l size samples address count sizes)
    ∙ ap (λ n. size * n) (length-range_with_len (block * 2 ^ l.bits) (2 ^ l.bits))

pub length-block_in_file : (layout : Layout) (l : Placing) (size : ℕ) (samples : List (List ℕ)) (block : ℕ) →
    length samples ≡ length (points l.region) → All (λ sample. length sample ≡ size) samples →
    length (block_in_file layout l size samples block) ≡ size * 2 ^ l.bits
length-block_in_file layout l size samples block count sizes =
    length-arranged layout l size block (block_of_samples l size samples block) (length-block_of_samples l size samples block count sizes)

-- ---- the fields before a field

-- the blocks with these numbers of fields with these sizes and samples
abbrev pub blocks_of : Layout → Placing → List ℕ → List (ℕ × List (List ℕ)) → List ℕ
blocks_of layout l blocks fields = flat_map (λ field. flat_map (block_in_file layout l field.0 field.1) blocks) fields

length-blocks_of : (layout : Layout) (l : Placing) (blocks sizes : List ℕ) (volume : List (List (List ℕ))) →
    IsVolume sizes (length (points l.region)) volume →
    length (blocks_of layout l blocks (zip sizes volume)) ≡ sum_by (λ size. size * 2 ^ l.bits) sizes * length blocks
length-blocks_of layout l blocks [] [] h = omega arith
length-blocks_of layout l blocks [] (samples ∷ volume) h = absurd h
length-blocks_of layout l blocks (size ∷ sizes) [] h = absurd h
length-blocks_of layout l blocks (size ∷ sizes) (samples ∷ volume) h =
    let first : List ℕ = flat_map (block_in_file layout l size samples) blocks in
    let rest : List ℕ = blocks_of layout l blocks (zip sizes volume) in
    length-append first rest
    ∙ ap (λ n. n + length rest) (length-flat_map_same (block_in_file layout l size samples) (size * 2 ^ l.bits) blocks (λ block. length-block_in_file layout l size samples block h.0 h.1))
    ∙ ap (λ n. size * 2 ^ l.bits * length blocks + n) (length-blocks_of layout l blocks sizes volume h.2)
    ∙ sym (add-mul (size * 2 ^ l.bits) (sum_by (λ s. s * 2 ^ l.bits) sizes) (length blocks))
    ∙ ap (λ n. n * length blocks) (sym (sum_by-cons (λ s. s * 2 ^ l.bits) size sizes))

sum_by-shift : (f : ℕ → ℕ) (a n : ℕ) → sum_by f (range_with_len (a + 1) n) ≡ sum_by (λ i. f (i + 1)) (range_with_len a n)
sum_by-shift f a zero = refl
sum_by-shift f a (suc n) =
    sum_by-cons f (a + 1) (range_with_len (a + 1 + 1) n) ∙ ap (λ k. f (a + 1) + k) (sum_by-shift f (a + 1) n)
    ∙ sym (sum_by-cons (λ i. f (i + 1)) a (range_with_len (a + 1) n))

sum_by-sizes : (g : ℕ → ℕ) (sizes : List ℕ) (n : ℕ) → n ≤ length sizes → sum_by (λ i. g (slice_index sizes i)) (range_with_len 0 n) ≡ sum_by g (take n sizes)
sum_by-sizes g sizes zero h = refl
sum_by-sizes g [] (suc n) h = absurd (omega arith)
sum_by-sizes g (size ∷ sizes) (suc n) h =
    sum_by-cons (λ i. g (slice_index (size ∷ sizes) i)) 0 (range_with_len 1 n)
    ∙ ap (λ k. g size + k)
    (sum_by-shift (λ i. g (slice_index (size ∷ sizes) i)) 0 n
    ∙ (λ j. sum_by (λ i. g (slice_index (size ∷ sizes) (add-one i j))) (range_with_len 0 n))
    ∙ sum_by-sizes g sizes n (omega arith))
    ∙ sym (sum_by-cons g size (take n sizes))

-- the fields before one, it, and those behind it
record IsSplitAt (sizes : List ℕ) (volume : List (List (List ℕ))) (n field : ℕ) (samples : List (List ℕ)) : Type 0 where
  behind : List (ℕ × List (List ℕ))
  whole : zip sizes volume ≡ zip (take field sizes) (take field volume) ++ ((slice_index sizes field, samples) ∷ behind)
  front : IsVolume (take field sizes) n (take field volume)
  count : length samples ≡ n
  right : All (λ sample. length sample ≡ slice_index sizes field) samples
  within : field < length sizes

split_at : (sizes : List ℕ) (volume : List (List (List ℕ))) (n field : ℕ) (samples : List (List ℕ)) →
    IsVolume sizes n volume → slice_get volume field ≡ Some samples → IsSplitAt sizes volume n field samples
split_at [] [] n field samples h e = let wrong : None ≡ Some samples = e in absurd (cc)
split_at [] (v ∷ volume) n field samples h e = absurd h
split_at (size ∷ sizes) [] n field samples h e = absurd h
split_at (size ∷ sizes) (v ∷ volume) n zero samples h e =
    let same : v ≡ samples = cc in record {
      behind = zip sizes volume;
      whole = ap (λ s. (size, s) ∷ zip sizes volume) same;
      front = tt;
      count = ap length (sym same) ∙ h.0;
      right = subst (λ (s : List (List ℕ)). All (λ sample. length sample ≡ size) s) same h.1;
      within = omega arith;
    }
split_at (size ∷ sizes) (v ∷ volume) n (suc field) samples h e =
    let rest = split_at sizes volume n field samples h.2 e in record {
      behind = rest.behind;
      whole = ap (λ fields. (size, v) ∷ fields) rest.whole;
      front = (h.0, h.1, rest.front);
      count = rest.count;
      right = rest.right;
      within = omega (arith, rest.within);
    }

-- ---- a block in its file

-- a present block, those of its file before it, and those behind it
pub present_split : (l : Placing) (file block : ℕ) → file ≤ block → block < file + l.per_file →
    is_present l block ≡ true → (behind : List ℕ) × (present_blocks l file ≡ filter (is_present l)
    (range_with_len file (block - file)) ++ (block ∷ behind))
present_split l file block from to present =
    let m : ℕ = block - file in
    let n : ℕ = l.per_file - m - 1 in
    let here : file + m ≡ block = omega arith in
    let cut : l.per_file ≡ m + suc n = omega arith in
    let front : List ℕ = filter (is_present l) (range_with_len file m) in
    let behind : List ℕ = filter (is_present l) (range_with_len (block + 1) n) in (
      behind,
      ap (λ k. filter (is_present l) (range_with_len file k)) cut
          ∙ ap (filter (is_present l)) (range-split file m (suc n))
          ∙ filter-append (is_present l) (range_with_len file m) (range_with_len (file + m) (suc n))
          ∙ ap (λ a. front ++ filter (is_present l) (range_with_len a (suc n))) here
          ∙ ap (λ b. front ++ cond b (block ∷ behind) behind) present,
    )

-- a piece of a list
piece : (front middle back : List ℕ) (n m : ℕ) → n ≡ length front → m ≡ length middle → take m (drop n (front ++ (middle ++ back))) ≡ middle
piece front middle back n m at size =
    ap (λ n. take m (drop n (front ++ (middle ++ back)))) at ∙ ap (take m) (drop-append_seam front (middle ++ back))
    ∙ ap (λ m. take m (middle ++ back)) size ∙ take-append_seam middle back

regroup : (t a b x c d : List ℕ) → t ++ (a ++ ((b ++ (x ++ c)) ++ d)) ≡ (t ++ (a ++ b)) ++ (x ++ (c ++ d))
regroup t a b x c d = simp append_assoc

pub length-rows_of_file : (layout : Layout) (l : Placing) (file : ℕ) → length (rows_of_file layout l file) ≡ row_count l
length-rows_of_file layout l file =
    length-flat_map_same (λ field. map (row_of_block layout l file field) (range_with_len file l.per_file)) l.per_file
    (range_with_len 0 (length l.sizes)) (λ field. length-map-range_with_len (row_of_block layout l file field) file
    l.per_file)
    ∙ ap (λ n. l.per_file * n) (length-range_with_len 0 (length l.sizes)) ∙ mul_comm l.per_file (length l.sizes)

-- the head of a file and its rows
head_of : Layout → Placing → ℕ → List ℕ
head_of layout l file = replicate 40 0 ++ flat_map row_bytes (rows_of_file layout l file)

length-head_of : (layout : Layout) (l : Placing) (file : ℕ) → length (head_of layout l file) ≡ table_bytes (row_count l)
unfolding head_of
length-head_of layout l file =
    length-append (replicate 40 0) (flat_map row_bytes (rows_of_file layout l file)) ∙ length-written (rows_of_file layout l file) ∙ ap table_bytes (length-rows_of_file layout l file)

pub length-file_bytes : (layout : Layout) (l : Placing) (volume : List (List (List ℕ))) (file : ℕ) → IsVolume l.sizes (length (points l.region)) volume → length (file_bytes layout l volume file) ≡ length_of_file l file
unfolding head_of
length-file_bytes layout l volume file h =
    length-append (head_of layout l file) (blocks_of_file layout l volume file)
    ∙ ap (λ n. n + length (blocks_of_file layout l volume file)) (length-head_of layout l file)
    ∙ ap (λ n. table_bytes (row_count l) + n)
    (length-blocks_of layout l (present_blocks l file) l.sizes volume h
    ∙ ap (λ n. n * length (present_blocks l file)) (ap (sum_by (λ size. size * 2 ^ l.bits))
    (sym (take-length l.sizes)) ∙ sym (sum_by-sizes (λ size. size * 2 ^ l.bits) l.sizes (length l.sizes)
    (omega arith))))
    ∙ sym (length_of_file-sums l file)

-- how far from its file's beginning a block begins
length_before : (layout : Layout) (l : Placing) (volume : List (List (List ℕ))) (file field block : ℕ) (samples : List (List ℕ)) →
    IsSplitAt l.sizes volume (length (points l.region)) field samples → file ≤ block → block ≤ file + l.per_file →
    length (head_of layout l file ++ (blocks_of layout l (present_blocks l file) (zip (take field l.sizes) (take field volume))
    ++ flat_map (block_in_file layout l (slice_index l.sizes field) samples) (filter (is_present l) (range_with_len file (block - file))))) ≡ offset_of l file field block
length_before layout l volume file field block samples h from to =
    let n : ℕ = length (present_blocks l file) in
    let size : ℕ = slice_index l.sizes field in
    let fields : List ℕ = blocks_of layout l (present_blocks l file) (zip (take field l.sizes) (take field volume)) in
    let earlier : List ℕ = filter (is_present l) (range_with_len file (block - file)) in
    let own : List ℕ = flat_map (block_in_file layout l size samples) earlier in
    let in_fields : length fields ≡ sum_by (block_bytes l) (range_with_len 0 field) * n =
    length-blocks_of layout l (present_blocks l file) (take field l.sizes) (take field volume) h.front
    ∙ ap (λ k. k * n) (sym (sum_by-sizes (λ s. s * 2 ^ l.bits) l.sizes field (omega (arith, h.within)))) in
    let in_own : length own ≡ block_bytes l field * length earlier =
    length-flat_map_same (block_in_file layout l size samples) (size * 2 ^ l.bits) earlier (λ b. length-block_in_file layout l size samples b h.count h.right) in
    length-append (head_of layout l file) (fields ++ own)
    ∙ ap (λ k. k + length (fields ++ own)) (length-head_of layout l file)
    ∙ ap (λ k. table_bytes (row_count l) + k)
    (length-append fields own ∙ ap (λ k. k + length own) in_fields ∙ ap (λ k. sum_by (block_bytes l) (range_with_len 0 field) * n + k) in_own
    ∙ ap (λ bs. sum_by (block_bytes l) (range_with_len 0 field) * n + block_bytes l field * length bs) (sym (present_before l file block from to)))
    ∙ sym (offset_of-sums l file field block h.within)

-- the parts of a file about a block
parts_of_file : (layout : Layout) (l : Placing) (volume : List (List (List ℕ))) (file field block : ℕ) (samples : List (List ℕ)) →
    (s : IsSplitAt l.sizes volume (length (points l.region)) field samples) → (behind : List ℕ) →
    present_blocks l file ≡ filter (is_present l) (range_with_len file (block - file)) ++ (block ∷ behind) →
    file_bytes layout l volume file ≡ (head_of layout l file ++ (blocks_of layout l (present_blocks l file) (zip (take field l.sizes) (take field volume))
    ++ flat_map (block_in_file layout l (slice_index l.sizes field) samples) (filter (is_present l) (range_with_len file (block - file)))))
    ++ (block_in_file layout l (slice_index l.sizes field) samples block
    ++ (flat_map (block_in_file layout l (slice_index l.sizes field) samples) behind ++ blocks_of layout l (present_blocks l file) s.behind))
unfolding head_of
parts_of_file layout l volume file field block samples s behind cut =
    let bs : List ℕ = present_blocks l file in
    let size : ℕ = slice_index l.sizes field in
    let of_block : ℕ → List ℕ = block_in_file layout l size samples in
    let earlier : List ℕ = filter (is_present l) (range_with_len file (block - file)) in
    let before : List ℕ = blocks_of layout l bs (zip (take field l.sizes) (take field volume)) in
    let after : List ℕ = blocks_of layout l bs s.behind in
    let by_field : blocks_of_file layout l volume file ≡ before ++ (flat_map of_block bs ++ after) =
    ap (blocks_of layout l bs) s.whole
    ∙ flat_map-append (λ field. flat_map (block_in_file layout l field.0 field.1) bs) (zip (take field l.sizes) (take field volume)) ((size, samples) ∷ s.behind) in
    let by_block : flat_map of_block bs ≡ flat_map of_block earlier ++ (of_block block ++ flat_map of_block behind) =
    ap (flat_map of_block) cut ∙ flat_map-append of_block earlier (block ∷ behind) in
    ap (λ xs. head_of layout l file ++ xs) (by_field ∙ ap (λ xs. before ++ (xs ++ after)) by_block)
    ∙ regroup (head_of layout l file) before (flat_map of_block earlier) (of_block block) (flat_map of_block behind) after

-- a present block stands at its offset
pub block_at_offset : (layout : Layout) (l : Placing) (volume : List (List (List ℕ))) (file field block : ℕ) (samples : List (List ℕ)) →
    IsVolume l.sizes (length (points l.region)) volume → slice_get volume field ≡ Some samples → file ≤ block →
    block < file + l.per_file → is_present l block ≡ true →
    take (block_bytes l field) (drop (offset_of l file field block) (file_bytes layout l volume file)) ≡ block_in_file layout l (slice_index l.sizes field) samples block
block_at_offset layout l volume file field block samples h is from to present =
    let s = split_at l.sizes volume (length (points l.region)) field samples h is in
    let cut = present_split l file block from to present in
    ap (λ bytes. take (block_bytes l field) (drop (offset_of l file field block) bytes)) (parts_of_file layout l volume file field block samples s cut.0 cut.1)
    ∙ piece _ (block_in_file layout l (slice_index l.sizes field) samples block) _ (offset_of l file field block) (block_bytes l field)
    (sym (length_before layout l volume file field block samples s from (omega arith)))
    (sym (length-block_in_file layout l (slice_index l.sizes field) samples block s.count s.right))

-- the rows of a file are read from its bytes
pub rows_of-file_bytes : (layout : Layout) (l : Placing) (volume : List (List (List ℕ))) (file : ℕ) → All IsRow (rows_of_file layout l file) → rows_of (file_bytes layout l volume file) (row_count l) ≡ rows_of_file layout l file
rows_of-file_bytes layout l volume file h =
    ap (rows_of (file_bytes layout l volume file)) (sym (length-rows_of_file layout l file))
    ∙ rows_of-written (replicate 40 0) (blocks_of_file layout l volume file) (rows_of_file layout l file) refl h
