-- The bytes that a file should have, place by place.
use Rattle.std.proofs.Common.{◌≡◌, ℕ, zero, suc, ◌+◌, ◌*◌, ◌/◌, ◌%◌, ◌^◌, ◌<◌, ◌≤◌, Bool, true, false, cond, List, [], ◌∷◌, ◌++◌, length, length-append, take, drop, Some, None, refl, sym, ap, subst, ◌∙◌, arith, zero-add}
use Rattle.std.specs.Prelude.{replicate, slice_get, slice_index}
use Rattle.std.specs.List.{flat_map, range_with_len}
use Rattle.std.specs.Option.{option_map}
use Rattle.std.proofs.Math.Nat.{div-lt_iff_lt-mul, mod-eq_of_lt, mod-lt, mul-add-mod_self_right}
use Rattle.std.proofs.Math.Seq.{take-append_seam}
use Rattle.std.proofs.lemmas.Nat.{div-mul-add}
use Rattle.std.proofs.lemmas.List.{get_or_append_left, get_or-append-add, get_or-drop, get_or-replicate, get_or-take, length-map}
use Rattle.std.proofs.lemmas.List.FromFn.{get_or-map-range_with_len, get_or-range_with_len, length-map-range_with_len, length-range_with_len}
use Rattle.std.proofs.lemmas.Option.{slice_get-get_or, slice_get-map, slice_get_within}
use Rattle.idx_geom.specs.Region.{points}
use Rattle.idx_geom.specs.Volume.{IsVolume}
use Rattle.idx_fields.specs.Field.{sample_bytes}
use Rattle.idx_table.specs.Row.{row_bytes, row_length}
use Rattle.idx_table.specs.Table.{table_bytes}
use Rattle.idx_table.specs.declared.row.Row.{Row}
use Rattle.idx_table.proofs.ReadBackLemmas.{length-row_bytes, length-written}
use Rattle.idx_header.specs.Header.{HeaderValue, IsHeader}
use Rattle.idx_rowmajor.specs.declared.layout.Layout.{Layout}
use Rattle.idx_rowmajor.specs.declared.layout.Layout.TheVariants.{Hz}
use Rattle.idx_layout.specs.Content.{field_in}
use Rattle.idx_layout.specs.Files.{blocks_of_file, file_bytes, length_of_file, offset_of, row_count, rows_of_file}
use Rattle.idx_layout.specs.OfHeader.{placing_of}
use Rattle.idx_layout.specs.Placing.{Placing, block_bytes, is_present}
use Rattle.idx_layout.proofs.FileLemmas.{block_at_offset, length-file_bytes, length-rows_of_file}
use Rattle.idx_check.specs.Wanted.{block_there, bytes_from, is_of_box, volume_there, wanted_bytes}
use Rattle.idx_check.proofs.ContentLemmas.{HasLengths, block_from, block_of_content, length-sample_of, sample_of, volume_fills}

-- ---- the blocks that stand in a file
pub length-bytes_from : (bytes : List ℕ) (at count : ℕ) → length (bytes_from bytes at count) ≡ count
length-bytes_from bytes at count = length-map-range_with_len (slice_index bytes) at count

pub bytes_from-byte : (bytes : List ℕ) (at count i : ℕ) → i < count → slice_index (bytes_from bytes at count) i ≡ slice_index bytes (at + i)
bytes_from-byte bytes at count i within = get_or-map-range_with_len (slice_index bytes) at count i (at + i) 0 within refl

pub there_lengths : (l : Placing) (file : ℕ) (bytes : List ℕ) → HasLengths l (block_there l file bytes)
there_lengths l file bytes = record {
  lengths = λ field block within present. length-bytes_from bytes (offset_of l file field block) (block_bytes l field);
}

-- the samples that a file has are a volume
pub there_fills : (l : Placing) (file : ℕ) (bytes : List ℕ) → IsVolume l.sizes (length (points l.region)) (volume_there l file bytes)
there_fills l file bytes = volume_fills l (block_there l file bytes) (there_lengths l file bytes)

-- ---- the length
pub length-wanted_bytes : (l : Placing) (file : ℕ) (bytes : List ℕ) → length (wanted_bytes l file bytes) ≡ length_of_file l file
length-wanted_bytes l file bytes = length-file_bytes Hz l (volume_there l file bytes) file (there_fills l file bytes)

-- ---- the table
-- a byte of a piece among pieces of one length
pub byte_of_piece : {X : Type 0} (f : X → List ℕ) (size : ℕ) (xs : List X) (r i : ℕ) (x : X) → ((x : X) → length (f x) ≡ size) → slice_get xs r ≡ Some x → i < size →
    slice_index (flat_map f xs) (size * r + i) ≡ slice_index (f x) i
byte_of_piece f size [] r i x same at within = let wrong : None ≡ Some x = at in absurd (cc)
byte_of_piece f size (y ∷ ys) zero i x same at within =
    let here : y ≡ x = cc in
    ap (slice_index (f y ++ flat_map f ys)) (omega arith)
    ∙ get_or_append_left (f y) (flat_map f ys) 0 i (omega (arith, same y))
    ∙ ap (λ z. slice_index (f z) i) here
byte_of_piece f size (y ∷ ys) (suc r) i x same at within =
    ap (slice_index (f y ++ flat_map f ys)) (omega (arith, same y))
    ∙ get_or-append-add (f y) (flat_map f ys) (size * r + i) 0
    ∙ byte_of_piece f size ys r i x same at within

module _ (layout : Layout) (l : Placing) (volume : List (List (List ℕ))) (file : ℕ) where
  -- the table of a file, and that it is as long as its table should be
  table : List ℕ
  table = replicate row_length 0 ++ flat_map row_bytes (rows_of_file layout l file)

  length-table : length table ≡ table_bytes (row_count l)
  unfolding table
  length-table =
      length-append (replicate row_length 0) (flat_map row_bytes (rows_of_file layout l file)) ∙ length-written (rows_of_file layout l file)
      ∙ ap table_bytes (length-rows_of_file layout l file)

  pub take-table : take (table_bytes (row_count l)) (file_bytes layout l volume file) ≡ replicate row_length 0 ++ flat_map row_bytes (rows_of_file layout l file)
  unfolding table
  take-table =
      ap (λ n. take n (table ++ blocks_of_file layout l volume file)) (sym length-table) ∙ take-append_seam table (blocks_of_file layout l volume file)

  -- a byte of a row stands where the row does
  pub row_byte : (r i : ℕ) (row : Row) → slice_get (rows_of_file layout l file) r ≡ Some row → i < row_length →
      slice_index (file_bytes layout l volume file) (table_bytes r + i) ≡ slice_index (row_bytes row) i
  unfolding table
  row_byte r i row at within =
      let rows : List Row = rows_of_file layout l file in
      let exists : r < row_count l = omega (arith, slice_get_within rows r row at, length-rows_of_file layout l file) in
      let inside : table_bytes r + i < length table = omega (arith, exists, length-table) in
      let place : table_bytes r + i ≡ 40 + (40 * r + i) = omega arith in
      get_or_append_left table (blocks_of_file layout l volume file) 0 (table_bytes r + i) inside
      ∙ ap (slice_index table) place
      ∙ get_or-append-add (replicate row_length 0) (flat_map row_bytes rows) (40 * r + i) 0
      ∙ byte_of_piece row_bytes 40 rows r i row length-row_bytes at within

  -- the first bytes are zeros
  pub first_byte : (i : ℕ) → i < row_length → slice_index (file_bytes layout l volume file) i ≡ 0
  unfolding table
  first_byte i within =
      get_or_append_left table (blocks_of_file layout l volume file) 0 i (omega (arith, length-table))
      ∙ get_or_append_left (replicate row_length 0) (flat_map row_bytes (rows_of_file layout l file)) 0 i within
      ∙ get_or-replicate 40 i 0 0 within

-- the same of the bytes that a file should have
pub wanted_table : (l : Placing) (file : ℕ) (bytes : List ℕ) →
    take (table_bytes (row_count l)) (wanted_bytes l file bytes) ≡ replicate row_length 0 ++ flat_map row_bytes (rows_of_file Hz l file)
wanted_table l file bytes = take-table Hz l (volume_there l file bytes) file

pub wanted_row_byte : (l : Placing) (file : ℕ) (bytes : List ℕ) (r i : ℕ) (row : Row) → slice_get (rows_of_file Hz l file) r ≡ Some row → i < row_length →
    slice_index (wanted_bytes l file bytes) (table_bytes r + i) ≡ slice_index (row_bytes row) i
wanted_row_byte l file bytes r i row at within = row_byte Hz l (volume_there l file bytes) file r i row at within

pub wanted_first_byte : (l : Placing) (file : ℕ) (bytes : List ℕ) (i : ℕ) → i < row_length → slice_index (wanted_bytes l file bytes) i ≡ 0
wanted_first_byte l file bytes i within = first_byte Hz l (volume_there l file bytes) file i within

-- ---- the blocks
pub number_at : (a n i : ℕ) → i < n → slice_get (range_with_len a n) i ≡ Some (a + i)
number_at a n i within =
    slice_get-get_or (range_with_len a n) i 0 (subst (λ m. i < m) (sym (length-range_with_len a n)) within)
    ∙ ap (λ x. Some x) (get_or-range_with_len a n i 0 within)

some_size : (size n i : ℕ) → i < size * n → 0 < size
some_size zero n i within = absurd (omega (arith, within))
some_size (suc size) n i within = omega arith

-- a byte of a sample of a block, by its place in the block
module _ (l : Placing) (file field block i : ℕ) (bytes : List ℕ) (exists : field < length l.sizes) (within : i < block_bytes l field) where
  size : ℕ
  size = slice_index l.sizes field

  has_size : 0 < size
  unfolding size
  has_size = some_size (slice_index l.sizes field) (2 ^ l.bits) i within

  number_within : i / size < 2 ^ l.bits
  unfolding size
  number_within = (div-lt_iff_lt-mul {k = slice_index l.sizes field} {x = i} {y = 2 ^ l.bits} has_size).1 (omega (arith, within))

  whole : size * (i / size) + i % size ≡ i
  whole = omega (arith, has_size)

  sample_byte : slice_index (sample_of l (block_there l file bytes) field (block * 2 ^ l.bits + i / size)) (i % size)
      ≡ cond (is_of_box l (block * 2 ^ l.bits + i / size)) (slice_index bytes (offset_of l file field block + i)) 0
  unfolding size
  sample_byte = by_test (is_of_box l (block * 2 ^ l.bits + i / size))
    where
      address : ℕ
      address = block * 2 ^ l.bits + i / size

      place : address % 2 ^ l.bits ≡ i / size
      place = mul-add-mod_self_right block (2 ^ l.bits) (i / size) ∙ mod-eq_of_lt number_within

      number : address / 2 ^ l.bits ≡ block
      number = div-mul-add block (2 ^ l.bits) (i / size) number_within

      own : List ℕ
      own = block_there l file bytes field block

      piece : List ℕ
      piece = take size (drop (size * (address % 2 ^ l.bits)) (block_there l file bytes field (address / 2 ^ l.bits)))

      by_test : (b : Bool) → slice_index (cond b piece (replicate size 0)) (i % size) ≡ cond b (slice_index bytes (offset_of l file field block + i)) 0
      by_test true =
          ap (λ n. slice_index (take size (drop (size * n) (block_there l file bytes field (address / 2 ^ l.bits)))) (i % size)) place
          ∙ ap (λ b. slice_index (take size (drop (size * (i / size)) (block_there l file bytes field b))) (i % size)) number
          ∙ get_or-take size (drop (size * (i / size)) own) (i % size) 0 (mod-lt i has_size)
          ∙ get_or-drop (size * (i / size)) own (i % size) 0
          ∙ ap (slice_index own) whole
          ∙ bytes_from-byte bytes (offset_of l file field block) (block_bytes l field) i within
      by_test false = get_or-replicate size (i % size) 0 0 (mod-lt i has_size)

  block_byte : slice_index (block_from l (block_there l file bytes) field block) i
      ≡ cond (is_of_box l (block * 2 ^ l.bits + i / size)) (slice_index bytes (offset_of l file field block + i)) 0
  unfolding size
  block_byte =
      ap (slice_index (block_from l (block_there l file bytes) field block)) (sym whole)
      ∙ byte_of_piece (sample_of l (block_there l file bytes) field) size (range_with_len (block * 2 ^ l.bits) (2 ^ l.bits)) (i / size) (i % size) (block * 2 ^ l.bits + i / size)
      (λ address. length-sample_of l (block_there l file bytes) field address (there_lengths l file bytes) exists)
      (number_at (block * 2 ^ l.bits) (2 ^ l.bits) (i / size) number_within) (mod-lt i has_size)
      ∙ sample_byte

-- a byte of a present block is the file's own where its sample is one of the box, and zero elsewhere
pub wanted_block_byte : (l : Placing) (file field block i : ℕ) (bytes : List ℕ) → field < length l.sizes → file ≤ block → block < file + l.per_file → is_present l block ≡ true →
    i < block_bytes l field →
    slice_index (wanted_bytes l file bytes) (offset_of l file field block + i)
    ≡ cond (is_of_box l (block * 2 ^ l.bits + i / slice_index l.sizes field)) (slice_index bytes (offset_of l file field block + i)) 0
unfolding size
wanted_block_byte l file field block i bytes exists from to present within =
    let offset : ℕ = offset_of l file field block in
    let samples : List (List ℕ) = field_in l (block_there l file bytes) field in
    let at : slice_get (volume_there l file bytes) field ≡ Some samples =
    slice_get-map (field_in l (block_there l file bytes)) (range_with_len 0 (length l.sizes)) field
    ∙ ap (option_map (field_in l (block_there l file bytes))) (number_at 0 (length l.sizes) field exists)
    ∙ ap (λ k. Some (field_in l (block_there l file bytes) k)) (zero-add field) in
    sym (get_or-drop offset (wanted_bytes l file bytes) i 0)
    ∙ sym (get_or-take (block_bytes l field) (drop offset (wanted_bytes l file bytes)) i 0 within)
    ∙ ap (λ (piece : List ℕ). slice_index piece i)
    (block_at_offset Hz l (volume_there l file bytes) file field block samples (there_fills l file bytes) at from to present
    ∙ block_of_content l (block_there l file bytes) field block)
    ∙ block_byte l file field block i bytes exists within

-- the same by a header
pub wanted_block_byte_of_header : (h : HeaderValue) (file field block i : ℕ) (bytes : List ℕ) → IsHeader h → field < length h.fields → file ≤ block → block < file + h.blocks_per_file →
    is_present (placing_of h) block ≡ true → i < block_bytes (placing_of h) field →
    slice_index (wanted_bytes (placing_of h) file bytes) (offset_of (placing_of h) file field block + i)
    ≡ cond (is_of_box (placing_of h) (block * 2 ^ h.block_bits + i / slice_index (placing_of h).sizes field)) (slice_index bytes (offset_of (placing_of h) file field block + i)) 0
wanted_block_byte_of_header h file field block i bytes is exists from to present within =
    wanted_block_byte (placing_of h) file field block i bytes (subst (λ n. field < n) (sym (length-map h.fields sample_bytes)) exists) from to present within
