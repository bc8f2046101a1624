-- The files of a step that was written give its volume back.
use Rattle.std.proofs.Common.{◌≡◌, ℕ, zero, suc, ◌+◌, ◌-◌, ◌*◌, ◌/◌, ◌%◌, ◌^◌, ◌<◌, ◌≤◌, Bool, true, false, cond, List, [], ◌∷◌, ◌++◌, length, map, take, drop, Some, None, refl, sym, ap, subst, ◌∙◌, arith, zero-add}
use Rattle.std.specs.Prelude.{Option, All, find, replicate, slice_get, slice_index, ◌==◌}
use Rattle.std.specs.Option.{option_map, option_map_or}
use Rattle.std.specs.List.{cons_option, filter_map, flat_map, list_any, range_with_len}
use Rattle.std.proofs.Math.ListN.{get_or}
use Rattle.std.proofs.Math.Nat.{div-add-mod', div-lt_iff_lt-mul, mod-lt}
use Rattle.std.proofs.Math.Seq.{take-append_seam, drop-append_seam}
use Rattle.std.proofs.lemmas.Bool.{eqb-true, eq-eqb}
use Rattle.std.proofs.lemmas.Nat.{pow-add, pow_pos}
use Rattle.std.proofs.lemmas.List.{drop-drop, length-map, length-replicate}
use Rattle.std.proofs.lemmas.List.FromFn.{get_or-map-range_with_len, length-map-range_with_len}
use Rattle.std.proofs.lemmas.Option.{slice_get-map, slice_get_past, slice_get_within, slice_get-get_or}
use Rattle.idx_geom.specs.Region.{points, place_of}
use Rattle.idx_geom.specs.Volume.{IsVolume, sample_at}
use Rattle.idx_geom.proofs.LiesInLemmas.{length_from_LiesIn}
use Rattle.idx_geom.proofs.PointsLemmas.{LiesIn-slice_get, length-points, place_of-lt}
use Rattle.idx_hz.specs.Address.{hz_address}
use Rattle.idx_hz.proofs.AddressLaws.{hz_address-lt, hz_address-injective}
use Rattle.idx_hz.proofs.RegionLemmas.{HasAddress-from_end}
use Rattle.idx_fields.specs.Field.{sample_bytes}
use Rattle.idx_outside.specs.Files.{file_at}
use Rattle.idx_outside.specs.declared.mem_file.MemFile.{MemFile}
use Rattle.idx_table.specs.Table.{first_fault, rows_of}
use Rattle.idx_header.specs.Header.{HeaderValue, IsHeader}
use Rattle.idx_header.specs.Names.{file_name}
use Rattle.idx_layout.specs.Content.{field_in, sample_in, volume_in}
use Rattle.idx_rowmajor.specs.declared.layout.Layout.{Layout}
use Rattle.idx_layout.specs.Placing.{Placing, block_bytes, block_count, block_of_samples, file_numbers, file_of, stored_sample}
use Rattle.idx_layout.specs.Files.{file_bytes, row_count, rows_of_file}
use Rattle.idx_layout.specs.OfHeader.{placing_of}
use Rattle.idx_layout.proofs.FileLemmas.{length-file_bytes, rows_of-file_bytes}
use Rattle.idx_layout.proofs.HeaderLemmas.{fits_rows}
use Rattle.idx_layout.proofs.ListLemmas.{passing}
use Rattle.idx_layout.proofs.RightLemmas.{no_fault, rows_fit}
use Rattle.idx_layout.specs.Shape.{block_lengths}
use Rattle.idx_edition.specs.Stored.{HasFiles, bad_table, fault_of_bytes, fault_of_file, file_of_block, first_bad, stored_block}
use Rattle.idx_edition.specs.Tables.{bytes_by, order_of, row_among, value_at}
use Rattle.idx_edition.specs.declared.load_fault.LoadFault.{LoadFault}
use Rattle.idx_edition.proofs.HeldLemmas.{bytes_same}
use Rattle.idx_edition.proofs.LeavesLemmas.{same_lists}
use Rattle.idx_edition.proofs.LookupLemmas.{place_in_file, place_within}
use Rattle.idx_edition.proofs.WrittenLemmas.{volume_each, block_written, mapped_at}

-- ---- no table is faulty
nothing_of : {X Y : Type 0} (f : X → Option Y) (xs : List X) → ((i : ℕ) (x : X) → slice_get xs i ≡ Some x → f x ≡ None) → filter_map f xs ≡ []
nothing_of f [] none = refl
nothing_of f (x ∷ xs) none =
    ap (λ o. cons_option o (filter_map f xs)) (none 0 x refl) ∙ nothing_of f xs (λ i y at. none (suc i) y at)

pub no_bad : (layout : Layout) (h : HeaderValue) (step : ℕ) (volume : List (List (List ℕ))) (files : List MemFile) → IsHeader h → IsVolume (placing_of h).sizes (length (points h.box)) volume →
    HasFiles layout h step volume files → first_bad h step files ≡ None
no_bad layout h step volume files is fills has =
    ap (λ (faults : List LoadFault). slice_get faults 0) (nothing_of (fault_of_file h step files) (file_numbers l) (λ i file at.
    ap (fault_of_bytes l file) (has i file at)
    ∙ ap (λ n. option_map (bad_table file) (first_fault (file_bytes layout l volume file) (row_count l) (block_lengths l) n)) (length-file_bytes layout l volume file fills)
    ∙ ap (option_map (bad_table file)) (no_fault layout l volume file (fits_rows h file is))))
  where
    l : Placing
    l = placing_of h

-- ---- each block is that of the volume
-- the file of a block, if it is one of the step's, is there
pub file_found : (layout : Layout) (h : HeaderValue) (step : ℕ) (volume : List (List (List ℕ))) (files : List MemFile) (block : ℕ) → HasFiles layout h step volume files →
    file_of_block h step files block
    ≡ cond (list_any (λ k. k == file_of (placing_of h) block) (file_numbers (placing_of h))) (Some (file_bytes layout (placing_of h) volume (file_of (placing_of h) block))) None
file_found layout h step volume files block has = by_listed (list_any (λ k. k == file) (file_numbers l)) refl
  where
    l : Placing
    l = placing_of h

    file : ℕ
    file = file_of (placing_of h) block

    by_listed : (b : Bool) → list_any (λ k. k == file) (file_numbers l) ≡ b →
        cond b (file_at (file_name h step file) files) None ≡ cond b (Some (file_bytes layout l volume file)) None
    by_listed true listed =
        let some = passing (λ k. k == file) (file_numbers l) listed in
        let same : some.1 ≡ file = eqb-true some.1 file some.3 in
        ap (λ k. file_at (file_name h step k) files) (sym same) ∙ has some.0 some.1 some.2 ∙ ap (λ k. Some (file_bytes layout l volume k)) same
    by_listed false listed = refl

pub block_stored : (layout : Layout) (h : HeaderValue) (step : ℕ) (volume : List (List (List ℕ))) (files : List MemFile) (field block : ℕ) (samples : List (List ℕ)) → IsHeader h →
    IsVolume (placing_of h).sizes (length (points h.box)) volume → HasFiles layout h step volume files → field < length h.fields → slice_get volume field ≡ Some samples → block < block_count (placing_of h) →
    stored_block h step files field block ≡ block_of_samples (placing_of h) (slice_index (placing_of h).sizes field) samples block
block_stored layout h step volume files field block samples is fills has within at exists =
    sym (bytes_same l field block (file_of_block h step files block) len
    (get_or-lengths) (place_within field (length l.sizes) (block - file) h.blocks_per_file in_fields (place_in_file h.blocks_per_file block is.blocks_some)))
    ∙ ap (λ o. bytes_by (order_of l field block) len (row_among h.blocks_per_file field block (option_map (λ bytes. rows_of bytes (row_count l)) o)) (option_map (λ bytes. bytes) o)) (file_found layout h step volume files block has)
    ∙ by_test (list_any (λ k. k == file) (file_numbers l))
    ∙ ap (λ o. bytes_by (order_of l field block) len (row_among h.blocks_per_file field block o) (cond (list_any (λ k. k == file) (file_numbers l)) (Some whole) None)) (sym (mapped_at (rows_of_file layout l) file (file_numbers l)))
    ∙ ap (bytes_by (order_of l field block) len (row_among h.blocks_per_file field block (value_at file (file_numbers l) (map (rows_of_file layout l) (file_numbers l))))) (sym (mapped_at (file_bytes layout l volume) file (file_numbers l)))
    ∙ block_written layout h field block is within volume samples fills at exists
  where
    l : Placing
    l = placing_of h

    file : ℕ
    file = file_of (placing_of h) block

    len : ℕ
    len = slice_index (block_lengths (placing_of h)) field

    whole : List ℕ
    whole = file_bytes layout (placing_of h) volume (file_of (placing_of h) block)

    in_fields : field < length (placing_of h).sizes
    in_fields = subst (λ n. field < n) (sym (length-map h.fields sample_bytes)) within

    get_or-lengths : len ≡ block_bytes l field
    get_or-lengths = get_or-map-range_with_len (block_bytes l) 0 (length l.sizes) field field 0 in_fields (zero-add field)

    rows_whole : rows_of whole (row_count l) ≡ rows_of_file layout l file
    rows_whole = rows_of-file_bytes layout l volume file (rows_fit layout l file (fits_rows h file is))

    by_test : (b : Bool) →
        bytes_by (order_of l field block) len (row_among h.blocks_per_file field block (option_map (λ bytes. rows_of bytes (row_count l)) (cond b (Some whole) None))) (option_map (λ bytes. bytes) (cond b (Some whole) None))
        ≡ bytes_by (order_of l field block) len (row_among h.blocks_per_file field block (cond b (Some (rows_of_file layout l file)) None)) (cond b (Some whole) None)
    by_test true = ap (λ rows. bytes_by (order_of l field block) len (row_among h.blocks_per_file field block (Some rows)) (Some whole)) rows_whole
    by_test false = refl

-- ---- samples of a block
found : {X : Type 0} (test : X → Bool) (xs : List X) (x : X) → find test xs ≡ Some x → (k : ℕ) × (slice_get xs k ≡ Some x)
found test [] x e = let wrong : None ≡ Some x = e in absurd (cc)
found {X = X} test (y ∷ ys) x e = by_test (λ rest. found test ys x rest) (test y) refl
  where
    by_test : (find test ys ≡ Some x → (k : ℕ) × (slice_get ys k ≡ Some x)) → (b : Bool) → test y ≡ b → (k : ℕ) × (slice_get (y ∷ ys) k ≡ Some x)
    by_test more true is = (0, sym (ap (λ b. cond b (Some y) (find test ys)) is) ∙ e)
    by_test more false is =
        let next = more (sym (ap (λ b. cond b (Some y) (find test ys)) is) ∙ e) in (suc next.0, next.1)

length-stored : (l : Placing) (size : ℕ) (samples : List (List ℕ)) (address : ℕ) → length samples ≡ length (points l.region) → All (λ sample. length sample ≡ size) samples → length (stored_sample l size samples address) ≡ size
length-stored l size samples address count sizes = by_point _ refl
  where
    by_point : (o : Option (List ℕ)) → find (λ p. hz_address l.mask p == address) (points l.region) ≡ o → length (option_map_or (sample_at l.region samples) o (replicate size 0)) ≡ size
    by_point None is = length-replicate size 0
    by_point (Some p) is =
        let at = found _ (points l.region) p is in
        let lies = LiesIn-slice_get l.region at.0 p at.1 in
        let below = place_of-lt l.region p lies.0 in
        sizes (place_of l.region p) [] (omega (arith, below, length-points l.region, count))

-- the piece with this number of pieces of one length
piece_at : (f : ℕ → List ℕ) (size a n j : ℕ) → ((k : ℕ) → length (f k) ≡ size) → j < n → take size (drop (size * j) (flat_map f (range_with_len a n))) ≡ f (a + j)
piece_at f size a zero j same within = absurd (omega arith)
piece_at f size a (suc n) zero same within =
    let rest : List ℕ = flat_map f (range_with_len (a + 1) n) in
    let none : size * 0 ≡ 0 = omega arith in
    let here : a + 0 ≡ a = omega arith in
    ap (λ k. take size (drop k (f a ++ rest))) none
    ∙ ap (λ k. take k (f a ++ rest)) (sym (same a))
    ∙ take-append_seam (f a) rest
    ∙ ap f (sym here)
piece_at f size a (suc n) (suc j) same within =
    let rest : List ℕ = flat_map f (range_with_len (a + 1) n) in
    let cut : size * suc j ≡ size + size * j = omega arith in
    let moved : a + 1 + j ≡ a + suc j = omega arith in
    ap (λ k. take size (drop k (f a ++ rest))) cut
    ∙ ap (take size) (sym (drop-drop (size * j) size (f a ++ rest)))
    ∙ ap (λ k. take size (drop (size * j) (drop k (f a ++ rest)))) (sym (same a))
    ∙ ap (λ s. take size (drop (size * j) s)) (drop-append_seam (f a) rest)
    ∙ piece_at f size (a + 1) n j same (omega arith)
    ∙ ap f moved

-- one that alone passes is found
find_only : {X : Type 0} (test : X → Bool) (xs : List X) (k : ℕ) (x : X) → slice_get xs k ≡ Some x → test x ≡ true → ((i : ℕ) (y : X) → slice_get xs i ≡ Some y → test y ≡ true → y ≡ x) → find test xs ≡ Some x
find_only test [] k x at passes only = let wrong : None ≡ Some x = at in absurd (cc)
find_only {X = X} test (y ∷ ys) k x at passes only = by_test (λ i here. find_only test ys i x here passes (λ j z. only (suc j) z)) (test y) refl (by_place k at)
  where
    by_place : (k : ℕ) → slice_get (y ∷ ys) k ≡ Some x → test y ≡ false → (i : ℕ) × (slice_get ys i ≡ Some x)
    by_place zero here fails =
        let same : y ≡ x = cc in
        let wrong : false ≡ true = sym fails ∙ ap test same ∙ passes in absurd (cc)
    by_place (suc i) here fails = (i, here)

    by_test : ((i : ℕ) → slice_get ys i ≡ Some x → find test ys ≡ Some x) → (b : Bool) → test y ≡ b → (test y ≡ false → (i : ℕ) × (slice_get ys i ≡ Some x)) → cond b (Some y) (find test ys) ≡ Some x
    by_test more true is place = ap (λ z. Some z) (only 0 y refl is)
    by_test more false is place = let rest = place is in more rest.0 rest.1

-- the sample with a point's address is the point's
sample_found : (h : HeaderValue) (size : ℕ) (samples : List (List ℕ)) (k : ℕ) (p : List ℕ) → IsHeader h → slice_get (points h.box) k ≡ Some p →
    stored_sample (placing_of h) size samples (hz_address h.mask p) ≡ sample_at h.box samples p
sample_found h size samples k p is at =
    ap (λ (o : Option (List ℕ)). option_map_or (sample_at h.box samples) o (replicate size 0))
    (find_only (λ q. hz_address h.mask q == hz_address h.mask p) (points h.box) k p at (eq-eqb (hz_address h.mask p) (hz_address h.mask p) refl) (λ i q there same.
    let lies = (LiesIn-slice_get h.box k p at).0 in
    let others = (LiesIn-slice_get h.box i q there).0 in
    hz_address-injective h.mask q p (HasAddress-from_end h.mask h.box q is.covered others) (HasAddress-from_end h.mask h.box p is.covered lies)
    (length_from_LiesIn h.box q others ∙ sym (length_from_LiesIn h.box p lies)) (eqb-true (hz_address h.mask q) (hz_address h.mask p) same)))

-- a content that has the blocks of a volume
pub record HasBlocks (h : HeaderValue) (content : ℕ → ℕ → List ℕ) (volume : List (List (List ℕ))) : Type 0 where
  pub blocks : (field block : ℕ) (samples : List (List ℕ)) → field < length h.fields → block < block_count (placing_of h) → slice_get volume field ≡ Some samples →
      content field block ≡ block_of_samples (placing_of h) (slice_index (placing_of h).sizes field) samples block

sample_back : (h : HeaderValue) (content : ℕ → ℕ → List ℕ) (volume : List (List (List ℕ))) (field k : ℕ) (samples : List (List ℕ)) (p : List ℕ) → IsHeader h → HasBlocks h content volume →
    field < length h.fields → slice_get volume field ≡ Some samples → length samples ≡ length (points h.box) → All (λ sample. length sample ≡ slice_index (placing_of h).sizes field) samples →
    slice_get (points h.box) k ≡ Some p → sample_in (placing_of h) content field p ≡ sample_at h.box samples p
sample_back h content volume field k samples p is has within at count sizes here =
    let l : Placing = placing_of h in
    let size : ℕ = slice_index l.sizes field in
    let n : ℕ = 2 ^ l.bits in
    let address : ℕ = hz_address l.mask p in
    let block : ℕ = address / n in
    let place : ℕ = address % n in
    let some : 0 < n = pow_pos l.bits in
    let split : length l.mask ≡ (length l.mask - l.bits) + l.bits = omega (arith, is.bits_within) in
    let all : address < 2 ^ (length l.mask - l.bits) * n = subst (λ m. address < m) (ap (λ m. 2 ^ m) split ∙ powers (length l.mask - l.bits) l.bits) (hz_address-lt l.mask p) in
    let exists : block < block_count l = (div-lt_iff_lt-mul {k = n} {x = address} {y = 2 ^ (length l.mask - l.bits)} some).1 all in
    let whole : block * n + place ≡ address = div-add-mod' address n in
    ap (λ (bytes : List ℕ). take size (drop (size * place) bytes)) (has.blocks field block samples within exists at)
    ∙ piece_at (stored_sample l size samples) size (block * n) n place (λ a. length-stored l size samples a count sizes) (mod-lt address some)
    ∙ ap (stored_sample l size samples) whole
    ∙ sample_found h size samples k p is here
  where
    powers : (a b : ℕ) → 2 ^ (a + b) ≡ 2 ^ a * 2 ^ b
    powers a b = pow-add 2 a b

pub volume_count : (sizes : List ℕ) (n : ℕ) (volume : List (List (List ℕ))) → IsVolume sizes n volume → length volume ≡ length sizes
volume_count [] n [] fills = refl
volume_count [] n (v ∷ volume) fills = absurd fills
volume_count (size ∷ sizes) n [] fills = absurd fills
volume_count (size ∷ sizes) n (v ∷ volume) fills = ap suc (volume_count sizes n volume fills.2)

nothing_at : {X : Type 0} (xs : List X) (i : ℕ) → slice_get xs i ≡ None → length xs ≤ i
nothing_at [] i none = omega arith
nothing_at (x ∷ xs) zero none = let wrong : Some x ≡ None = none in absurd (cc)
nothing_at (x ∷ xs) (suc i) none = let more : length xs ≤ i = nothing_at xs i none in omega (arith, more)

field_back : (h : HeaderValue) (content : ℕ → ℕ → List ℕ) (volume : List (List (List ℕ))) (field : ℕ) (samples : List (List ℕ)) → IsHeader h → HasBlocks h content volume →
    IsVolume (placing_of h).sizes (length (points h.box)) volume → field < length h.fields → slice_get volume field ≡ Some samples → field_in (placing_of h) content field ≡ samples
field_back h content volume field samples is has fills within at =
    same_lists (field_in (placing_of h) content field) samples (λ i. at_place i (slice_get (points h.box) i) refl)
  where
    each : (length samples ≡ length (points h.box)) × All (λ sample. length sample ≡ slice_index (placing_of h).sizes field) samples
    each = volume_each (placing_of h).sizes (length (points h.box)) volume field samples fills at

    at_place : (i : ℕ) (o : Option (List ℕ)) → slice_get (points h.box) i ≡ o → slice_get (field_in (placing_of h) content field) i ≡ slice_get samples i
    at_place i None none =
        slice_get-map (sample_in (placing_of h) content field) (points h.box) i ∙ ap (option_map (sample_in (placing_of h) content field)) none
        ∙ sym (slice_get_past samples i (omega (arith, each.0, nothing_at (points h.box) i none)))
    at_place i (Some p) here =
        let place = (LiesIn-slice_get h.box i p here).1 in
        slice_get-map (sample_in (placing_of h) content field) (points h.box) i ∙ ap (option_map (sample_in (placing_of h) content field)) here
        ∙ ap (λ s. Some s) (sample_back h content volume field i samples p is has within at each.0 each.1 here)
        ∙ ap (λ k. Some (get_or samples k [])) place
        ∙ sym (slice_get-get_or samples i [] (omega (arith, each.0, slice_get_within (points h.box) i p here)))

pub volume_back : (h : HeaderValue) (content : ℕ → ℕ → List ℕ) (volume : List (List (List ℕ))) → IsHeader h → HasBlocks h content volume →
    IsVolume (placing_of h).sizes (length (points h.box)) volume → volume_in (placing_of h) content ≡ volume
volume_back h content volume is has fills = same_lists (volume_in l content) volume (λ i. at_place i (slice_get volume i) refl)
  where
    l : Placing
    l = placing_of h

    count : length volume ≡ length (placing_of h).sizes
    count = volume_count (placing_of h).sizes (length (points h.box)) volume fills

    at_place : (i : ℕ) (o : Option (List (List ℕ))) → slice_get volume i ≡ o → slice_get (volume_in l content) i ≡ o
    at_place i None none =
        slice_get_past (volume_in l content) i (omega (arith, nothing_at volume i none, count, length-map-range_with_len (field_in l content) 0 (length l.sizes)))
    at_place i (Some samples) here =
        let within : i < length l.sizes = omega (arith, slice_get_within volume i samples here, count) in
        slice_get-get_or (volume_in l content) i [] (omega (arith, within, length-map-range_with_len (field_in l content) 0 (length l.sizes)))
        ∙ ap (λ s. Some s) (get_or-map-range_with_len (field_in l content) 0 (length l.sizes) i i [] within (zero-add i))
        ∙ ap (λ s. Some s) (field_back h content volume i samples is has fills (omega (arith, within, length-map h.fields sample_bytes)) here)

pub stored_back : (layout : Layout) (h : HeaderValue) (step : ℕ) (volume : List (List (List ℕ))) (files : List MemFile) → IsHeader h → IsVolume (placing_of h).sizes (length (points h.box)) volume →
    HasFiles layout h step volume files → volume_in (placing_of h) (stored_block h step files) ≡ volume
stored_back layout h step volume files is fills has = volume_back h (stored_block h step files) volume is (record {
  blocks = λ field block samples within exists at. block_stored layout h step volume files field block samples is fills has within at exists;
}) fills
