-- A file that is laid out of the samples of a raw input is that of the volume, and its blocks have their lengths.
use Rattle.std.proofs.Common.{◌≡◌, ℕ, zero, suc, ◌+◌, ◌-◌, ◌*◌, ◌/◌, ◌%◌, ◌^◌, ◌<◌, ◌≤◌, List, [], ◌∷◌, length, get_or, map, All, Some, None, refl, sym, ap, ◌∙◌, subst, zero-add, arith}
use Rattle.std.specs.Prelude.{slice_get, slice_index, sum, Option, IsSome}
use Rattle.std.specs.List.{range_with_len}
use Rattle.std.proofs.Math.Nat.{mod-add-div', mod-lt, mul-le-mul_right, mul_comm}
use Rattle.std.proofs.lemmas.Bool.{false≢true}
use Rattle.std.proofs.lemmas.List.{length-map}
use Rattle.std.proofs.lemmas.List.FromFn.{get_or-map-range_with_len, length-map-range_with_len}
use Rattle.std.proofs.lemmas.Nat.{pow_pos}
use Rattle.std.proofs.lemmas.Option.{slice_get-get_or}
use Rattle.idx_geom.specs.Region.{points}
use Rattle.idx_geom.specs.Volume.{IsVolume}
use Rattle.idx_geom.proofs.VolumeLemmas.{IsVolume-volume_of}
use Rattle.idx_fields.specs.Field.{sample_bytes}
use Rattle.idx_outside.specs.declared.mem_file.MemFile.{MemFile}
use Rattle.idx_header.specs.Header.{HasTime, HeaderValue, IsHeader, at_revision, volume_bytes}
use Rattle.idx_header.specs.Names.{file_name}
use Rattle.idx_header.specs.declared.steps.Steps.{Steps}
use Rattle.idx_layout.specs.Files.{file_bytes}
use Rattle.idx_layout.specs.OfHeader.{placing_of}
use Rattle.idx_layout.specs.Placing.{block_bytes, file_numbers}
use Rattle.idx_layout.specs.Shape.{shape_of}
use Rattle.idx_layout.specs.Step.{step_files, volume_of_raw}
use Rattle.idx_rowmajor.specs.declared.layout.Layout.TheVariants.{Hz}
use Rattle.idx_layout.proofs.FileLemmas.{length-block_of_samples}
use Rattle.idx_pieces.specs.Runs.{file_addresses, sample_at_address}
use Rattle.idx_pieces.specs.Samples.{raw_sample}
use Rattle.idx_volumes.specs.Volumes.{IsVolumeOf}
use Rattle.idx_volumes.proofs.FileLemmas.{blocks_agree, blocks_by, file_is}
use Rattle.idx_edition.specs.Stored.{HasFiles, stored_block}
use Rattle.idx_edition.proofs.BackLemmas.{block_stored, volume_count}
use Rattle.idx_edition.proofs.OwnLemmas.{own_files}
use Rattle.idx_hall.specs.Posts.{bytes_at, table_of}
use Rattle.idx_query.proofs.PostLemmas.{entry-table}
use Rattle.idx_core_model.specs.Layers.{laid_out, step_of, table_sample}

-- ---- the volume and the header at a revision

-- a raw input of the volume's length is one of a volume
pub volume_is : (h : HeaderValue) (raw : List ℕ) → length raw ≡ volume_bytes h → IsVolumeOf h (volume_of_raw h raw)
volume_is h raw whole = IsVolume-volume_of (map sample_bytes h.fields) (length (points h.box)) raw (whole ∙ mul_comm (length (points h.box)) (sum (map sample_bytes h.fields)))

untimed : (o : Option Steps) → IsSome o → o ≡ None → ⊥
untimed None some none = absurd (false≢true some)
untimed (Some steps) some none = let wrong : ◌≡◌ {A = Option Steps} (Some steps) None = none in cc

-- the header of a dataset with a time is one at each revision
pub revision_is : (h : HeaderValue) (r : ℕ) → IsHeader h → IsSome h.steps → r ≤ 255 → IsHeader (at_revision r h)
revision_is h r is some few = record {
  region = is.region;
  mask = is.mask;
  covered = is.covered;
  whole = is.whole;
  fields = is.fields;
  texts = is.texts;
  bits_some = is.bits_some;
  bits_few = is.bits_few;
  bits_within = is.bits_within;
  bits_most = is.bits_most;
  small_blocks = is.small_blocks;
  blocks_some = is.blocks_some;
  blocks_few = is.blocks_few;
  small_table = is.small_table;
  template = is.template;
  fits = is.fits;
  steps = is.steps;
  unknown = is.unknown;
  revision_few = few;
  unrevised = λ none. absurd (untimed h.steps some none);
}

-- ---- files

-- what a function gives for each field and each address of a file
abbrev pub table_by : HeaderValue → ℕ → (ℕ → ℕ → List ℕ) → List (List (List ℕ))
table_by h file g = map (λ field. map (g field) (file_addresses h file)) (range_with_len 0 (length h.fields))

-- an address by its block
bounds_of : (m file per a block : ℕ) → 0 < m → a / m ≡ block → file ≤ block → block < file + per → (file * m ≤ a) × (a < file * m + per * m)
bounds_of m file per a block some at from to =
    let parts : a % m + a / m * m ≡ a = mod-add-div' a m in
    let product : a / m * m ≡ block * m = ap (λ n. n * m) at in
    let rest : a % m < m = mod-lt a some in
    let low : file * m ≤ block * m = mul-le-mul_right m from in
    let next : block + 1 ≤ file + per = omega arith in
    let high : (block + 1) * m ≤ (file + per) * m = mul-le-mul_right m next in
    (omega arith, omega arith)

-- the table has the samples of the file's addresses
pub table_has : (h : HeaderValue) (file : ℕ) (g : ℕ → ℕ → List ℕ) (field a : ℕ) → field < length h.fields → file ≤ a / 2 ^ h.block_bits → a / 2 ^ h.block_bits < file + h.blocks_per_file →
    table_sample h file (table_by h file g) field a ≡ g field a
table_has h file g field a within from to =
    let bounds = bounds_of (2 ^ h.block_bits) file h.blocks_per_file a (a / 2 ^ h.block_bits) (pow_pos h.block_bits) refl from to in
    ap (λ row. get_or row (a - file * 2 ^ h.block_bits) []) (get_or-map-range_with_len (λ k. map (g k) (file_addresses h file)) 0 (length h.fields) field field [] within (zero-add field))
    ∙ get_or-map-range_with_len (g field) (file * 2 ^ h.block_bits) (h.blocks_per_file * 2 ^ h.block_bits) (a - file * 2 ^ h.block_bits) a [] (omega (arith, bounds.0, bounds.1)) (omega (arith, bounds.0))

pub file_same : (h : HeaderValue) (raw : List ℕ) (file : ℕ) → length raw ≡ volume_bytes h →
    laid_out h file (table_by h file (sample_at_address h (raw_sample h raw))) ≡ file_bytes Hz (placing_of h) (volume_of_raw h raw) file
file_same h raw file whole =
    file_is Hz h (volume_of_raw h raw) file (blocks_by Hz h file (table_sample h file (table_by h file (sample_at_address h (raw_sample h raw))))) (volume_is h raw whole)
    (blocks_agree Hz h file (table_sample h file (table_by h file (sample_at_address h (raw_sample h raw)))) (sample_at_address h (raw_sample h raw))
    (λ field a within from to. table_has h file (sample_at_address h (raw_sample h raw)) field a within from to))

-- the files of the samples of a raw input are those that one rank writes of the volume
pub files_same : (h : HeaderValue) (t r : ℕ) (raw : List ℕ) → length raw ≡ volume_bytes h →
    map (λ file. (file_name (at_revision r h) t file, laid_out h file (table_by h file (sample_at_address h (raw_sample h raw))))) (file_numbers (placing_of h))
    ≡ step_files Hz (at_revision r h) (volume_of_raw h raw) t
files_same h t r raw whole = λ i. map (λ file. (file_name (at_revision r h) t file, file_same h raw file whole i)) (file_numbers (placing_of h))

-- ---- blocks

-- the files that one rank writes of a raw input, where they stand alone
abbrev pub written : HeaderValue → ℕ → ℕ → List ℕ → List MemFile
written h t r raw = step_of (step_files Hz (at_revision r h) (volume_of_raw h raw) t)

-- they are the files of the volume
pub written_has : (h : HeaderValue) (t r : ℕ) (raw : List ℕ) → IsHeader (at_revision r h) → HasTime h t → HasFiles Hz (at_revision r h) t (volume_of_raw h raw) (written h t r raw)
written_has h t r raw is time = own_files Hz (at_revision r h) t (volume_of_raw h raw) [] is time

-- how many fields there are
pub field_count : (h : HeaderValue) → length (shape_of h).lengths ≡ length h.fields
field_count h = length-map-range_with_len (block_bytes (placing_of h)) 0 (length (placing_of h).sizes) ∙ length-map h.fields sample_bytes

-- the samples of a volume's field
samples_fit : (sizes : List ℕ) (n : ℕ) (volume : List (List (List ℕ))) (field : ℕ) (samples : List (List ℕ)) → IsVolume sizes n volume → slice_get volume field ≡ Some samples →
    (length samples ≡ n) × All (λ sample. length sample ≡ slice_index sizes field) samples
samples_fit [] n [] field samples fills at = let wrong : None ≡ Some samples = at in absurd (cc)
samples_fit [] n (v ∷ volume) field samples fills at = absurd fills
samples_fit (size ∷ sizes) n [] field samples fills at = absurd fills
samples_fit (size ∷ sizes) n (v ∷ volume) zero samples fills at =
    let same : v ≡ samples = cc in
    (ap length (sym same) ∙ fills.0, subst (λ (s : List (List ℕ)). All (λ sample. length sample ≡ size) s) same fills.1)
samples_fit (size ∷ sizes) n (v ∷ volume) (suc field) samples fills at = samples_fit sizes n volume field samples fills.2 at

-- each stored block has its field's length
pub stored_length : (h : HeaderValue) (t r : ℕ) (raw : List ℕ) (field block : ℕ) → IsHeader (at_revision r h) → HasTime h t → length raw ≡ volume_bytes h →
    field < length (shape_of h).lengths → block < (shape_of h).blocks →
    length (bytes_at (table_of (shape_of h) (stored_block (at_revision r h) t (written h t r raw))) field block) ≡ slice_index (shape_of h).lengths field
stored_length h t r raw field block is time whole has exist =
    let fills : IsVolumeOf h (volume_of_raw h raw) = volume_is h raw whole in
    let within : field < length h.fields = omega (arith, has, field_count h) in
    let in_sizes : field < length (placing_of h).sizes = omega (arith, within, length-map h.fields sample_bytes) in
    let there : field < length (volume_of_raw h raw) = omega (arith, in_sizes, volume_count (placing_of h).sizes (length (points h.box)) (volume_of_raw h raw) fills) in
    let at : slice_get (volume_of_raw h raw) field ≡ Some (get_or (volume_of_raw h raw) field []) = slice_get-get_or (volume_of_raw h raw) field [] there in
    let fit = samples_fit (placing_of h).sizes (length (points h.box)) (volume_of_raw h raw) field (get_or (volume_of_raw h raw) field []) fills at in
    ap length (entry-table [] (shape_of h) (stored_block (at_revision r h) t (written h t r raw)) field block has exist)
    ∙ ap length (block_stored Hz (at_revision r h) t (volume_of_raw h raw) (written h t r raw) field block (get_or (volume_of_raw h raw) field []) is fills (written_has h t r raw is time) within at exist)
    ∙ length-block_of_samples (placing_of h) (slice_index (placing_of h).sizes field) (get_or (volume_of_raw h raw) field []) block fit.0 fit.1
    ∙ sym (get_or-map-range_with_len (block_bytes (placing_of h)) 0 (length (placing_of h).sizes) field field 0 in_sizes (zero-add field))
