-- The file of a volume by its samples at addresses.
use Rattle.std.proofs.Common.{◌≡◌, ℕ, ◌+◌, ◌-◌, ◌*◌, ◌/◌, ◌^◌, ◌<◌, ◌≤◌, Bool, true, false, cond, List, [], ◌∷◌, ◌++◌, length, get_or, map, refl, sym, ap, ◌∙◌, arith, Option, Some, None, eqb-true}
use Rattle.std.specs.Prelude.{◌==◌, find, replicate}
use Rattle.std.specs.List.{flat_map, range_with_len}
use Rattle.std.specs.Option.{option_map_or}
use Rattle.std.proofs.lemmas.List.{length-map}
use Rattle.std.proofs.lemmas.Nat.{div-mul-add}
use Rattle.idx_geom.specs.Region.{LiesIn, points}
use Rattle.idx_hz.specs.Address.{hz_address}
use Rattle.idx_fields.specs.Field.{sample_bytes}
use Rattle.idx_header.specs.Header.{HeaderValue, sample_bytes_of}
use Rattle.idx_table.specs.Row.{row_bytes, row_length}
use Rattle.idx_layout.specs.Placing.{Placing, is_present, present_blocks, stored_sample}
use Rattle.idx_layout.specs.Files.{block_in_file, blocks_of_file, file_bytes, rows_of_file}
use Rattle.idx_layout.specs.OfHeader.{placing_of}
use Rattle.idx_layout.specs.Layout.{arranged}
use Rattle.idx_rowmajor.specs.declared.layout.Layout.{Layout}
use Rattle.idx_pieces.specs.Runs.{sample_at_address}
use Rattle.idx_dock.specs.Content.{sample_of}
use Rattle.idx_dock.proofs.CompleteLemmas.{filter_range, find_point, zip_range}
use Rattle.idx_dock.proofs.WriteLemmas.{flat_map-range}
use Rattle.idx_volumes.specs.Volumes.{HaveOneFile, IsVolumeOf}
use Rattle.idx_volumes.proofs.MadeLemmas.{fields_within, size_at}

-- the block of a point, and a point of a file's blocks
abbrev pub block_of : HeaderValue → List ℕ → ℕ
block_of h p = hz_address h.mask p / 2 ^ h.block_bits

pub record IsInFile (h : HeaderValue) (file : ℕ) (p : List ℕ) : Type 0 where
  pub lies : LiesIn h.box p
  pub from : file ≤ block_of h p
  pub to : block_of h p < file + h.blocks_per_file

-- the present blocks of a file, with these samples at their addresses
abbrev pub block_by : HeaderValue → (ℕ → List ℕ) → ℕ → List ℕ
block_by h f block = flat_map f (range_with_len (block * 2 ^ h.block_bits) (2 ^ h.block_bits))

abbrev pub stored_by : Layout → HeaderValue → (ℕ → ℕ → List ℕ) → ℕ → ℕ → List ℕ
stored_by layout h f field block = arranged layout (placing_of h) (sample_bytes_of h field) block (block_by h (f field) block)

abbrev pub field_by : Layout → HeaderValue → ℕ → (ℕ → ℕ → List ℕ) → ℕ → List ℕ
field_by layout h file f field = flat_map (stored_by layout h f field) (present_blocks (placing_of h) file)

abbrev pub blocks_by : Layout → HeaderValue → ℕ → (ℕ → ℕ → List ℕ) → List ℕ
blocks_by layout h file f = flat_map (field_by layout h file f) (range_with_len 0 (length h.fields))

-- samples that agree at the addresses of a file give one file
pub blocks_agree : (layout : Layout) (h : HeaderValue) (file : ℕ) (f g : ℕ → ℕ → List ℕ) → ((field a : ℕ) → field < length h.fields → file ≤ a / 2 ^ h.block_bits →
    a / 2 ^ h.block_bits < file + h.blocks_per_file → f field a ≡ g field a) → blocks_by layout h file f ≡ blocks_by layout h file g
blocks_agree layout h file f g agree =
    flat_map-range (field_by layout h file f) (field_by layout h file g) 0 (length h.fields) (λ field low high.
    filter_range (stored_by layout h f field) (stored_by layout h g field) (is_present (placing_of h)) file h.blocks_per_file (λ block from to.
    ap (arranged layout (placing_of h) (sample_bytes_of h field) block) (flat_map-range (f field) (g field) (block * m) m (λ a first last.
    (let parts : a ≡ block * m + (a - block * m) = omega arith in
    let at : a / m ≡ block = ap (λ n. n / m) parts ∙ div-mul-add block m (a - block * m) (omega arith) in
    agree field a (omega arith) (omega arith) (omega arith))))))
  where
    m : ℕ
    m = 2 ^ h.block_bits

find_passes : (test : List ℕ → Bool) (ps : List (List ℕ)) (p : List ℕ) → find test ps ≡ Some p → test p ≡ true
find_passes test [] p found = let wrong : None ≡ Some p = found in absurd (cc)
find_passes test (q ∷ ps) p found = by_test (test q) refl found (find_passes test ps p)
  where
    by_test : (b : Bool) → test q ≡ b → cond b (Some q) (find test ps) ≡ Some p → (find test ps ≡ Some p → test p ≡ true) → test p ≡ true
    by_test true is found more = let same : q ≡ p = cc in sym (ap test same) ∙ is
    by_test false is found more = more found

-- what stands at an address is what the first point that has it gives, and zeros where none has it
pub by_points : (h : HeaderValue) (s : ℕ → List ℕ → List ℕ) (field a : ℕ) (x : List ℕ) →
    ((p : List ℕ) → find (λ p. hz_address h.mask p == a) (points h.box) ≡ Some p → LiesIn h.box p → hz_address h.mask p ≡ a → x ≡ s field p) →
    (find (λ p. hz_address h.mask p == a) (points h.box) ≡ None → x ≡ replicate (sample_bytes_of h field) 0) → x ≡ sample_at_address h s field a
by_points h s field a x some none = by_find (find (λ p. hz_address h.mask p == a) (points h.box)) refl
  where
    by_find : (o : Option (List ℕ)) → find (λ p. hz_address h.mask p == a) (points h.box) ≡ o → x ≡ option_map_or (s field) o (replicate (sample_bytes_of h field) 0)
    by_find None found = none found
    by_find (Some p) found =
        some p found (find_point h.box (λ p. hz_address h.mask p == a) p found)
        (eqb-true (hz_address h.mask p) a (find_passes (λ p. hz_address h.mask p == a) (points h.box) p found))

-- samples that agree at the points of a file
abbrev pub AgreeInFile : HeaderValue → ℕ → (ℕ → List ℕ → List ℕ) → (ℕ → List ℕ → List ℕ) → Type 0
AgreeInFile h file s t = (field : ℕ) (p : List ℕ) → field < length h.fields → IsInFile h file p → s field p ≡ t field p

pub points_agree : (layout : Layout) (h : HeaderValue) (file : ℕ) (s t : ℕ → List ℕ → List ℕ) → AgreeInFile h file s t → blocks_by layout h file (sample_at_address h s) ≡ blocks_by layout h file (sample_at_address h t)
points_agree layout h file s t agree =
    blocks_agree layout h file (sample_at_address h s) (sample_at_address h t) (λ field a within from to.
    by_points h t field a (sample_at_address h s field a)
    (λ p found lies at.
    (let block : block_of h p ≡ a / 2 ^ h.block_bits = ap (λ n. n / 2 ^ h.block_bits) at in
    ap (λ o. option_map_or (s field) o (replicate (sample_bytes_of h field) 0)) found
    ∙ agree field p within (record { lies = lies; from = omega (arith, block); to = omega (arith, block) })))
    (λ found. ap (λ o. option_map_or (s field) o (replicate (sample_bytes_of h field) 0)) found))

-- the blocks of a volume's file are those of its samples
pub volume_blocks : (layout : Layout) (h : HeaderValue) (volume : List (List (List ℕ))) (file : ℕ) → IsVolumeOf h volume →
    blocks_of_file layout (placing_of h) volume file ≡ blocks_by layout h file (sample_at_address h (sample_of h volume))
volume_blocks layout h volume file is =
    zip_range (λ f. flat_map (block_in_file layout l f.0 f.1) (present_blocks l file)) g sizes volume (length (points h.box)) 0 is
    (λ k inside.
    (let size = size_at h k (fields_within h k inside) in
    let on : k ≡ 0 + k = omega arith in
    ap (λ n. flat_map (λ block. arranged layout l n block (block_by h (stored_sample l n (get_or volume k [])) block)) (present_blocks l file)) size ∙ ap g on))
    ∙ ap (λ n. flat_map g (range_with_len 0 n)) (length-map h.fields sample_bytes)
  where
    l : Placing
    l = placing_of h

    sizes : List ℕ
    sizes = map sample_bytes h.fields

    g : ℕ → List ℕ
    g = field_by layout h file (sample_at_address h (sample_of h volume))

-- and so is the file
pub file_is : (layout : Layout) (h : HeaderValue) (volume : List (List (List ℕ))) (file : ℕ) (blocks : List ℕ) → IsVolumeOf h volume → blocks ≡ blocks_by layout h file (sample_at_address h (sample_of h volume)) →
    (replicate row_length 0 ++ flat_map row_bytes (rows_of_file layout (placing_of h) file)) ++ blocks ≡ file_bytes layout (placing_of h) volume file
file_is layout h volume file blocks is same =
    ap (λ rest. (replicate row_length 0 ++ flat_map row_bytes (rows_of_file layout (placing_of h) file)) ++ rest) (same ∙ sym (volume_blocks layout h volume file is))

-- volumes that agree at the points of a file have it in common
pub files_agree : (h : HeaderValue) (file : ℕ) (v w : List (List (List ℕ))) → IsVolumeOf h v → IsVolumeOf h w → AgreeInFile h file (sample_of h v) (sample_of h w) → HaveOneFile h file v w
files_agree h file v w is_v is_w agree = λ layout.
    file_is layout h w file (blocks_of_file layout (placing_of h) v file) is_w (volume_blocks layout h v file is_v ∙ points_agree layout h file (sample_of h v) (sample_of h w) agree)
