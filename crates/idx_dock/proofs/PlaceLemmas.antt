-- A block in row-major order, sample after sample.
use Rattle.std.proofs.Common.{◌≡◌, ℕ, ◌+◌, ◌-◌, ◌*◌, ◌^◌, ◌<◌, ◌≤◌, true, List, length, take, drop, sym, ap, ◌∙◌, arith, inl, inr, None}
use Rattle.std.specs.Prelude.{◌⊎◌, find, replicate}
use Rattle.std.specs.List.{flat_map, range_with_len}
use Rattle.std.specs.Option.{option_map_or}
use Rattle.std.proofs.Math.Nat.{mul-le-mul_left}
use Rattle.std.proofs.lemmas.List.{length-drop, length-replicate, length-take-le}
use Rattle.idx_header.specs.Header.{HeaderValue, sample_bytes_of}
use Rattle.idx_rowmajor.specs.RowPlace.{offset_at}
use Rattle.idx_rowmajor.specs.Rows.{rows_from_hz}
use Rattle.idx_rowmajor.specs.declared.layout.Layout.TheVariants.{Rows}
use Rattle.idx_rowmajor.proofs.RowPlaceLemmas.{offset_at-small}
use Rattle.idx_pieces.specs.Runs.{IsRun, run_length}
use Rattle.idx_pieces.specs.declared.run.Run.{Run}
use Rattle.idx_dock.specs.declared.awaited.Awaited.{Awaited}
use Rattle.idx_dock.specs.Content.{block_among, has_sample, run_sample, runs_in, sample_among, stored_among}
use Rattle.idx_dock.specs.Next.{AreWritable, IsOneOf}
use Rattle.idx_dock.proofs.CompleteLemmas.{find_run, sample_of_range}
use Rattle.idx_dock.proofs.ContentLemmas.{one_of_all}
use Rattle.idx_dock.proofs.WriteLemmas.{flat_map-range, has_is, sample_run}

-- a sample cut from whole ones
cut_length : (size first count a : ℕ) (bytes : List ℕ) → length bytes ≡ size * count → first ≤ a → a < first + count → length (take size (drop (size * (a - first)) bytes)) ≡ size
cut_length size first count a bytes many from to =
    let next : a - first + 1 ≤ count = omega arith in
    let product : size * (a - first + 1) ≤ size * count = mul-le-mul_left size next in
    let one : size * (a - first + 1) ≡ size * (a - first) + size = omega arith in
    length-take-le size (drop (size * (a - first)) bytes) (omega (arith, length-drop (size * (a - first)) bytes))

-- each sample has its field's size
pub length-sample_among : (h : HeaderValue) (file : ℕ) (awaited : List Awaited) → AreWritable h file awaited → (field a : ℕ) → length (sample_among h (runs_in awaited) field a) ≡ sample_bytes_of h field
length-sample_among h file awaited writable field a = by_run (find_run (has_sample h field a) runs)
  where
    runs : List Run
    runs = runs_in awaited

    by_run : ((r : Run) × IsOneOf runs r × (has_sample h field a r ≡ true)) ⊎ (find (has_sample h field a) runs ≡ None) → length (sample_among h runs field a) ≡ sample_bytes_of h field
    by_run (inl found) =
        let r : Run = found.0 in
        let bounds = has_is h field a r found.2 in
        let run = one_of_all (IsRun h file) awaited r writable.runs found.1 in
        ap length (sample_run h field a runs r writable.apart found.1 found.2)
        ∙ cut_length (sample_bytes_of h r.field) r.first (run_length h r) a r.bytes run.whole bounds.1 bounds.2
        ∙ ap (sample_bytes_of h) bounds.0
    by_run (inr none) =
        ap (λ o. length (option_map_or (run_sample h a) o (replicate (sample_bytes_of h field) 0))) none ∙ length-replicate (sample_bytes_of h field) 0

-- the address of a row place of a block, and the sample there
abbrev pub address_at : HeaderValue → ℕ → ℕ → ℕ
address_at h block place = block * 2 ^ h.block_bits + offset_at h.mask (length h.box) h.block_bits block place

abbrev pub sample_by_place : HeaderValue → List Run → ℕ → ℕ → ℕ → List ℕ
sample_by_place h runs field block place = sample_among h runs field (address_at h block place)

-- a block in row-major order has at each place the sample of its address
pub stored_by_place : (h : HeaderValue) (file : ℕ) (awaited : List Awaited) → AreWritable h file awaited → (field block : ℕ) →
    stored_among Rows h (runs_in awaited) field block ≡ flat_map (sample_by_place h (runs_in awaited) field block) (range_with_len 0 (2 ^ h.block_bits))
unfolding rows_from_hz
stored_by_place h file awaited writable field block =
    flat_map-range (λ place. take size (drop (offset place * size) bytes)) (sample_by_place h runs field block) 0 m (λ place from to. at place)
  where
    runs : List Run
    runs = runs_in awaited

    size : ℕ
    size = sample_bytes_of h field

    m : ℕ
    m = 2 ^ h.block_bits

    bytes : List ℕ
    bytes = block_among h runs field block

    offset : ℕ → ℕ
    offset place = offset_at h.mask (length h.box) h.block_bits block place

    at : (place : ℕ) → take size (drop (offset place * size) bytes) ≡ sample_by_place h runs field block place
    at place =
        let below : offset place < m = offset_at-small h.mask (length h.box) h.block_bits block place in
        let from : block * m + offset place - block * m ≡ offset place = omega arith in
        let turned : offset place * size ≡ size * (block * m + offset place - block * m) = (let h : offset place * size ≡ size * offset place = grind arith in h) ∙ ap (λ n. size * n) (sym from) in
        ap (λ n. take size (drop n bytes)) turned
        ∙ sample_of_range (sample_among h runs field) size (block * m) m (block * m + offset place) (length-sample_among h file awaited writable field) (omega arith) (omega arith)
