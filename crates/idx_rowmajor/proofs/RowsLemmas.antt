-- Blocks in hierarchical and in row-major order.
use Rattle.std.proofs.Common.{◌≡◌, ℕ, zero, suc, ◌+◌, ◌*◌, ◌^◌, ◌<◌, ◌≤◌, List, ◌++◌, length, take, drop, sym, ap, ◌∙◌, arith, length-append, length-drop, length-take-le}
use Rattle.std.specs.List.{flat_map, range_with_len}
use Rattle.std.proofs.Math.Nat.{mul-le-mul_right}
use Rattle.std.proofs.Math.Seq.{take-append_seam, drop-append-add}
use Rattle.idx_lanes.proofs.CopyLemmas.{all-right}
use Rattle.idx_rowmajor.specs.Exchange.{AreTaken}
use Rattle.idx_rowmajor.specs.RowPlace.{IsBlock, row_place, offset_at}
use Rattle.idx_rowmajor.specs.Rows.{sample_of, hz_from_rows, rows_from_hz}
use Rattle.idx_rowmajor.specs.Targets.{GiveRowPlaces}
use Rattle.idx_rowmajor.proofs.RowPlaceLemmas.{row_place-lt, offset_at-lt, offset_at-small, offset_at-row_place, row_place-offset_at}

-- ---- samples one behind the other

length-samples : (want : ℕ → List ℕ) (size n first : ℕ) → ((k : ℕ) → k < n → length (want (first + k)) ≡ size) → length (flat_map want (range_with_len first n)) ≡ n * size
length-samples want size zero first long = omega arith
length-samples want size (suc n) first long =
    let here : length (want first) ≡ size = ap (λ k. length (want k)) (let h : first ≡ first + 0 = omega arith in h) ∙ long 0 (omega arith) in
    let rest : length (flat_map want (range_with_len (first + 1) n)) ≡ n * size = length-samples want size n (first + 1)
    (λ k within. ap (λ i. length (want i)) (let h : first + 1 + k ≡ first + suc k = omega arith in h) ∙ long (suc k) (omega arith)) in
    let more : size + n * size ≡ suc n * size = grind arith in
    length-append (want first) (flat_map want (range_with_len (first + 1) n)) ∙ omega (arith, here, rest, more)

sample_of-samples : (want : ℕ → List ℕ) (size n first i : ℕ) → ((k : ℕ) → k < n → length (want (first + k)) ≡ size) → i < n → sample_of size (flat_map want (range_with_len first n)) i ≡ want (first + i)
sample_of-samples want size zero first i long within = absurd (omega arith)
sample_of-samples want size (suc n) first zero long within =
    let same : first ≡ first + 0 = omega arith in
    let none : 0 * size ≡ 0 = omega arith in
    let here : length (want first) ≡ size = ap (λ k. length (want k)) same ∙ long 0 (omega arith) in
    let rest : List ℕ = flat_map want (range_with_len (first + 1) n) in
    ap (λ k. take size (drop k (want first ++ rest))) none
    ∙ ap (λ k. take k (want first ++ rest)) (sym here)
    ∙ take-append_seam (want first) rest ∙ ap want same
sample_of-samples want size (suc n) first (suc i) long within =
    let same : first ≡ first + 0 = omega arith in
    let here : length (want first) ≡ size = ap (λ k. length (want k)) same ∙ long 0 (omega arith) in
    let rest : List ℕ = flat_map want (range_with_len (first + 1) n) in
    let more : size + i * size ≡ suc i * size = grind arith in
    let place : suc i * size ≡ length (want first) + i * size = omega (arith, here, more) in
    let next : (k : ℕ) → first + 1 + k ≡ first + suc k = λ k. omega arith in
    ap (λ k. take size (drop k (want first ++ rest))) place
    ∙ ap (take size) (drop-append-add (want first) rest (i * size))
    ∙ sample_of-samples want size n (first + 1) i (λ k inside. ap (λ m. length (want m)) (next k) ∙ long (suc k) (omega arith)) (omega arith)
    ∙ ap want (next i)

length-sample_of : (size n place : ℕ) (bytes : List ℕ) → length bytes ≡ size * n → place < n → length (sample_of size bytes place) ≡ size
length-sample_of size n place bytes long within =
    let more : (place + 1) * size ≡ place * size + size = grind arith in
    let whole : n * size ≡ size * n = grind arith in
    let le : place + 1 ≤ n = omega arith in
    length-take-le size (drop (place * size) bytes) (omega (arith, length-drop (place * size) bytes, more, whole, long, mul-le-mul_right size le))

-- ---- both orders

-- the row-major order keeps the length, whatever the block's number is
pub length-rows_from_hz : (mask : List ℕ) (axes bits block size : ℕ) (bytes : List ℕ) → length bytes ≡ size * 2 ^ bits → length (rows_from_hz mask axes bits block size bytes) ≡ size * 2 ^ bits
unfolding rows_from_hz
length-rows_from_hz mask axes bits block size bytes long =
    length-samples (λ place. sample_of size bytes (offset_at mask axes bits block place)) size (2 ^ bits) 0
    (λ k within. length-sample_of size (2 ^ bits) (offset_at mask axes bits block (0 + k)) bytes long (offset_at-small mask axes bits block (0 + k)))
    ∙ (let h : 2 ^ bits * size ≡ size * 2 ^ bits = grind arith in h)

module _ (mask : List ℕ) (axes bits block size : ℕ) (is : IsBlock mask axes bits block) (bytes : List ℕ) (long : length bytes ≡ size * 2 ^ bits) where
  sized_hz : (k : ℕ) → k < 2 ^ bits → length (sample_of size bytes (row_place mask axes bits block (0 + k))) ≡ size
  sized_hz k within = length-sample_of size (2 ^ bits) (row_place mask axes bits block (0 + k)) bytes long (row_place-lt mask axes bits block (0 + k) is (omega arith))

  sized_rows : (k : ℕ) → k < 2 ^ bits → length (sample_of size bytes (offset_at mask axes bits block (0 + k))) ≡ size
  sized_rows k within = length-sample_of size (2 ^ bits) (offset_at mask axes bits block (0 + k)) bytes long (offset_at-lt mask axes bits block (0 + k) is (omega arith))

  pub length-hz_from_rows : length (hz_from_rows mask axes bits block size bytes) ≡ size * 2 ^ bits
  unfolding hz_from_rows
  length-hz_from_rows =
      length-samples (λ offset. sample_of size bytes (row_place mask axes bits block offset)) size (2 ^ bits) 0 sized_hz ∙ (let h : 2 ^ bits * size ≡ size * 2 ^ bits = grind arith in h)

  pub sample_of-hz_from_rows : (offset : ℕ) → offset < 2 ^ bits → sample_of size (hz_from_rows mask axes bits block size bytes) offset ≡ sample_of size bytes (row_place mask axes bits block offset)
  unfolding hz_from_rows
  sample_of-hz_from_rows offset within =
      sample_of-samples (λ offset. sample_of size bytes (row_place mask axes bits block offset)) size (2 ^ bits) 0 offset sized_hz within
      ∙ ap (λ n. sample_of size bytes (row_place mask axes bits block n)) (let h : 0 + offset ≡ offset = omega arith in h)

  pub sample_of-rows_from_hz : (place : ℕ) → place < 2 ^ bits → sample_of size (rows_from_hz mask axes bits block size bytes) place ≡ sample_of size bytes (offset_at mask axes bits block place)
  unfolding rows_from_hz
  sample_of-rows_from_hz place within =
      sample_of-samples (λ place. sample_of size bytes (offset_at mask axes bits block place)) size (2 ^ bits) 0 place sized_rows within
      ∙ ap (λ n. sample_of size bytes (offset_at mask axes bits block n)) (let h : 0 + place ≡ place = omega arith in h)

  total : length bytes ≡ 2 ^ bits * size
  total = long ∙ (let h : size * 2 ^ bits ≡ 2 ^ bits * size = grind arith in h)

  -- what has each sample at the offset of its row place is the block in hierarchical order
  pub hz_from_rows-samples : (rows : List ℕ) → ((o : ℕ) → o < 2 ^ bits → sample_of size bytes o ≡ sample_of size rows (row_place mask axes bits block o)) → bytes ≡ hz_from_rows mask axes bits block size rows
  unfolding hz_from_rows
  hz_from_rows-samples rows each = all-right (λ offset. sample_of size rows (row_place mask axes bits block offset)) size (2 ^ bits) 0 bytes total
      (λ o within. each o within ∙ ap (λ n. sample_of size rows (row_place mask axes bits block n)) (let h : o ≡ 0 + o = omega arith in h))

  -- and what has each at the row place of its offset is the block in row-major order
  pub rows_from_hz-samples : (hz : List ℕ) → ((place : ℕ) → place < 2 ^ bits → sample_of size bytes place ≡ sample_of size hz (offset_at mask axes bits block place)) → bytes ≡ rows_from_hz mask axes bits block size hz
  unfolding rows_from_hz
  rows_from_hz-samples hz each = all-right (λ place. sample_of size hz (offset_at mask axes bits block place)) size (2 ^ bits) 0 bytes total
      (λ o within. each o within ∙ ap (λ n. sample_of size hz (offset_at mask axes bits block n)) (let h : o ≡ 0 + o = omega arith in h))

-- ---- there and back

pub hz_from_rows-back : (mask : List ℕ) (axes bits block size : ℕ) (bytes : List ℕ) → IsBlock mask axes bits block → length bytes ≡ size * 2 ^ bits → hz_from_rows mask axes bits block size (rows_from_hz mask axes bits block size bytes) ≡ bytes
hz_from_rows-back mask axes bits block size bytes is long =
    sym (hz_from_rows-samples mask axes bits block size is bytes long (rows_from_hz mask axes bits block size bytes) (λ o within.
    sym (sample_of-rows_from_hz mask axes bits block size is bytes long (row_place mask axes bits block o) (row_place-lt mask axes bits block o is within)
    ∙ ap (sample_of size bytes) (offset_at-row_place mask axes bits block o is within))))

pub rows_from_hz-back : (mask : List ℕ) (axes bits block size : ℕ) (bytes : List ℕ) → IsBlock mask axes bits block → length bytes ≡ size * 2 ^ bits → rows_from_hz mask axes bits block size (hz_from_rows mask axes bits block size bytes) ≡ bytes
rows_from_hz-back mask axes bits block size bytes is long =
    sym (rows_from_hz-samples mask axes bits block size is bytes long (hz_from_rows mask axes bits block size bytes) (λ place within.
    sym (sample_of-hz_from_rows mask axes bits block size is bytes long (offset_at mask axes bits block place) (offset_at-lt mask axes bits block place is within)
    ∙ ap (sample_of size bytes) (row_place-offset_at mask axes bits block place is within))))

-- ---- samples that were taken

pub hz_from_rows-taken : (mask targets : List ℕ) (axes bits block size : ℕ) (rows hz : List ℕ) → IsBlock mask axes bits block → GiveRowPlaces mask axes bits block targets → length hz ≡ size * 2 ^ bits →
    AreTaken bits block targets (sample_of size rows) (sample_of size hz) → hz ≡ hz_from_rows mask axes bits block size rows
hz_from_rows-taken mask targets axes bits block size rows hz is give long taken =
    hz_from_rows-samples mask axes bits block size is hz long rows (λ o within. taken o (row_place mask axes bits block o) within (give o within))

pub rows_from_hz-taken : (mask targets : List ℕ) (axes bits block size : ℕ) (rows hz : List ℕ) → IsBlock mask axes bits block → GiveRowPlaces mask axes bits block targets → length rows ≡ size * 2 ^ bits →
    AreTaken bits block targets (sample_of size rows) (sample_of size hz) → rows ≡ rows_from_hz mask axes bits block size hz
rows_from_hz-taken mask targets axes bits block size rows hz is give long taken =
    rows_from_hz-samples mask axes bits block size is rows long hz (λ place within.
    let offset : ℕ = offset_at mask axes bits block place in
    let below : offset < 2 ^ bits = offset_at-lt mask axes bits block place is within in
    sym (taken offset (row_place mask axes bits block offset) below (give offset below) ∙ ap (sample_of size rows) (row_place-offset_at mask axes bits block place is within)))
