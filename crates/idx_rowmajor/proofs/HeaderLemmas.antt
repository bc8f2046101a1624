-- The blocks of a dataset by its header.
use Rattle.std.proofs.Common.{◌≡◌, ℕ, ◌<◌, List, length, sym, subst}
use Rattle.std.proofs.lemmas.List.{length-map}
use Rattle.idx_hz.specs.Mask.{NamesAxes}
use Rattle.idx_header.specs.Header.{HeaderValue, IsHeader, block_bytes, block_count, sample_bytes_of}
use Rattle.idx_rowmajor.specs.Exchange.{AreTaken}
use Rattle.idx_rowmajor.specs.RowPlace.{IsBlock}
use Rattle.idx_rowmajor.specs.Rows.{sample_of, hz_from_rows, rows_from_hz}
use Rattle.idx_rowmajor.specs.Targets.{GiveRowPlaces}
use Rattle.idx_rowmajor.proofs.RowsLemmas.{hz_from_rows-taken, rows_from_hz-taken}

pub NamesAxes-header : (h : HeaderValue) → IsHeader h → NamesAxes h.mask (length h.box)
NamesAxes-header h is = subst (NamesAxes h.mask) (length-map h.box (λ b. b.1)) is.covered.named

pub IsBlock-header : (h : HeaderValue) (block : ℕ) → IsHeader h → block < block_count h → IsBlock h.mask (length h.box) h.block_bits block
IsBlock-header h block is exists = record { named = NamesAxes-header h is; fits = is.bits_within; exists = exists }

-- what a body knows of a block's samples: the numbers that it goes by are those of the header
pub record IsOfHeader (h : HeaderValue) (field block : ℕ) (mask : List ℕ) (bits size : ℕ) : Type 0 where
  pub header : IsHeader h
  pub exists : block < block_count h
  pub same_mask : mask ≡ h.mask
  pub same_bits : bits ≡ h.block_bits
  pub same_size : size ≡ sample_bytes_of h field

pub to_hz-taken : (h : HeaderValue) (field block : ℕ) (mask targets : List ℕ) (bits size : ℕ) (rows hz : List ℕ) → IsOfHeader h field block mask bits size →
    ((axes : ℕ) → NamesAxes mask axes → GiveRowPlaces mask axes bits block targets) → length hz ≡ block_bytes h field → AreTaken bits block targets (sample_of size rows) (sample_of size hz) →
    hz ≡ hz_from_rows h.mask (length h.box) h.block_bits block (sample_bytes_of h field) rows
to_hz-taken h field block mask targets bits size rows hz of give long taken =
    let axes : ℕ = length h.box in
    let named : NamesAxes mask axes = subst (λ (m : List ℕ). NamesAxes m axes) (sym of.same_mask) (NamesAxes-header h of.header) in
    let by_mask : GiveRowPlaces h.mask axes bits block targets = subst (λ (m : List ℕ). GiveRowPlaces m axes bits block targets) of.same_mask (give axes named) in
    let by_bits : GiveRowPlaces h.mask axes h.block_bits block targets = subst (λ (b : ℕ). GiveRowPlaces h.mask axes b block targets) of.same_bits by_mask in
    let by_size : AreTaken bits block targets (sample_of (sample_bytes_of h field) rows) (sample_of (sample_bytes_of h field) hz) =
    subst (λ (n : ℕ). AreTaken bits block targets (sample_of n rows) (sample_of n hz)) of.same_size taken in
    hz_from_rows-taken h.mask targets axes h.block_bits block (sample_bytes_of h field) rows hz (IsBlock-header h block of.header of.exists) by_bits long
    (subst (λ (b : ℕ). AreTaken b block targets (sample_of (sample_bytes_of h field) rows) (sample_of (sample_bytes_of h field) hz)) of.same_bits by_size)

pub to_rows-taken : (h : HeaderValue) (field block : ℕ) (mask targets : List ℕ) (bits size : ℕ) (rows hz : List ℕ) → IsOfHeader h field block mask bits size →
    ((axes : ℕ) → NamesAxes mask axes → GiveRowPlaces mask axes bits block targets) → length rows ≡ block_bytes h field → AreTaken bits block targets (sample_of size rows) (sample_of size hz) →
    rows ≡ rows_from_hz h.mask (length h.box) h.block_bits block (sample_bytes_of h field) hz
to_rows-taken h field block mask targets bits size rows hz of give long taken =
    let axes : ℕ = length h.box in
    let named : NamesAxes mask axes = subst (λ (m : List ℕ). NamesAxes m axes) (sym of.same_mask) (NamesAxes-header h of.header) in
    let by_mask : GiveRowPlaces h.mask axes bits block targets = subst (λ (m : List ℕ). GiveRowPlaces m axes bits block targets) of.same_mask (give axes named) in
    let by_bits : GiveRowPlaces h.mask axes h.block_bits block targets = subst (λ (b : ℕ). GiveRowPlaces h.mask axes b block targets) of.same_bits by_mask in
    let by_size : AreTaken bits block targets (sample_of (sample_bytes_of h field) rows) (sample_of (sample_bytes_of h field) hz) =
    subst (λ (n : ℕ). AreTaken bits block targets (sample_of n rows) (sample_of n hz)) of.same_size taken in
    rows_from_hz-taken h.mask targets axes h.block_bits block (sample_bytes_of h field) rows hz (IsBlock-header h block of.header of.exists) by_bits long
    (subst (λ (b : ℕ). AreTaken b block targets (sample_of (sample_bytes_of h field) rows) (sample_of (sample_bytes_of h field) hz)) of.same_bits by_size)
