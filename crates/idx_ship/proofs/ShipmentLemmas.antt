-- The shipments of a piece, one after another, and the samples of the fields that are left.
use Rattle.std.proofs.Common.{◌≡◌, ℕ, zero, suc, ◌+◌, ◌-◌, ◌*◌, ◌^◌, ◌<◌, ◌≤◌, List, [], ◌∷◌, ◌++◌, Option, Some, None, length, map, take, drop, refl, sym, ap, subst, ◌∙◌, arith, append_assoc, append-nil, length-drop, length-take-le}
use Rattle.std.specs.Prelude.{find, sum, sum_by}
use Rattle.std.specs.List.{flat_map, range_with_len}
use Rattle.std.proofs.Math.Nat.{mul_comm, mul-le-mul_left}
use Rattle.std.proofs.lemmas.List.{map-append}
use Rattle.std.proofs.lemmas.List.Sums.{sum-map, sum_by-take-le}
use Rattle.idx_geom.specs.Region.{HoldsAll, IsRegion, LiesIn, points, upper_ends}
use Rattle.idx_hz.specs.Mask.{HasAddress}
use Rattle.idx_hz.proofs.RegionLemmas.{HasAddress-from_end, holds_iff}
use Rattle.idx_fields.specs.Field.{sample_bytes}
use Rattle.idx_header.specs.Header.{HeaderValue, IsHeader, sample_bytes_of}
use Rattle.idx_stride.proofs.RangeLemmas.{flat_map-range_more}
use Rattle.idx_layout.specs.Placing.{Placing, block_count, file_of, has_point_in, is_present}
use Rattle.idx_layout.specs.FileNumbers.{AreFiles, files_from}
use Rattle.idx_layout.proofs.FilesLemmas.{files_end, files_step}
use Rattle.idx_pieces.specs.Samples.{region_bytes}
use Rattle.idx_pieces.specs.Runs.{addresses_in}
use Rattle.idx_pieces.specs.declared.filled.Filled.{Filled}
use Rattle.idx_pieces.specs.declared.run.Run.{Run}
use Rattle.idx_pieces.specs.declared.shipment.Shipment.{Shipment}
use Rattle.idx_ship.specs.Spans.{all_addresses}
use Rattle.idx_ship.specs.Made.{bytes_before, field_runs, field_samples, file_runs, run_made}
use Rattle.idx_ship.specs.Shipments.{IsShipment, placing_in}
use Rattle.idx_ship.specs.declared.span.Span.{Span}
use Rattle.idx_ship.proofs.SampleLemmas.{before_more}
use Rattle.idx_ship.proofs.MadeLemmas.{are_runs, have_samples, runs_rise, spans_full}

-- each point of a part of the box has an address
pub part_has : (h : HeaderValue) (region : List (ℕ × ℕ)) → IsHeader h → IsRegion region → HoldsAll h.box region → HasAddress h.mask (upper_ends region)
part_has h region is valid holds = (holds_iff h.mask region valid.ordered).1 (λ p inside. HasAddress-from_end h.mask h.box p is.covered (holds p inside))

-- ---- the fields, one after another
drop_on : (n m : ℕ) (xs : List ℕ) → drop m (drop n xs) ≡ drop (n + m) xs
drop_on zero m xs = ap (λ k. drop k xs) (let e : m ≡ zero + m = omega arith in e)
drop_on (suc n) m [] = drop_nil m ∙ sym (drop_nil (suc n + m))
  where
    drop_nil : (k : ℕ) → drop {A = ℕ} k [] ≡ []
    drop_nil zero = refl
    drop_nil (suc k) = refl
drop_on (suc n) m (x ∷ xs) =
    let one : suc (n + m) ≡ suc n + m = omega arith in
    drop_on n m xs ∙ ap (λ k. drop k (x ∷ xs)) one

module _ (h : HeaderValue) (region : List (ℕ × ℕ)) (bytes : List ℕ) (long : length bytes ≡ region_bytes h region) where
  before_within : (field : ℕ) → bytes_before h region field ≤ length bytes
  before_within field =
      let part : sum_by sample_bytes (take field h.fields) ≤ sum_by sample_bytes h.fields = sum_by-take-le sample_bytes h.fields field in
      let product : bytes_before h region field ≤ length (points region) * sum_by sample_bytes h.fields = mul-le-mul_left (length (points region)) part in
      let whole : length (points region) * sum (map sample_bytes h.fields) ≡ length (points region) * sum_by sample_bytes h.fields = ap (λ n. length (points region) * n) (sum-map sample_bytes h.fields) in
      omega (arith, product, whole, long)

  -- the samples of a field are there
  pub field_fits : (field mid : ℕ) (rest : List ℕ) → field < length h.fields → mid ≡ length (points region) * sample_bytes_of h field → rest ≡ drop (bytes_before h region field) bytes → mid ≤ length rest
  field_fits field mid rest within same left =
      omega (arith, same, before_within (field + 1), before_more h region field within, ap length left, length-drop (bytes_before h region field) bytes)

  pub length-field : (field : ℕ) → field < length h.fields → length (field_samples h region bytes field) ≡ sample_bytes_of h field * length (points region)
  length-field field within =
      length-take-le (length (points region) * sample_bytes_of h field) (drop (bytes_before h region field) bytes)
      (field_fits field (length (points region) * sample_bytes_of h field) (drop (bytes_before h region field) bytes) within refl refl)
      ∙ mul_comm (length (points region)) (sample_bytes_of h field)

  -- one field more
  pub left_more : (field mid : ℕ) (rest : List ℕ) → field < length h.fields → mid ≡ length (points region) * sample_bytes_of h field → rest ≡ drop (bytes_before h region field) bytes →
      drop mid rest ≡ drop (bytes_before h region (field + 1)) bytes
  left_more field mid rest within same left =
      ap (drop mid) left ∙ drop_on (bytes_before h region field) mid bytes
      ∙ ap (λ n. drop n bytes) (ap (λ n. bytes_before h region field + n) same ∙ sym (before_more h region field within))

  pub made_more : (spans : List Span) (field mid size : ℕ) (mask rest samples : List ℕ) (old new : List Run) → mask ≡ h.mask → size ≡ sample_bytes_of h field → mid ≡ length (points region) * sample_bytes_of h field →
      rest ≡ drop (bytes_before h region field) bytes → samples ≡ take mid rest → old ≡ flat_map (field_runs h region bytes spans) (range_with_len 0 field) →
      new ≡ old ++ map (run_made mask region size samples field) spans → new ≡ flat_map (field_runs h region bytes spans) (range_with_len 0 (field + 1))
  made_more spans field mid size mask rest samples old new same_mask same_size same_mid left cut before pushed =
      pushed
      ∙ ap (λ xs. xs ++ map (run_made mask region size samples field) spans) before
      ∙ ap (λ m. flat_map (field_runs h region bytes spans) (range_with_len 0 field) ++ map (run_made m region size samples field) spans) same_mask
      ∙ ap (λ n. flat_map (field_runs h region bytes spans) (range_with_len 0 field) ++ map (run_made h.mask region n samples field) spans) same_size
      ∙ ap (λ s. flat_map (field_runs h region bytes spans) (range_with_len 0 field) ++ map (run_made h.mask region (sample_bytes_of h field) s field) spans)
      (cut ∙ ap (take mid) left ∙ ap (λ n. take n (drop (bytes_before h region field) bytes)) same_mid)
      ∙ sym (flat_map-range_more (field_runs h region bytes spans) field)

-- ---- a shipment
pub shipped : (h : HeaderValue) (filled : Filled) → IsHeader h → HoldsAll h.box filled.piece.region → length filled.bytes ≡ region_bytes h filled.piece.region →
    (file : ℕ) (spans : List Span) (runs : List Run) → all_addresses spans ≡ addresses_in h filled.piece.region file → runs ≡ file_runs h filled.piece.region filled.bytes spans →
    IsShipment h filled (record { piece = filled.piece.id; file = file; runs = runs })
shipped h filled is holds long file spans runs all made =
    let region : List (ℕ × ℕ) = filled.piece.region in
    let has : (q : List ℕ) → LiesIn h.box q → HasAddress h.mask q = λ q inside. HasAddress-from_end h.mask h.box q is.covered inside in
    let full = spans_full h.mask region (file * 2 ^ h.block_bits) (h.blocks_per_file * 2 ^ h.block_bits) spans all in
    let lengths : (field : ℕ) → field < length h.fields → length (field_samples h region filled.bytes field) ≡ sample_bytes_of h field * length (points region) =
    λ field within. length-field h region filled.bytes long field within in
    let whole : IsShipment h filled (record { piece = filled.piece.id; file = file; runs = file_runs h region filled.bytes spans }) = record {
      piece = refl;
      runs = are_runs h region filled.bytes file is has holds spans full lengths all;
      rising = runs_rise h region filled.bytes spans;
      samples = λ sample are held. have_samples h region filled.bytes file is has holds spans full lengths sample are held;
    } in
    subst (λ (rs : List Run). IsShipment h filled (record { piece = filled.piece.id; file = file; runs = rs })) (sym made) whole

-- ---- one file after another
pub files_more : (l : Placing) (shipments : List Shipment) (shipment : Shipment) (next block file : ℕ) (whole : List ℕ) → AreFiles l next →
    find (is_present l) (range_with_len next (block_count l - next)) ≡ Some block → file ≡ file_of l block → shipment.file ≡ file →
    map (λ s. s.file) shipments ++ files_from l next ≡ whole →
    map (λ s. s.file) (shipments ++ shipment ∷ []) ++ files_from l (file + l.per_file) ≡ whole
files_more l shipments shipment next block file whole are some is named before =
    ap (λ xs. xs ++ files_from l (file + l.per_file)) (map-append (λ (s : Shipment). s.file) shipments (shipment ∷ []))
    ∙ append_assoc (map (λ s. s.file) shipments) (shipment.file ∷ []) (files_from l (file + l.per_file))
    ∙ ap (λ n. map (λ s. s.file) shipments ++ n ∷ files_from l (file + l.per_file)) (named ∙ is)
    ∙ ap (λ n. map (λ s. s.file) shipments ++ file_of l block ∷ files_from l (n + l.per_file)) is
    ∙ ap (λ xs. map (λ s. s.file) shipments ++ xs) (sym (files_step l next block are some))
    ∙ before

pub files_all : (l : Placing) (shipments : List Shipment) (next : ℕ) (whole : List ℕ) → AreFiles l next → find (is_present l) (range_with_len next (block_count l - next)) ≡ None →
    map (λ s. s.file) shipments ++ files_from l next ≡ whole → map (λ s. s.file) shipments ≡ whole
files_all l shipments next whole are none before =
    sym (append-nil (map (λ s. s.file) shipments)) ∙ ap (λ xs. map (λ s. s.file) shipments ++ xs) (sym (files_end l next are none)) ∙ before

-- what is found by a mask, a box and bits that are a header's
pub found_by : (h : HeaderValue) (part : List (ℕ × ℕ)) (mask : List ℕ) (region : List (ℕ × ℕ)) (bits next : ℕ) (result : Option ℕ) → mask ≡ h.mask → region ≡ part → bits ≡ h.block_bits →
    result ≡ find (has_point_in mask region bits) (range_with_len next (2 ^ (length mask - bits) - next)) →
    find (is_present (placing_in h part)) (range_with_len next (block_count (placing_in h part) - next)) ≡ result
found_by h part mask region bits next result same_mask same_region same_bits is =
    sym (is
    ∙ ap (λ (m : List ℕ). find (has_point_in m region bits) (range_with_len next (2 ^ (length m - bits) - next))) same_mask
    ∙ ap (λ (r : List (ℕ × ℕ)). find (has_point_in h.mask r bits) (range_with_len next (2 ^ (length h.mask - bits) - next))) same_region
    ∙ ap (λ (b : ℕ). find (has_point_in h.mask part b) (range_with_len next (2 ^ (length h.mask - b) - next))) same_bits)

-- all items of a list
pub take_all : {X : Type 0} (n : ℕ) (xs : List X) → length xs ≤ n → take n xs ≡ xs
take_all zero [] le = refl
take_all zero (x ∷ xs) le = absurd (omega arith)
take_all (suc n) [] le = refl
take_all (suc n) (x ∷ xs) le = ap (λ t. x ∷ t) (take_all n xs (omega arith))
