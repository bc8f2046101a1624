-- The runs that are made over spans are those of a file.
use Rattle.std.proofs.Common.{◌≡◌, ℕ, zero, suc, ◌+◌, ◌-◌, ◌*◌, ◌/◌, ◌^◌, ◌<◌, ◌≤◌, ◌⊎◌, inl, inr, Bool, true, cond, List, [], ◌∷◌, ◌++◌, length, map, refl, sym, ap, subst, ◌∙◌, arith, eq-eqb, lit≤, append-nil, length-append}
use Rattle.std.specs.Prelude.{filter, All, ◌==◌}
use Rattle.std.specs.List.{flat_map, range_with_len, AllByRecursion}
use Rattle.std.proofs.Math.Nat.{mul-div_cancel_left, mul-le-mul}
use Rattle.std.proofs.lemmas.Bool.{ne_eqb}
use Rattle.std.proofs.lemmas.Nat.{pow_pos}
use Rattle.std.proofs.lemmas.List.Elements.{All-filter, All-from_recursion, All-map, All-weaker, filter-append, filter_passes, recursion_from_All}
use Rattle.idx_geom.specs.Region.{HoldsAll, LiesIn, points}
use Rattle.idx_hz.specs.Mask.{HasAddress}
use Rattle.idx_fields.specs.Base.{base_bytes}
use Rattle.idx_fields.specs.declared.base.Base.{Base}
use Rattle.idx_fields.specs.declared.base.Base.TheVariants as bases
use Rattle.idx_fields.specs.Field.{Field, field_at}
use Rattle.idx_header.specs.Header.{HeaderValue, IsHeader, sample_bytes_of}
use Rattle.idx_stride.proofs.RangeLemmas.{All-flat_map, All-range, flat_map-range_same}
use Rattle.idx_block.specs.Stored.{stored}
use Rattle.idx_pieces.specs.Samples.{AreSamples, HoldsSamples}
use Rattle.idx_pieces.specs.Runs.{AreRunsOf, HasSamples, IsRun, addresses_in, has_address, run_addresses, run_length, sample_at_address}
use Rattle.idx_pieces.specs.declared.run.Run.{Run}
use Rattle.idx_ship.specs.Spans.{all_addresses, span_addresses}
use Rattle.idx_ship.specs.Made.{field_runs, field_samples, file_runs, run_made}
use Rattle.idx_ship.specs.Shipments.{by_fields}
use Rattle.idx_ship.specs.declared.span.Span.{Span}
use Rattle.idx_ship.proofs.SampleLemmas.{field-samples, length-stored, right-sample}

-- ---- sizes
some_base : (base : Base) → 1 ≤ base_bytes base
some_base bases.Int8 = lit≤ tt
some_base bases.Uint8 = lit≤ tt
some_base bases.Int16 = lit≤ tt
some_base bases.Uint16 = lit≤ tt
some_base bases.Int32 = lit≤ tt
some_base bases.Uint32 = lit≤ tt
some_base bases.Float32 = lit≤ tt
some_base bases.Int64 = lit≤ tt
some_base bases.Uint64 = lit≤ tt
some_base bases.Float64 = lit≤ tt

some_bytes : (h : HeaderValue) (field : ℕ) → IsHeader h → field < length h.fields → 1 ≤ sample_bytes_of h field
some_bytes h field is within =
    let f : Field = field_at h.fields field in
    let count : 1 ≤ f.count = (is.fields.each field (field_at [] 0) within).count in
    let sample : 1 * 1 ≤ f.count * base_bytes f.base = mul-le-mul count (some_base f.base) in
    sample

length_by_range : (f : ℕ → List ℕ) (size a n : ℕ) → ((k : ℕ) → a ≤ k → k < a + n → length (f k) ≡ size) → length (flat_map f (range_with_len a n)) ≡ size * n
length_by_range f size a zero long = let none : 0 ≡ size * 0 = omega arith in none
length_by_range f size a (suc n) long =
    let next : size * suc n ≡ size + size * n = grind arith in
    length-append (f a) (flat_map f (range_with_len (a + 1) n))
    ∙ ap (λ m. m + length (flat_map f (range_with_len (a + 1) n))) (long a (omega arith) (omega arith))
    ∙ ap (λ m. size + m) (length_by_range f size (a + 1) n (λ k low high. long k (omega arith) (omega arith)))
    ∙ sym next

-- ---- what holds of the addresses of spans
recursion_parts : {X : Type 0} (P : X → Type 0) (xs ys : List X) → AllByRecursion P (xs ++ ys) → AllByRecursion P xs × AllByRecursion P ys
recursion_parts P [] ys h = (tt, h)
recursion_parts P (x ∷ xs) ys h = let rest = recursion_parts P xs ys h.1 in ((h.0, rest.0), rest.1)

All-of_flat_map : {X Y : Type 0} (P : Y → Type 0) (f : X → List Y) (xs : List X) → AllByRecursion P (flat_map f xs) → AllByRecursion (λ x. AllByRecursion P (f x)) xs
All-of_flat_map P f [] h = tt
All-of_flat_map P f (x ∷ xs) h = let parts = recursion_parts P (f x) (flat_map f xs) h in (parts.0, All-of_flat_map P f xs parts.1)

in_range : (P : ℕ → Type 0) (a n : ℕ) → AllByRecursion P (range_with_len a n) → (k : ℕ) → a ≤ k → k < a + n → P k
in_range P a zero h k low high = absurd (omega arith)
in_range P a (suc n) h k low high = by_distance (λ low high. in_range P (a + 1) n h.1 k low high) (k - a) refl
  where
    by_distance : (a + 1 ≤ k → k < a + 1 + n → P k) → (d : ℕ) → k - a ≡ d → P k
    by_distance more zero e = let here : a ≡ k = omega (arith, e) in subst P here h.0
    by_distance more (suc d) e = more (omega (arith, e)) (omega arith)

-- an address of a range that is that of a point
pub record IsHad (mask : List ℕ) (region : List (ℕ × ℕ)) (first count a : ℕ) : Type 0 where
  pub from : first ≤ a
  pub to : a < first + count
  pub has : has_address mask region a ≡ true

-- a span whose addresses all are
abbrev pub IsFull : List ℕ → List (ℕ × ℕ) → ℕ → ℕ → Span → Type 0
IsFull mask region first count span =
    (a : ℕ) → span.number * 2 ^ span.bits ≤ a → a < span.number * 2 ^ span.bits + 2 ^ span.bits → IsHad mask region first count a

pub spans_full : (mask : List ℕ) (region : List (ℕ × ℕ)) (first count : ℕ) (spans : List Span) →
    all_addresses spans ≡ filter (has_address mask region) (range_with_len first count) → All (IsFull mask region first count) spans
spans_full mask region first count spans is =
    let test : ℕ → Bool = has_address mask region in
    let kept : List ℕ = filter test (range_with_len first count) in
    let between : All (λ a. (first ≤ a) × (a < first + count)) kept = All-filter test (λ a. (first ≤ a) × (a < first + count)) (range_with_len first count)
    (All-range (λ a. (first ≤ a) × (a < first + count)) first count (λ k low high. (low, high))) in
    let had : All (IsHad mask region first count) kept = λ k d within.
    record { from = (between k d within).0; to = (between k d within).1; has = filter_passes test (range_with_len first count) k d within } in
    let all : All (IsHad mask region first count) (all_addresses spans) = subst (λ (xs : List ℕ). All (IsHad mask region first count) xs) (sym is) had in
    let each = All-of_flat_map (IsHad mask region first count) span_addresses spans (recursion_from_All (IsHad mask region first count) (all_addresses spans) all) in
    All-weaker (λ (span : Span). AllByRecursion (IsHad mask region first count) (span_addresses span)) (IsFull mask region first count)
    (λ span h. in_range (IsHad mask region first count) (span.number * 2 ^ span.bits) (2 ^ span.bits) h) spans
    (All-from_recursion (λ (span : Span). AllByRecursion (IsHad mask region first count) (span_addresses span)) spans each)

-- ---- runs by their field
same_field : (f : Span → Run) (field : ℕ) (spans : List Span) → ((span : Span) → (f span).field ≡ field) → filter (λ run. run.field == field) (map f spans) ≡ map f spans
same_field f field [] are = refl
same_field f field (span ∷ spans) are =
    ap (λ b. cond b (f span ∷ filter (λ run. run.field == field) (map f spans)) (filter (λ run. run.field == field) (map f spans))) (eq-eqb (f span).field field (are span))
    ∙ ap (λ runs. f span ∷ runs) (same_field f field spans are)

other_field : (f : Span → Run) (field other : ℕ) (spans : List Span) → ((span : Span) → (f span).field ≡ other) → (other ≡ field → ⊥) → filter (λ run. run.field == field) (map f spans) ≡ []
other_field f field other [] are apart = refl
other_field f field other (span ∷ spans) are apart =
    ap (λ b. cond b (f span ∷ filter (λ run. run.field == field) (map f spans)) (filter (λ run. run.field == field) (map f spans)))
    (ne_eqb (f span).field field (λ e. apart (sym (are span) ∙ e)))
    ∙ other_field f field other spans are apart

module _ (h : HeaderValue) (region : List (ℕ × ℕ)) (bytes : List ℕ) (spans : List Span) where
  groups_none : (field a n : ℕ) → (field < a) ⊎ (a + n ≤ field) → filter (λ run. run.field == field) (flat_map (field_runs h region bytes spans) (range_with_len a n)) ≡ []
  groups_none field a zero out = refl
  groups_none field a (suc n) out =
      let apart : a ≡ field → ⊥ = λ e. omega (arith, e, out) in
      let behind : (field < a + 1) ⊎ (a + 1 + n ≤ field) = elim out [ inl low ↦ inl (omega (arith, low)) | inr high ↦ inr (omega (arith, high)) ] in
      filter-append (λ run. run.field == field) (field_runs h region bytes spans a) (flat_map (field_runs h region bytes spans) (range_with_len (a + 1) n))
      ∙ ap (λ runs. runs ++ filter (λ run. run.field == field) (flat_map (field_runs h region bytes spans) (range_with_len (a + 1) n)))
      (other_field (run_made h.mask region (sample_bytes_of h a) (field_samples h region bytes a) a) field a spans (λ span. refl) apart)
      ∙ groups_none field (a + 1) n behind

  groups_one : (field a n : ℕ) → a ≤ field → field < a + n → filter (λ run. run.field == field) (flat_map (field_runs h region bytes spans) (range_with_len a n)) ≡ field_runs h region bytes spans field
  groups_one field a zero low high = absurd (omega arith)
  groups_one field a (suc n) low high = by_distance (λ low high. groups_one field (a + 1) n low high) (field - a) refl
    where
      rest : List Run
      rest = flat_map (field_runs h region bytes spans) (range_with_len (a + 1) n)

      split : filter (λ run. run.field == field) (field_runs h region bytes spans a ++ rest) ≡ filter (λ run. run.field == field) (field_runs h region bytes spans a) ++ filter (λ run. run.field == field) rest
      split = filter-append (λ run. run.field == field) (field_runs h region bytes spans a) rest

      by_distance : (a + 1 ≤ field → field < a + 1 + n → filter (λ run. run.field == field) rest ≡ field_runs h region bytes spans field) → (d : ℕ) → field - a ≡ d → filter (λ run. run.field == field) (field_runs h region bytes spans a ++ rest) ≡ field_runs h region bytes spans field
      by_distance more zero e =
          let here : a ≡ field = omega (arith, e) in
          split
          ∙ ap (λ runs. filter (λ run. run.field == field) (field_runs h region bytes spans a) ++ runs) (groups_none field (a + 1) n (inl (omega (arith, here))))
          ∙ append-nil (filter (λ run. run.field == field) (field_runs h region bytes spans a))
          ∙ same_field (run_made h.mask region (sample_bytes_of h a) (field_samples h region bytes a) a) field spans (λ span. here)
          ∙ ap (field_runs h region bytes spans) here
      by_distance more (suc d) e =
          let apart : a ≡ field → ⊥ = λ same. omega (arith, same, e) in
          split
          ∙ ap (λ runs. runs ++ filter (λ run. run.field == field) (flat_map (field_runs h region bytes spans) (range_with_len (a + 1) n)))
          (other_field (run_made h.mask region (sample_bytes_of h a) (field_samples h region bytes a) a) field a spans (λ span. refl) apart)
          ∙ more (omega (arith, e)) (omega arith)

  -- the runs of a field
  pub runs_of_field : (field : ℕ) → field < length h.fields → filter (λ run. run.field == field) (file_runs h region bytes spans) ≡ field_runs h region bytes spans field
  runs_of_field field within = groups_one field 0 (length h.fields) (omega arith) (omega (arith, within))

  -- they rise by field
  pub runs_rise : by_fields h (file_runs h region bytes spans) ≡ file_runs h region bytes spans
  runs_rise = flat_map-range_same _ _ 0 (length h.fields) (λ field low high. runs_of_field field (omega (arith, high)))

-- ---- one run
module _ (h : HeaderValue) (region : List (ℕ × ℕ)) (bytes : List ℕ) (file : ℕ) (is : IsHeader h) (has : (q : List ℕ) → LiesIn h.box q → HasAddress h.mask q) (holds : HoldsAll h.box region) where
  abbrev made : ℕ → Span → Run
  made field span = run_made h.mask region (sample_bytes_of h field) (field_samples h region bytes field) field span

  abbrev Full : Span → Type 0
  Full span = IsFull h.mask region (file * 2 ^ h.block_bits) (h.blocks_per_file * 2 ^ h.block_bits) span

  module _ (field : ℕ) (within : field < length h.fields) (long : length (field_samples h region bytes field) ≡ sample_bytes_of h field * length (points region)) where
    made_bytes : (span : Span) → Full span → length (made field span).bytes ≡ sample_bytes_of h field * 2 ^ span.bits
    made_bytes span full =
        length_by_range (stored h.mask region (sample_bytes_of h field) (field_samples h region bytes field)) (sample_bytes_of h field) (span.number * 2 ^ span.bits) (2 ^ span.bits)
        (λ a low high. length-stored h.mask region (sample_bytes_of h field) (field_samples h region bytes field) a (λ q inside. has q (holds q inside)) (full a low high).has long)

    pub made_length : (span : Span) → Full span → run_length h (made field span) ≡ 2 ^ span.bits
    made_length span full =
        ap (λ n. n / sample_bytes_of h field) (made_bytes span full) ∙ mul-div_cancel_left (2 ^ span.bits) (omega (arith, some_bytes h field is within))

    pub made_addresses : (span : Span) → Full span → run_addresses h (made field span) ≡ span_addresses span
    made_addresses span full = ap (λ n. range_with_len (span.number * 2 ^ span.bits) n) (made_length span full)

    pub made_run : (span : Span) → Full span → IsRun h file (made field span)
    made_run span full =
        let n : ℕ = 2 ^ span.bits in
        let first : ℕ = span.number * n in
        let some : 1 ≤ n = omega (arith, pow_pos span.bits) in
        let low = full first (omega arith) (omega (arith, some)) in
        let high = full (first + (n - 1)) (omega arith) (omega (arith, some)) in
        let count = made_length span full in
        let whole : (file + h.blocks_per_file) * 2 ^ h.block_bits ≡ file * 2 ^ h.block_bits + h.blocks_per_file * 2 ^ h.block_bits = grind arith in
        record {
          field = within;
          whole = made_bytes span full ∙ ap (λ m. sample_bytes_of h field * m) (sym count);
          some = omega (arith, some, count);
          from = low.from;
          to = omega (arith, high.to, count, whole, some);
        }

    made_samples : (sample : ℕ → List ℕ → List ℕ) → AreSamples h sample → HoldsSamples h sample region bytes → (span : Span) → Full span → HasSamples h sample (made field span)
    made_samples sample are held span full =
        let raw : field_samples h region bytes field ≡ flat_map (sample field) (points region) = field-samples h region sample are bytes field within held in
        flat_map-range_same (stored h.mask region (sample_bytes_of h field) (field_samples h region bytes field)) (sample_at_address h sample field) (span.number * 2 ^ span.bits) (2 ^ span.bits)
        (λ a low high. ap (λ s. stored h.mask region (sample_bytes_of h field) s a) raw ∙ right-sample h region sample field a within are has holds (full a low high).has)
        ∙ ap (flat_map (sample_at_address h sample field)) (sym (made_addresses span full))

    field_addresses : (spans : List Span) → AllByRecursion Full spans → flat_map (run_addresses h) (map (made field) spans) ≡ all_addresses spans
    field_addresses [] full = refl
    field_addresses (span ∷ spans) full = λ i. made_addresses span full.0 i ++ field_addresses spans full.1 i

  module _ (spans : List Span) (full : All Full spans) (long : (field : ℕ) → field < length h.fields → length (field_samples h region bytes field) ≡ sample_bytes_of h field * length (points region)) where
    each_made : (P : Run → Type 0) → ((field : ℕ) → field < length h.fields → (span : Span) → Full span → P (made field span)) → All P (file_runs h region bytes spans)
    each_made P each =
        All-flat_map P (field_runs h region bytes spans) (range_with_len 0 (length h.fields))
        (All-range (λ field. All P (field_runs h region bytes spans field)) 0 (length h.fields)
        (λ field low high. All-map P (made field) spans (All-weaker Full (λ span. P (made field span)) (each field (omega (arith, high))) spans full)))

    pub are_runs : all_addresses spans ≡ addresses_in h region file → AreRunsOf h region file (file_runs h region bytes spans)
    are_runs all = record {
      each = each_made (IsRun h file) (λ field within span f. made_run field within (long field within) span f);
      addresses = λ field within.
          ap (flat_map (run_addresses h)) (runs_of_field h region bytes spans field within)
          ∙ field_addresses field within (long field within) spans (recursion_from_All Full spans full) ∙ all;
    }

    pub have_samples : (sample : ℕ → List ℕ → List ℕ) → AreSamples h sample → HoldsSamples h sample region bytes → All (HasSamples h sample) (file_runs h region bytes spans)
    have_samples sample are held = each_made (HasSamples h sample) (λ field within span f. made_samples field within (long field within) sample are held span f)
