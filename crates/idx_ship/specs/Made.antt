-- The runs that are made over spans, out of the samples of a region.
use Rattle.std.specs.Prelude.{ℕ, ◌*◌, ◌^◌, List, length, map, take, drop, sum_by}
use Rattle.std.specs.List.{flat_map, range_with_len}
use Rattle.idx_geom.specs.Region.{points}
use Rattle.idx_fields.specs.Field.{sample_bytes}
use Rattle.idx_header.specs.Header.{HeaderValue, sample_bytes_of}
use Rattle.idx_block.specs.Stored.{stored}
use Rattle.idx_pieces.specs.declared.run.Run.{Run}
use Rattle.idx_ship.specs.Spans.{span_addresses}
use Rattle.idx_ship.specs.declared.span.Span.{Span}

-- a run of a field over a span, out of the field's samples at the points of a region
abbrev pub run_made : List ℕ → List (ℕ × ℕ) → ℕ → List ℕ → ℕ → Span → Run
run_made mask region size samples field span = record {
  field = field;
  first = span.number * 2 ^ span.bits;
  bytes = flat_map (stored mask region size samples) (span_addresses span);
}

-- how many bytes of the samples of a region stand before those of a field
abbrev pub bytes_before : HeaderValue → List (ℕ × ℕ) → ℕ → ℕ
bytes_before h region field = length (points region) * sum_by sample_bytes (take field h.fields)

-- the samples of a field among those of a region
abbrev pub field_samples : HeaderValue → List (ℕ × ℕ) → List ℕ → ℕ → List ℕ
field_samples h region bytes field =
    take (length (points region) * sample_bytes_of h field) (drop (bytes_before h region field) bytes)

-- the runs of a field, and of all fields
abbrev pub field_runs : HeaderValue → List (ℕ × ℕ) → List ℕ → List Span → ℕ → List Run
field_runs h region bytes spans field =
    map (run_made h.mask region (sample_bytes_of h field) (field_samples h region bytes field) field) spans

abbrev pub file_runs : HeaderValue → List (ℕ × ℕ) → List ℕ → List Span → List Run
file_runs h region bytes spans = flat_map (field_runs h region bytes spans) (range_with_len 0 (length h.fields))
