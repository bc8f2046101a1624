-- A field of a dataset, by the lengths of its blocks.
use Rattle.std.proofs.Common.{◌≡◌, ℕ, ◌<◌, [], length, sym, subst, ◌∙◌, zero-add}
use Rattle.std.specs.Prelude.{slice_index}
use Rattle.std.proofs.lemmas.List.{length-map, get_or-map}
use Rattle.std.proofs.lemmas.List.FromFn.{get_or-map-range_with_len, length-map-range_with_len}
use Rattle.idx_fields.specs.Field.{field_at, sample_bytes}
use Rattle.idx_header.specs.Header.{HeaderValue, block_bytes, sample_bytes_of}
use Rattle.idx_layout.specs.Placing.{block_bytes as placing_bytes}
use Rattle.idx_layout.specs.OfHeader.{placing_of}
use Rattle.idx_layout.specs.Shape.{block_lengths}
use Rattle.idx_layout.proofs.HeaderLemmas.{same_bytes}

-- a field that has a length is one of the header's
pub field_of_header : (h : HeaderValue) (field : ℕ) → field < length (block_lengths (placing_of h)) → field < length h.fields
field_of_header h field within =
    subst (λ n. field < n) (length-map-range_with_len (placing_bytes (placing_of h)) 0 (length (placing_of h).sizes) ∙ length-map h.fields sample_bytes) within

-- the length of its blocks, and of its samples
pub bytes_of_header : (h : HeaderValue) (field : ℕ) → field < length (block_lengths (placing_of h)) → slice_index (block_lengths (placing_of h)) field ≡ block_bytes h field
bytes_of_header h field within =
    get_or-map-range_with_len (placing_bytes (placing_of h)) 0 (length (placing_of h).sizes) field field 0
    (subst (λ n. field < n) (length-map-range_with_len (placing_bytes (placing_of h)) 0 (length (placing_of h).sizes)) within) (zero-add field)
    ∙ same_bytes h field (field_of_header h field within)

pub sample_of_header : (h : HeaderValue) (field : ℕ) → field < length (block_lengths (placing_of h)) → sample_bytes_of h field ≡ slice_index (placing_of h).sizes field
sample_of_header h field within = sym (get_or-map sample_bytes h.fields field (field_at [] 0) 0 (field_of_header h field within))
