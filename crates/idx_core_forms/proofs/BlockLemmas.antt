-- How many bytes a block has, by the shape of its step.
use Rattle.std.proofs.Common.{◌≡◌, ℕ, ◌<◌, List, length, drop, ◌++◌, sym, ap, subst, ◌∙◌, arith, zero-add}
use Rattle.std.specs.Prelude.{slice_index}
use Rattle.std.proofs.lemmas.List.{length-append, length-drop, length-map, length-take-le}
use Rattle.std.proofs.lemmas.List.FromFn.{get_or-map-range_with_len}
use Rattle.idx_outside.specs.Bytes.{overwritten}
use Rattle.idx_outside.specs.Shape.{Shape}
use Rattle.idx_fields.specs.Field.{sample_bytes}
use Rattle.idx_header.specs.Header.{HeaderValue}
use Rattle.idx_header.specs.Header as header
use Rattle.idx_layout.specs.OfHeader.{placing_of}
use Rattle.idx_layout.specs.Placing.{block_bytes}
use Rattle.idx_layout.specs.Shape.{shape_of}
use Rattle.idx_layout.proofs.HeaderLemmas.{same_bytes}
use Rattle.idx_edition.proofs.LeavesLemmas.{field_exists}

-- a field of a step of this shape is one of the header's
pub own_field : (h : HeaderValue) (shape : Shape) (field : ℕ) → shape ≡ shape_of h → field < length shape.lengths → field < length h.fields
own_field h shape field is within = field_exists h field (subst (λ (s : Shape). field < length s.lengths) is within)

-- so many bytes has a block of it
pub own_length : (h : HeaderValue) (shape : Shape) (field : ℕ) → shape ≡ shape_of h → field < length shape.lengths →
    header.block_bytes h field ≡ slice_index shape.lengths field
own_length h shape field is within =
    let exists : field < length h.fields = own_field h shape field is within in
    let placed : field < length (placing_of h).sizes = subst (λ n. field < n) (sym (length-map h.fields sample_bytes)) exists in
    sym (same_bytes h field exists)
    ∙ sym (get_or-map-range_with_len (block_bytes (placing_of h)) 0 (length (placing_of h).sizes) field field 0 placed (zero-add field))
    ∙ ap (λ (s : Shape). slice_index s.lengths field) (sym is)

-- bytes that are written over stay as many
pub length-overwritten : (bytes others : List ℕ) → length (overwritten bytes others) ≡ length bytes
length-overwritten bytes others =
    length-take-le (length bytes) (others ++ drop (length others) bytes)
    (omega (arith, length-append others (drop (length others) bytes), length-drop (length others) bytes))
