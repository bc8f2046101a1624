-- The shape of a dataset of one field.
use Rattle.std.proofs.Common.{◌≡◌, ℕ, [], ◌∷◌, length, map, sym, ap, ◌∙◌, arith}
use Rattle.std.specs.List.{range_with_len}
use Rattle.std.proofs.lemmas.List.{length-map}
use Rattle.idx_fields.specs.Field.{sample_bytes}
use Rattle.idx_header.specs.Header.{HeaderValue, block_count}
use Rattle.idx_header.specs.Header.{block_bytes as header_block_bytes}
use Rattle.idx_layout.specs.Placing.{block_bytes}
use Rattle.idx_layout.specs.OfHeader.{placing_of}
use Rattle.idx_layout.proofs.HeaderLemmas.{same_bytes}
use Rattle.idx_layout.specs.Shape.{shape_of}

pub shape_one : (h : HeaderValue) (blocks bytes : ℕ) → length h.fields ≡ 1 → block_count h ≡ blocks → header_block_bytes h 0 ≡ bytes → record { blocks = blocks; lengths = bytes ∷ [] } ≡ shape_of h
shape_one h blocks bytes one count each =
    let fields : length (placing_of h).sizes ≡ 1 = length-map h.fields sample_bytes ∙ one in
    let lengths : map (block_bytes (placing_of h)) (range_with_len 0 (length (placing_of h).sizes)) ≡ bytes ∷ [] =
    ap (λ n. map (block_bytes (placing_of h)) (range_with_len 0 n)) fields ∙ ap (λ n. n ∷ []) (same_bytes h 0 (omega (arith, one)) ∙ each) in
    sym (λ i. record { blocks = count i; lengths = lengths i })
