-- The samples of a piece, joined from those of its ranks' parts.
use Rattle.std.proofs.Common.{◌≡◌, ℕ, zero, suc, ◌+◌, ◌-◌, ◌*◌, ◌/◌, ◌<◌, ◌≤◌, List, [], ◌∷◌, ◌++◌, length, map, take, drop, get_or, refl, sym, ap, ◌∙◌, arith, subst, length-append, zero-add}
use Rattle.std.specs.Prelude.{Contains, sum}
use Rattle.std.specs.List.{flat_map, range_with_len, sum_by}
use Rattle.std.proofs.lemmas.List.Sums.{sum_by-append, sum-map}
use Rattle.std.proofs.lemmas.List.{append-nil, take-append-drop, take_more}
use Rattle.std.proofs.lemmas.Nat.{div-mul-add}
use Rattle.idx_geom.specs.Region.{IsRegion, LiesIn, points}
use Rattle.idx_fields.specs.Field.{field_at, sample_bytes}
use Rattle.idx_header.specs.Header.{HeaderValue, IsHeader, sample_bytes_of}
use Rattle.idx_layout.proofs.ListLemmas.{range-split, range_with_len-more}
use Rattle.idx_pieces.specs.Joined.{bytes_before, joined, place_count, row_bytes}
use Rattle.idx_pieces.specs.Pieces.{IsPiece, part_of, piece_region}
use Rattle.idx_pieces.specs.Ranks.{bounded_on, cut_axis, ranks_in}
use Rattle.idx_pieces.specs.Samples.{AreSamples, HoldsSamples, samples_in}
use Rattle.idx_pieces.specs.declared.piece.Piece.{Piece}
use Rattle.idx_pieces.proofs.ContainsLemmas.{range_out}
use Rattle.idx_pieces.proofs.JoinLists.{drop_past, joined_append, joined_at, joined_places, joined_single, joined_within, length-joined}
use Rattle.idx_pieces.proofs.JoinParts.{IsIn, back_axes, by_rows, by_rows_and_ranks, front_axes, part_bounded, part_bounds, row_at}
use Rattle.idx_pieces.proofs.LawLemmas.{piece_exact, piece_is_region, ranks_of_piece}
use Rattle.idx_pieces.proofs.MadeLemmas.{length-piece_region}
use Rattle.idx_pieces.proofs.RankLemmas.{cut_is}

-- the samples of a field at the points of a region
abbrev pub field_samples : (ℕ → List ℕ → List ℕ) → List (ℕ × ℕ) → ℕ → List ℕ
field_samples sample region field = flat_map (sample field) (points region)

length-field : (h : HeaderValue) (sample : ℕ → List ℕ → List ℕ) (region : List (ℕ × ℕ)) (field : ℕ) → AreSamples h sample → field < length h.fields →
    length (field_samples sample region field) ≡ length (points region) * sample_bytes_of h field
length-field h sample region field are inside = length-joined (sample field) (sample_bytes_of h field) (points region) (λ p. are field p inside)

pub before-more : (h : HeaderValue) (field : ℕ) → bytes_before h (field + 1) ≡ bytes_before h field + sample_bytes_of h field
before-more h field =
    ap (sum_by (sample_bytes_of h)) (range_with_len-more 0 field)
    ∙ sum_by-append (sample_bytes_of h) (range_with_len 0 field) ((0 + field) ∷ [])
    ∙ ap (λ (k : ℕ). bytes_before h field + k) (zero-add (sample_bytes_of h (0 + field)))
    ∙ ap (λ (k : ℕ). bytes_before h field + sample_bytes_of h k) (zero-add field)

-- the samples of the fields before one
length-before : (h : HeaderValue) (sample : ℕ → List ℕ → List ℕ) (region : List (ℕ × ℕ)) (field : ℕ) → AreSamples h sample → field ≤ length h.fields →
    length (flat_map (field_samples sample region) (range_with_len 0 field)) ≡ length (points region) * bytes_before h field
length-before h sample region zero are inside = omega arith
length-before h sample region (suc field) are inside =
    let next : suc field ≡ field + 1 = omega arith in
    let n : ℕ = length (points region) in
    ap (λ (k : ℕ). length (flat_map (field_samples sample region) (range_with_len 0 k))) next
    ∙ ap (λ (xs : List ℕ). length (flat_map (field_samples sample region) xs)) (range_with_len-more 0 field)
    ∙ ap length (joined_append (field_samples sample region) (range_with_len 0 field) ((0 + field) ∷ []))
    ∙ length-append (flat_map (field_samples sample region) (range_with_len 0 field)) (flat_map (field_samples sample region) ((0 + field) ∷ []))
    ∙ ap (λ (k : ℕ). k + length (flat_map (field_samples sample region) ((0 + field) ∷ []))) (length-before h sample region field are (omega arith))
    ∙ ap (λ (k : ℕ). n * bytes_before h field + length (flat_map (field_samples sample region) (k ∷ []))) (zero-add field)
    ∙ ap (λ (xs : List ℕ). n * bytes_before h field + length xs) (append-nil (field_samples sample region field))
    ∙ ap (λ (k : ℕ). n * bytes_before h field + k) (length-field h sample region field are (omega arith))
    ∙ sym (ap (λ (k : ℕ). n * bytes_before h k) next ∙ ap (λ (k : ℕ). n * k) (before-more h field) ∙ spread n (bytes_before h field) (sample_bytes_of h field))
  where
    spread : (a b c : ℕ) → a * (b + c) ≡ a * b + a * c
    spread a b c = omega arith

-- the samples of a region begin, behind the fields before one, with those of that field
record BeginsAt (sample : ℕ → List ℕ → List ℕ) (region : List (ℕ × ℕ)) (fields field : ℕ) : Type 0 where
  rest : List ℕ
  is : samples_in fields sample region ≡ flat_map (field_samples sample region) (range_with_len 0 field) ++ (field_samples sample region field ++ rest)

begins_at : (sample : ℕ → List ℕ → List ℕ) (region : List (ℕ × ℕ)) (fields field : ℕ) → field < fields → BeginsAt sample region fields field
begins_at sample region fields field inside =
    let split : fields ≡ field + suc (fields - (field + 1)) = omega arith in
    record {
      rest = flat_map (field_samples sample region) (range_with_len (field + 1) (fields - (field + 1)));
      is =
          ap (λ (k : ℕ). flat_map (field_samples sample region) (range_with_len 0 k)) split
          ∙ ap (flat_map (field_samples sample region)) (range-split 0 field (suc (fields - (field + 1))))
          ∙ joined_append (field_samples sample region) (range_with_len 0 field) (range_with_len (0 + field) (suc (fields - (field + 1))))
          ∙ ap (λ (k : ℕ). flat_map (field_samples sample region) (range_with_len 0 field) ++ flat_map (field_samples sample region) (range_with_len k (suc (fields - (field + 1))))) (zero-add field);
    }

-- the number of points is that of the places, each with as many
count_by_rows : (box region : List (ℕ × ℕ)) (b : ℕ × ℕ) → cut_axis box < length region →
    length (points (bounded_on (cut_axis box) b region)) ≡ length (points (back_axes box region)) * length (points (front_axes box region ++ b ∷ []))
count_by_rows box region b inside =
    let one : List ℕ → List (List ℕ) = λ (q : List ℕ). q ∷ [] in
    ap length (sym (joined_single (points (bounded_on (cut_axis box) b region))) ∙ by_rows one box region b inside)
    ∙ length-joined (row_at one box region b) (length (points (front_axes box region ++ b ∷ []))) (points (back_axes box region))
    (λ s. length-joined (λ q. one (q ++ s)) 1 (points (front_axes box region ++ b ∷ [])) (λ q. refl) ∙ times (length (points (front_axes box region ++ b ∷ []))))
  where
    times : (n : ℕ) → n * 1 ≡ n
    times n = omega arith

quotient : (k w : ℕ) → 1 ≤ k → k * w / k ≡ w
quotient k w some = ap (λ (n : ℕ). n / k) (sym (plain k w)) ∙ div-mul-add w k 0 some
  where
    plain : (a b : ℕ) → b * a + 0 ≡ a * b
    plain a b = omega arith

-- the bytes of a part at a place are the samples of its points there
pub row_is : (h : HeaderValue) (sample : ℕ → List ℕ → List ℕ) (region : List (ℕ × ℕ)) (b : ℕ × ℕ) (bytes : List ℕ) (field place : ℕ) → AreSamples h sample →
    cut_axis h.box < length region → field < length h.fields → place < length (points (back_axes h.box region)) →
    bytes ≡ samples_in (length h.fields) sample (bounded_on (cut_axis h.box) b region) →
    row_bytes (length (points (back_axes h.box region))) (length (points (bounded_on (cut_axis h.box) b region))) (bytes_before h field) (sample_bytes_of h field) bytes place
    ≡ row_at (sample field) h.box region b (get_or (points (back_axes h.box region)) place [])
row_is h sample region b bytes field place are inside among within holds =
    let box = h.box in
    let part : List (ℕ × ℕ) = bounded_on (cut_axis box) b region in
    let places : ℕ = length (points (back_axes box region)) in
    let width : ℕ = length (points (front_axes box region ++ b ∷ [])) in
    let size : ℕ = sample_bytes_of h field in
    let count : ℕ = length (points part) in
    let begins = begins_at sample part (length h.fields) field among in
    let wide : count / places ≡ width = ap (λ (n : ℕ). n / places) (count_by_rows box region b inside) ∙ quotient places width (omega arith) in
    ap (λ (w : ℕ). take (w * size) (drop (count * bytes_before h field + place * (w * size)) bytes)) wide
    ∙ ap (λ (xs : List ℕ). take (width * size) (drop (count * bytes_before h field + place * (width * size)) xs)) (holds ∙ begins.is)
    ∙ ap (take (width * size)) (drop_past (flat_map (field_samples sample part) (range_with_len 0 field)) (field_samples sample part field ++ begins.rest)
    (count * bytes_before h field) (place * (width * size)) (length-before h sample part field are (omega arith)))
    ∙ ap (λ (xs : List ℕ). take (width * size) (drop (place * (width * size)) (xs ++ begins.rest))) (by_rows (sample field) box region b inside)
    ∙ joined_at (row_at (sample field) box region b) (width * size) (points (back_axes box region)) begins.rest [] place
    (λ s. length-joined (λ q. sample field (q ++ s)) size (points (front_axes box region ++ b ∷ [])) (λ q. are field (q ++ s) among)) within

-- ---- a piece

piece_in : (h : HeaderValue) (piece : Piece) → IsHeader h → IsPiece h piece → IsIn h.box piece.of_ranks piece.region
piece_in h piece valid is =
    let region : piece.region ≡ piece_region h.mask h.box is.e piece.id = ap (λ (q : Piece). q.region) is.is in
    record {
      valid = valid.region;
      some = is.ranks;
      axes = ap length region ∙ length-piece_region h.mask h.box is.e piece.id;
      ordered = (subst (λ (r : List (ℕ × ℕ)). IsRegion r) (sym region) (piece_is_region h is.e piece.id valid is.within is.some)).ordered;
      inside = λ p lies. ((piece_exact h is.e piece.id valid is.within is.some p).0 (subst (λ (r : List (ℕ × ℕ)). LiesIn r p) region lies)).0;
    }

part_is_bounded : (h : HeaderValue) (piece : Piece) (rank : ℕ) → IsHeader h → IsPiece h piece → Contains piece.ranks rank →
    part_of h piece rank ≡ bounded_on (cut_axis h.box) (part_bounds h.box piece.of_ranks piece.region rank) piece.region
part_is_bounded h piece rank valid is among =
    let two = (ranks_of_piece h piece rank is).0 among in
    part_bounded h.box piece.of_ranks piece.region rank (piece_in h piece valid is) two.0 two.1

-- what is joined of the ranks' parts holds the piece's samples
pub joined_holds : (h : HeaderValue) (piece : Piece) (sample : ℕ → List ℕ → List ℕ) (bytes : ℕ → List ℕ) → IsHeader h → IsPiece h piece → AreSamples h sample →
    ((rank : ℕ) → Contains piece.ranks rank → HoldsSamples h sample (part_of h piece rank) (bytes rank)) →
    HoldsSamples h sample piece.region (joined h piece bytes)
joined_holds h piece sample bytes valid is are holds =
    joined_within
    (λ field. flat_map (λ place. flat_map (λ rank.
    row_bytes (place_count h piece) (length (points (part_of h piece rank))) (bytes_before h field) (sample_bytes_of h field) (bytes rank) place)
    piece.ranks) (range_with_len 0 (place_count h piece)))
    (field_samples sample piece.region) (range_with_len 0 (length h.fields)) (λ field at. one field (range_out (length h.fields) field at))
  where
    row : (field place rank : ℕ) → field < length h.fields → place < place_count h piece → Contains piece.ranks rank →
        row_bytes (place_count h piece) (length (points (part_of h piece rank))) (bytes_before h field) (sample_bytes_of h field) (bytes rank) place
        ≡ row_at (sample field) h.box piece.region (part_bounds h.box piece.of_ranks piece.region rank) (get_or (points (back_axes h.box piece.region)) place [])
    row field place rank among within has =
        let same = part_is_bounded h piece rank valid is has in
        let within' = piece_in h piece valid is in
        let cut = cut_is h.box (omega (arith, valid.region.axes.0)) valid.region.ordered in
        ap (λ (r : List (ℕ × ℕ)). row_bytes (place_count h piece) (length (points r)) (bytes_before h field) (sample_bytes_of h field) (bytes rank) place) same
        ∙ row_is h sample piece.region (part_bounds h.box piece.of_ranks piece.region rank) (bytes rank) field place are (omega (arith, cut.within, within'.axes)) among within
        (holds rank has ∙ ap (samples_in (length h.fields) sample) same)

    one : (field : ℕ) → field < length h.fields →
        flat_map (λ place. flat_map (λ rank.
        row_bytes (place_count h piece) (length (points (part_of h piece rank))) (bytes_before h field) (sample_bytes_of h field) (bytes rank) place)
        piece.ranks) (range_with_len 0 (place_count h piece))
        ≡ field_samples sample piece.region field
    one field among =
        let within' = piece_in h piece valid is in
        let ranks : piece.ranks ≡ ranks_in h.box piece.of_ranks piece.region =
        ap (λ (q : Piece). q.ranks) is.is ∙ ap (ranks_in h.box piece.of_ranks) (sym (ap (λ (q : Piece). q.region) is.is)) in
        joined_within
        (λ place. flat_map (λ rank.
        row_bytes (place_count h piece) (length (points (part_of h piece rank))) (bytes_before h field) (sample_bytes_of h field) (bytes rank) place) piece.ranks)
        (λ place. flat_map (λ rank. row_at (sample field) h.box piece.region (part_bounds h.box piece.of_ranks piece.region rank) (get_or (points (back_axes h.box piece.region)) place [])) piece.ranks)
        (range_with_len 0 (place_count h piece))
        (λ place at. joined_within
        (λ rank. row_bytes (place_count h piece) (length (points (part_of h piece rank))) (bytes_before h field) (sample_bytes_of h field) (bytes rank) place)
        (λ rank. row_at (sample field) h.box piece.region (part_bounds h.box piece.of_ranks piece.region rank) (get_or (points (back_axes h.box piece.region)) place []))
        piece.ranks (λ rank has. row field place rank among (range_out (place_count h piece) place at) has))
        ∙ joined_places (λ s. flat_map (λ rank. row_at (sample field) h.box piece.region (part_bounds h.box piece.of_ranks piece.region rank) s) piece.ranks)
        (points (back_axes h.box piece.region)) [] 0
        (λ place. flat_map (λ rank. row_at (sample field) h.box piece.region (part_bounds h.box piece.of_ranks piece.region rank) (get_or (points (back_axes h.box piece.region)) place [])) piece.ranks)
        (λ k within. ap (λ (j : ℕ). flat_map (λ rank. row_at (sample field) h.box piece.region (part_bounds h.box piece.of_ranks piece.region rank) (get_or (points (back_axes h.box piece.region)) j [])) piece.ranks) (zero-add k))
        ∙ ap (λ (rs : List ℕ). flat_map (λ s. flat_map (λ rank. row_at (sample field) h.box piece.region (part_bounds h.box piece.of_ranks piece.region rank) s) rs) (points (back_axes h.box piece.region))) ranks
        ∙ sym (by_rows_and_ranks (sample field) h.box piece.of_ranks piece.region within')

-- ---- how many bytes there are

before_is : (h : HeaderValue) (field : ℕ) → field ≤ length h.fields → bytes_before h field ≡ sum_by sample_bytes (take field h.fields)
before_is h zero few = refl
before_is h (suc field) few =
    let next : suc field ≡ field + 1 = omega arith in
    ap (bytes_before h) next ∙ before-more h field
    ∙ ap (λ (k : ℕ). k + sample_bytes_of h field) (before_is h field (omega (arith, few)))
    ∙ ap (λ (k : ℕ). sum_by sample_bytes (take field h.fields) + k) (sym (zero-add (sample_bytes_of h field)))
    ∙ sym (ap (λ (k : ℕ). sum_by sample_bytes (take k h.fields)) next
    ∙ ap (sum_by sample_bytes) (take_more h.fields field _ (omega (arith, few)))
    ∙ sum_by-append sample_bytes (take field h.fields) (field_at h.fields field ∷ []))

-- the bytes of a point in a field and those before are among all
pub before_total : (h : HeaderValue) (field : ℕ) → field < length h.fields → bytes_before h field + sample_bytes_of h field ≤ sum (map sample_bytes h.fields)
before_total h field among =
    let is : bytes_before h (field + 1) ≡ sum_by sample_bytes (take (field + 1) h.fields) = before_is h (field + 1) (omega (arith, among)) in
    let whole : sum_by sample_bytes h.fields ≡ sum_by sample_bytes (take (field + 1) h.fields) + sum_by sample_bytes (drop (field + 1) h.fields) =
    ap (sum_by sample_bytes) (sym (take-append-drop (field + 1) h.fields)) ∙ sum_by-append sample_bytes (take (field + 1) h.fields) (drop (field + 1) h.fields) in
    omega (arith, is, whole, sum-map sample_bytes h.fields, before-more h field)
