-- Parcels that make a piece hold samples of some dataset, so what holds these wherever the parcels do has all of the piece's
-- bytes.
use Rattle.std.proofs.Common.{◌≡◌, ℕ, zero, suc, ◌+◌, ◌*◌, ◌<◌, ◌≤◌, Bool, true, false, cond, List, [], ◌∷◌, ◌++◌, length, get_or, take, drop, map, not, refl, sym, ap, ◌∙◌, subst, arith, Option, Some, None, eq-eqb, append-nil}
use Rattle.std.specs.Prelude.{◌==◌, ◌&&◌, All, Contains, find, nat_le, replicate, slice_index, sum, sum_by}
use Rattle.std.specs.List.{flat_map, list_any, position_from, range_with_len, slice_get}
use Rattle.std.specs.Option.{option_map, option_map_or, option_or}
use Rattle.std.proofs.Math.Nat.{mul-le-mul_left, mul-le-mul_right}
use Rattle.std.proofs.lemmas.Bool.{and_from, and_parts, leb-true, le-leb}
use Rattle.std.proofs.lemmas.List.{drop-drop, drop-take, get_or-map, get_or-take, length-append, length-drop, length-map, length-replicate, length-take-le, take-append-drop, take-take, take_all}
use Rattle.std.proofs.lemmas.List.Concat.{flat_map-append}
use Rattle.std.proofs.lemmas.List.Elements.{All-cons, All-head, All-nil, All-tail}
use Rattle.std.proofs.lemmas.List.Folds.{find_at, list_any_at}
use Rattle.std.proofs.lemmas.List.FromFn.{length-range_with_len}
use Rattle.std.proofs.lemmas.List.Sums.{position_or_len_is, sum-map, sum_by_more, sum_by-take-le}
use Rattle.std.proofs.lemmas.Option.{get_or_from_slice_get, slice_get-get_or}
use Rattle.idx_geom.specs.Region.{LiesIn, place_of, point_of, points}
use Rattle.idx_geom.proofs.PointsLemmas.{LiesIn-slice_get, length-points, place_of-lt, place_of-point_of, slice_get-points}
use Rattle.idx_geom.proofs.LiesInLemmas.{length-common_bounds}
use Rattle.idx_geom.proofs.RegionSteps.{HasExactly-common}
use Rattle.idx_fields.specs.Field.{field_at, sample_bytes}
use Rattle.idx_header.specs.Header.{HeaderValue, IsHeader, sample_bytes_of}
use Rattle.idx_layout.proofs.ListLemmas.{range_with_len-more}
use Rattle.idx_pieces.specs.Joined.{HoldsWhereAllDo}
use Rattle.idx_pieces.specs.Pieces.{IsPiece, front_bounds, part_of, piece_region}
use Rattle.idx_pieces.specs.Ranks.{rank_count, rank_region}
use Rattle.idx_pieces.specs.Refusals.{double_at, has_parcel, is_of_piece, missing_rank, same_bounds, stranger_at, why_not}
use Rattle.idx_pieces.specs.Samples.{AreSamples, HoldsSamples, region_bytes, samples_in}
use Rattle.idx_pieces.specs.declared.parcel.Parcel.{Parcel}
use Rattle.idx_pieces.specs.declared.piece.Piece.{Piece}
use Rattle.idx_pieces.specs.declared.why.Why.{Why}
use Rattle.idx_pieces.specs.declared.why.Why.TheVariants.{Stranger, Double, Missing}
use Rattle.idx_pieces.proofs.JoinLists.{joined_agree, joined_places, joined_within, length-joined}
use Rattle.idx_pieces.proofs.LawLemmas.{only_rank, piece_exact, ranks_of_piece}
use Rattle.idx_pieces.proofs.RankLemmas.{length-rank_region}
use Rattle.idx_pieces.proofs.RefusalLemmas.{bounds_same, contains_from_test}

-- ---- the bytes of a region, cut into samples

take_split : (a b : ℕ) (xs : List ℕ) → take (a + b) xs ≡ take a xs ++ take b (drop a xs)
take_split a b xs =
    sym (take-append-drop a (take (a + b) xs))
    ∙ ap (λ t. t ++ drop a (take (a + b) xs)) (take-take a (a + b) xs (omega arith))
    ∙ ap (λ t. take a xs ++ t) (drop-take a b xs)

cut_run : (size base a n : ℕ) (bytes : List ℕ) → flat_map (λ k. take size (drop (base + k * size) bytes)) (range_with_len a n) ≡ take (n * size) (drop (base + a * size) bytes)
cut_run size base a zero bytes = let none : 0 ≡ 0 * size = omega arith in ap (λ k. take k (drop (base + a * size) bytes)) none
cut_run size base a (suc n) bytes =
    let on : base + (a + 1) * size ≡ base + a * size + size = omega arith in
    let many : size + n * size ≡ suc n * size = omega arith in
    ap (λ t. take size (drop (base + a * size) bytes) ++ t)
    (cut_run size base (a + 1) n bytes ∙ ap (take (n * size)) (ap (λ k. drop k bytes) on ∙ sym (drop-drop size (base + a * size) bytes)))
    ∙ sym (take_split size (n * size) (drop (base + a * size) bytes)) ∙ ap (λ k. take k (drop (base + a * size) bytes)) many

-- how many bytes a point has in the fields before one
abbrev before : HeaderValue → ℕ → ℕ
before h field = sum_by sample_bytes (take field h.fields)

before_next : (h : HeaderValue) (field : ℕ) → field < length h.fields → before h (field + 1) ≡ before h field + sample_bytes_of h field
before_next h field within = sum_by_more sample_bytes h.fields field (field_at [] 0) within

-- the sample of a field at a point, among the bytes of a region
abbrev pub sample_among : HeaderValue → List (ℕ × ℕ) → List ℕ → ℕ → List ℕ → List ℕ
sample_among h region bytes field p =
    take (sample_bytes_of h field) (drop (length (points region) * before h field + place_of region p * sample_bytes_of h field) bytes)

numbered : (region : List (ℕ × ℕ)) (k : ℕ) → k < length (points region) → place_of region (get_or (points region) k []) ≡ k
numbered region k within =
    ap (place_of region) (get_or_from_slice_get (points region) k (point_of region k) [] (slice_get-points region k (omega (arith, length-points region))))
    ∙ place_of-point_of region k (omega (arith, length-points region))

field_cut : (h : HeaderValue) (region : List (ℕ × ℕ)) (bytes : List ℕ) (field : ℕ) →
    flat_map (sample_among h region bytes field) (points region) ≡ take (length (points region) * sample_bytes_of h field) (drop (length (points region) * before h field) bytes)
field_cut h region bytes field =
    let size : ℕ = sample_bytes_of h field in
    let base : ℕ = length (points region) * before h field in
    let begin : base + 0 * size ≡ base = omega arith in
    sym (joined_places (sample_among h region bytes field) (points region) [] 0 (λ k. take size (drop (base + k * size) bytes))
    (λ k within. ap (λ n. take size (drop (base + n * size) bytes)) (let on : 0 + k ≡ k = omega arith in on ∙ sym (numbered region k within))))
    ∙ cut_run size base 0 (length (points region)) bytes ∙ ap (λ n. take (length (points region) * size) (drop n bytes)) begin

fields_cut : (h : HeaderValue) (region : List (ℕ × ℕ)) (bytes : List ℕ) (fields : ℕ) → fields ≤ length h.fields →
    samples_in fields (sample_among h region bytes) region ≡ take (length (points region) * before h fields) bytes
fields_cut h region bytes zero few = let none : 0 ≡ length (points region) * before h 0 = omega arith in ap (λ k. take k bytes) none
fields_cut h region bytes (suc fields) few =
    let n : ℕ = length (points region) in
    let G : ℕ → List ℕ = λ field. flat_map (sample_among h region bytes field) (points region) in
    let next : suc fields ≡ fields + 1 = omega arith in
    let on : 0 + fields ≡ fields = omega arith in
    let more : before h (fields + 1) ≡ before h fields + sample_bytes_of h fields = before_next h fields (omega arith) in
    let all : n * before h fields + n * sample_bytes_of h fields ≡ n * before h (fields + 1) = omega (arith, ap (λ k. n * k) more) in
    ap (λ k. flat_map G (range_with_len 0 k)) next
    ∙ ap (flat_map G) (range_with_len-more 0 fields)
    ∙ flat_map-append G (range_with_len 0 fields) ((0 + fields) ∷ [])
    ∙ ap (λ t. flat_map G (range_with_len 0 fields) ++ t) (append-nil (G (0 + fields)) ∙ ap G on ∙ field_cut h region bytes fields)
    ∙ ap (λ t. t ++ take (n * sample_bytes_of h fields) (drop (n * before h fields) bytes)) (fields_cut h region bytes fields (omega arith))
    ∙ sym (take_split (n * before h fields) (n * sample_bytes_of h fields) bytes)
    ∙ ap (λ k. take k bytes) (all ∙ ap (λ k. n * before h k) (sym next))

before_all : (h : HeaderValue) → before h (length h.fields) ≡ sum (map sample_bytes h.fields)
before_all h = ap (sum_by sample_bytes) (take_all (length h.fields) h.fields (omega arith)) ∙ sym (sum-map sample_bytes h.fields)

-- a region's bytes hold what they are cut into
whole : (h : HeaderValue) (region : List (ℕ × ℕ)) (bytes : List ℕ) → length bytes ≡ region_bytes h region → bytes ≡ samples_in (length h.fields) (sample_among h region bytes) region
whole h region bytes long =
    let n : ℕ = length (points region) in
    sym (fields_cut h region bytes (length h.fields) (omega arith)
    ∙ take_all (n * before h (length h.fields)) bytes (omega (arith, long, ap (λ k. n * k) (before_all h))))

-- how many bytes the samples of a region have
samples_length : (h : HeaderValue) (sample : ℕ → List ℕ → List ℕ) (region : List (ℕ × ℕ)) (fields : ℕ) → AreSamples h sample → fields ≤ length h.fields →
    length (samples_in fields sample region) ≡ length (points region) * before h fields
samples_length h sample region zero are few = omega arith
samples_length h sample region (suc fields) are few =
    let n : ℕ = length (points region) in
    let G : ℕ → List ℕ = λ field. flat_map (sample field) (points region) in
    let next : suc fields ≡ fields + 1 = omega arith in
    let on : 0 + fields ≡ fields = omega arith in
    let more : before h (fields + 1) ≡ before h fields + sample_bytes_of h fields = before_next h fields (omega arith) in
    let all : n * before h fields + n * sample_bytes_of h fields ≡ n * before h (fields + 1) = omega (arith, ap (λ k. n * k) more) in
    ap (λ k. length (flat_map G (range_with_len 0 k))) next
    ∙ ap (λ xs. length (flat_map G xs)) (range_with_len-more 0 fields)
    ∙ ap length (flat_map-append G (range_with_len 0 fields) ((0 + fields) ∷ []))
    ∙ length-append (flat_map G (range_with_len 0 fields)) (flat_map G ((0 + fields) ∷ []))
    ∙ ap (λ k. k + length (flat_map G ((0 + fields) ∷ []))) (samples_length h sample region fields are (omega arith))
    ∙ ap (λ xs. n * before h fields + length xs) (append-nil (G (0 + fields)) ∙ ap G on)
    ∙ ap (λ k. n * before h fields + k) (length-joined (sample fields) (sample_bytes_of h fields) (points region) (λ p. are fields p (omega arith)))
    ∙ all ∙ ap (λ k. n * before h k) (sym next)

-- each sample has its size
sample_size : (h : HeaderValue) (region : List (ℕ × ℕ)) (bytes : List ℕ) (field : ℕ) (p : List ℕ) → length bytes ≡ region_bytes h region → field < length h.fields → LiesIn region p →
    length (sample_among h region bytes field p) ≡ sample_bytes_of h field
sample_size h region bytes field p long within inside =
    let n : ℕ = length (points region) in
    let size : ℕ = sample_bytes_of h field in
    let place : ℕ = place_of region p in
    let less : place + 1 ≤ n = omega (arith, place_of-lt region p inside, length-points region) in
    let part : before h (field + 1) ≤ sum_by sample_bytes h.fields = sum_by-take-le sample_bytes h.fields (field + 1) in
    let total : sum (map sample_bytes h.fields) ≡ sum_by sample_bytes h.fields = sum-map sample_bytes h.fields in
    let fields : before h field + size ≤ sum (map sample_bytes h.fields) = omega (arith, before_next h field within) in
    let one : n * (before h field + size) ≤ n * sum (map sample_bytes h.fields) = mul-le-mul_left n fields in
    let two : (place + 1) * size ≤ n * size = mul-le-mul_right size less in
    length-take-le size (drop (n * before h field + place * size) bytes)
    (omega (arith, long, length-drop (n * before h field + place * size) bytes))

-- ---- the parcel of a point

lies : List (ℕ × ℕ) → List ℕ → Bool
lies [] [] = true
lies (b ∷ bs) (x ∷ xs) = nat_le b.0 x && (nat_le x b.1 && lies bs xs)
lies _ _ = false

lies_is : (r : List (ℕ × ℕ)) (p : List ℕ) → lies r p ≡ true → LiesIn r p
unfolding lies
lies_is [] [] is = tt
lies_is [] (x ∷ xs) is = let wrong : false ≡ true = is in absurd (cc)
lies_is (b ∷ bs) [] is = let wrong : false ≡ true = is in absurd (cc)
lies_is (b ∷ bs) (x ∷ xs) is =
    let one = and_parts (nat_le b.0 x) (nat_le x b.1 && lies bs xs) is in
    let two = and_parts (nat_le x b.1) (lies bs xs) one.1 in
    (leb-true b.0 x one.0, leb-true x b.1 two.0, lies_is bs xs two.1)

lies_from : (r : List (ℕ × ℕ)) (p : List ℕ) → LiesIn r p → lies r p ≡ true
unfolding lies
lies_from [] [] inside = refl
lies_from [] (x ∷ xs) inside = absurd inside
lies_from (b ∷ bs) [] inside = absurd inside
lies_from (b ∷ bs) (x ∷ xs) inside =
    and_from (nat_le b.0 x) (nat_le x b.1 && lies bs xs) (le-leb b.0 x inside.0)
    (and_from (nat_le x b.1) (lies bs xs) (le-leb x b.1 inside.1) (lies_from bs xs inside.2))

-- what the first parcel that has a point holds there
abbrev held : HeaderValue → List Parcel → ℕ → List ℕ → List ℕ
held h parcels field p =
    option_map_or (λ (parcel : Parcel). sample_among h parcel.region parcel.bytes field p) (find (λ parcel. lies parcel.region p) parcels) (replicate (sample_bytes_of h field) 0)

found_is : (P : Parcel → Type 0) (t : Parcel → Bool) (parcels : List Parcel) (q : Parcel) → find t parcels ≡ Some q → All P parcels → P q × (t q ≡ true)
found_is P t [] q found all = let wrong : None ≡ Some q = found in absurd (cc)
found_is P t (x ∷ xs) q found all = by_test (t x) refl found (λ more. found_is P t xs q more (All-tail P x xs all))
  where
    by_test : (b : Bool) → t x ≡ b → cond b (Some x) (find t xs) ≡ Some q → (find t xs ≡ Some q → P q × (t q ≡ true)) → P q × (t q ≡ true)
    by_test true is found more =
        let same : x ≡ q = cc in
        (subst P same (All-head P x xs all), ap t (sym same) ∙ is)
    by_test false is found more = more found

abbrev IsLong : HeaderValue → Parcel → Type 0
IsLong h parcel = length parcel.bytes ≡ region_bytes h parcel.region

held_size : (h : HeaderValue) (parcels : List Parcel) → All (IsLong h) parcels → AreSamples h (held h parcels)
held_size h parcels long field p within = by_find (find (λ parcel. lies parcel.region p) parcels) refl
  where
    by_find : (o : Option Parcel) → find (λ parcel. lies parcel.region p) parcels ≡ o →
        length (option_map_or (λ (parcel : Parcel). sample_among h parcel.region parcel.bytes field p) o (replicate (sample_bytes_of h field) 0)) ≡ sample_bytes_of h field
    by_find None is = length-replicate (sample_bytes_of h field) 0
    by_find (Some q) is =
        let found = found_is (IsLong h) (λ parcel. lies parcel.region p) parcels q is long in
        sample_size h q.region q.bytes field p found.0 within (lies_is q.region p found.1)

-- ---- parcels that make a piece

none_from : (t : Parcel → Bool) (k : ℕ) (parcels : List Parcel) → position_from (λ parcel. not (t parcel)) k parcels ≡ None → All (λ parcel. t parcel ≡ true) parcels
none_from t k [] none = All-nil (λ parcel. t parcel ≡ true)
none_from t k (x ∷ xs) none = by_test (t x) refl none (λ more. none_from t (k + 1) xs more)
  where
    by_test : (b : Bool) → t x ≡ b → cond (not b) (Some k) (position_from (λ parcel. not (t parcel)) (k + 1) xs) ≡ None →
        (position_from (λ parcel. not (t parcel)) (k + 1) xs ≡ None → All (λ parcel. t parcel ≡ true) xs) → All (λ parcel. t parcel ≡ true) (x ∷ xs)
    by_test true is none more = All-cons (λ parcel. t parcel ≡ true) x xs is (more none)
    by_test false is none more = let wrong : Some k ≡ None = none in absurd (cc)

none_in : (t : ℕ → Bool) (a n : ℕ) → find t (range_with_len a n) ≡ None → (k : ℕ) → a ≤ k → k < a + n → t k ≡ false
none_in t a zero none k from to = absurd (omega arith)
none_in t a (suc n) none k from to = by_test (t a) refl none (λ more. none_in t (a + 1) n more k)
  where
    by_test : (b : Bool) → t a ≡ b → cond b (Some a) (find t (range_with_len (a + 1) n)) ≡ None → (find t (range_with_len (a + 1) n) ≡ None → a + 1 ≤ k → k < a + 1 + n → t k ≡ false) → t k ≡ false
    by_test true is none more = let wrong : Some a ≡ None = none in absurd (cc)
    by_test false is none more = grind (arith, more none, is)

first_none : {X : Type 0} (one other : Option X) → option_or one other ≡ None → (one ≡ None) × (other ≡ None)
first_none None other none = (refl, none)
first_none (Some x) other none = let wrong : Some x ≡ None = none in absurd (cc)

unmapped : (f : ℕ → Why) (o : Option ℕ) → option_map f o ≡ None → o ≡ None
unmapped f None none = refl
unmapped f (Some x) none = let wrong : Some (f x) ≡ None = none in absurd (cc)

module _ (h : HeaderValue) (piece : Piece) (parcels : List Parcel) (valid : IsHeader h) (is : IsPiece h piece) (none : why_not h piece parcels ≡ None) where
  strangers : All (λ parcel. is_of_piece h piece parcel ≡ true) parcels
  strangers =
      none_from (is_of_piece h piece) 0 parcels (unmapped (λ at. Stranger at) (stranger_at h piece parcels)
      (first_none (option_map (λ at. Stranger at) (stranger_at h piece parcels)) (option_or (option_map (λ at. Double at) (double_at parcels)) (option_map (λ r. Missing r) (missing_rank piece parcels))) none).0)

  doubles : double_at parcels ≡ None
  doubles =
      unmapped (λ at. Double at) (double_at parcels)
      (first_none (option_map (λ at. Double at) (double_at parcels)) (option_map (λ r. Missing r) (missing_rank piece parcels))
      (first_none (option_map (λ at. Stranger at) (stranger_at h piece parcels)) (option_or (option_map (λ at. Double at) (double_at parcels)) (option_map (λ r. Missing r) (missing_rank piece parcels))) none).1).0

  ranks_apart : (i j : ℕ) (d : Parcel) → i < j → j < length parcels → (get_or parcels i d).rank ≡ (get_or parcels j d).rank → ⊥
  ranks_apart i j d less within same =
      let rank : slice_index (map (λ (parcel : Parcel). parcel.rank) parcels) j ≡ (get_or parcels j d).rank = get_or-map (λ (parcel : Parcel). parcel.rank) parcels j d 0 within in
      let fails : has_parcel (take j parcels) (slice_index (map (λ (parcel : Parcel). parcel.rank) parcels) j) ≡ false =
      none_in (λ at. has_parcel (take at parcels) (slice_index (map (λ (parcel : Parcel). parcel.rank) parcels) at)) 0 (length parcels) doubles j (omega arith) (omega arith) in
      let there : has_parcel (take j parcels) (get_or parcels j d).rank ≡ true =
      list_any_at (λ (parcel : Parcel). parcel.rank == (get_or parcels j d).rank) (take j parcels) i d (omega (arith, length-take-le j parcels (omega arith)))
      (ap (λ (parcel : Parcel). parcel.rank == (get_or parcels j d).rank) (get_or-take j parcels i d less) ∙ eq-eqb (get_or parcels i d).rank (get_or parcels j d).rank same) in
      let wrong : true ≡ false = sym there ∙ ap (has_parcel (take j parcels)) (sym rank) ∙ fails in
      cc

  -- a parcel that has a point is of the point's rank
  record IsOfRank (parcel : Parcel) (p : List ℕ) : Type 0 where
    few : parcel.rank < rank_count h.box piece.of_ranks
    inside : LiesIn (rank_region h.box piece.of_ranks parcel.rank) p

  same_axes : (rank : ℕ) → length (rank_region h.box piece.of_ranks rank) ≡ length piece.region
  same_axes rank =
      let front : List (ℕ × ℕ) = map (front_bounds h.mask is.e piece.id) (range_with_len 0 (length h.box)) in
      let axes : length h.box ≡ length front =
      sym (length-map (range_with_len 0 (length h.box)) (front_bounds h.mask is.e piece.id) ∙ length-range_with_len 0 (length h.box)) in
      length-rank_region h.box piece.of_ranks rank ∙ sym (ap (λ (piece : Piece). length piece.region) is.is ∙ length-common_bounds h.box front axes)

  of_rank : (parcel : Parcel) (p : List ℕ) → is_of_piece h piece parcel ≡ true → LiesIn parcel.region p → IsOfRank parcel p
  of_rank parcel p own inside =
      let one = and_parts ((parcel.piece == piece.id) && list_any (λ rank. rank == parcel.rank) piece.ranks) (same_bounds parcel.region (part_of h piece parcel.rank)) own in
      let two = and_parts (parcel.piece == piece.id) (list_any (λ rank. rank == parcel.rank) piece.ranks) one.0 in
      let region : parcel.region ≡ part_of h piece parcel.rank = bounds_same parcel.region (part_of h piece parcel.rank) one.1 in
      record {
        few = ((ranks_of_piece h piece parcel.rank is).0 (contains_from_test piece.ranks parcel.rank two.1)).0;
        inside = ((HasExactly-common (rank_region h.box piece.of_ranks parcel.rank) piece.region (same_axes parcel.rank) p).0 (subst (λ r. LiesIn r p) region inside)).0;
      }

  -- the points of a parcel lie in the box
  pub own_inside : (k : ℕ) (d : Parcel) (p : List ℕ) → k < length parcels → LiesIn (get_or parcels k d).region p → LiesIn h.box p
  own_inside k d p within inside =
      let parcel : Parcel = get_or parcels k d in
      let own = and_parts ((parcel.piece == piece.id) && list_any (λ rank. rank == parcel.rank) piece.ranks) (same_bounds parcel.region (part_of h piece parcel.rank)) (strangers k d within) in
      let region : parcel.region ≡ part_of h piece parcel.rank = bounds_same parcel.region (part_of h piece parcel.rank) own.1 in
      let here : LiesIn piece.region p =
      ((HasExactly-common (rank_region h.box piece.of_ranks parcel.rank) piece.region (same_axes parcel.rank) p).0 (subst (λ r. LiesIn r p) region inside)).1 in
      let whole : piece.region ≡ piece_region h.mask h.box is.e piece.id = ap (λ (piece : Piece). piece.region) is.is in
      ((piece_exact h is.e piece.id valid is.within is.some p).0 (subst (λ r. LiesIn r p) whole here)).0

  found_own : (k : ℕ) (d : Parcel) (p : List ℕ) → k < length parcels → LiesIn (get_or parcels k d).region p → find (λ parcel. lies parcel.region p) parcels ≡ Some (get_or parcels k d)
  found_own k d p within inside =
      find_at (λ (parcel : Parcel). lies parcel.region p) parcels
      ∙ ap (slice_get parcels) (position_or_len_is (λ (parcel : Parcel). lies parcel.region p) parcels k d (omega arith) earlier (λ _. lies_from (get_or parcels k d).region p inside))
      ∙ slice_get-get_or parcels k d within
    where
      earlier : (i : ℕ) → i < k → lies (get_or parcels i d).region p ≡ false
      earlier i less = by_test (lies (get_or parcels i d).region p) refl
        where
          by_test : (b : Bool) → lies (get_or parcels i d).region p ≡ b → lies (get_or parcels i d).region p ≡ false
          by_test false fails = fails
          by_test true here =
              let one = of_rank (get_or parcels i d) p (strangers i d (omega arith)) (lies_is (get_or parcels i d).region p here) in
              let two = of_rank (get_or parcels k d) p (strangers k d within) inside in
              absurd (ranks_apart i k d less within (only_rank h.box piece.of_ranks (get_or parcels i d).rank (get_or parcels k d).rank p valid.region one.few two.few one.inside two.inside))

  pub point_in : (region : List (ℕ × ℕ)) (p : List ℕ) → Contains (points region) p → LiesIn region p
  point_in region p among =
      (LiesIn-slice_get region among.0 p (slice_get-get_or (points region) among.0 p among.1 ∙ ap Some among.2)).0

  all_held : All (IsLong h) parcels → All (λ parcel. HoldsSamples h (held h parcels) parcel.region parcel.bytes) parcels
  all_held long k d within =
      let parcel : Parcel = get_or parcels k d in
      whole h parcel.region parcel.bytes (long k d within)
      ∙ joined_agree (λ field. flat_map (sample_among h parcel.region parcel.bytes field) (points parcel.region)) (λ field. flat_map (held h parcels field) (points parcel.region)) (range_with_len 0 (length h.fields))
      (λ field. joined_within (sample_among h parcel.region parcel.bytes field) (held h parcels field) (points parcel.region)
      (λ p among. sym (ap (λ o. option_map_or (λ (q : Parcel). sample_among h q.region q.bytes field p) o (replicate (sample_bytes_of h field) 0)) (found_own k d p within (point_in parcel.region p among)))))

  -- what holds the piece's samples wherever the parcels do has as many bytes as these
  pub has_length : All (IsLong h) parcels → (bytes : List ℕ) → HoldsWhereAllDo h piece parcels bytes → length bytes ≡ region_bytes h piece.region
  has_length long bytes holds =
      ap length (holds (held h parcels) (held_size h parcels long) (all_held long)) ∙ samples_length h (held h parcels) piece.region (length h.fields) (held_size h parcels long) (omega arith)
      ∙ ap (λ k. length (points piece.region) * k) (before_all h)
