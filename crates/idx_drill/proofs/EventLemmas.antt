-- Lists of events, as loops make them.
use Rattle.std.proofs.Common.{◌≡◌, ℕ, zero, suc, ◌+◌, ◌-◌, ◌^◌, ◌<◌, ◌≤◌, Bool, true, false, ◌&&◌, ◌||◌, ◌==◌, cond, nat_eq, List, [], ◌∷◌, ◌++◌, length, filter, find, get_or, map, take, Option, Some, refl, sym, ap, ◌∙◌, append_assoc, append-nil, arith, eq-eqb, eqb-true}
use Rattle.std.specs.Prelude.{All}
use Rattle.std.specs.List.{AllByRecursion, flat_map, range_with_len}
use Rattle.std.specs.Option.{option_map_or}
use Rattle.std.proofs.lemmas.List.{flat_map_more, map-append, take_more}
use Rattle.std.proofs.lemmas.List.Elements.{All-cons, All-filter, All-nil}
use Rattle.std.proofs.lemmas.List.Folds.{flat_map-map}
use Rattle.std.proofs.lemmas.List.FromFn.{length-map-range_with_len, map-range_with_len_more}
use Rattle.idx_header.specs.Header.{HeaderValue, block_count}
use Rattle.idx_layout.specs.OfHeader.{placing_of}
use Rattle.idx_layout.specs.Placing.{file_numbers}
use Rattle.idx_pieces.specs.Digits.{piece_digits}
use Rattle.idx_pieces.specs.Pieces.{has_piece, piece_at, piece_region, pieces_of}
use Rattle.idx_pieces.specs.declared.piece.Piece.{Piece}
use Rattle.idx_dock.specs.Dock.{reaches}
use Rattle.idx_events.specs.Lists.{has}
use Rattle.idx_events.specs.declared.event.Event.{Event}
use Rattle.idx_events.specs.declared.event.Event.TheVariants.{Give, Publish, Read, Ship, Write}
use Rattle.idx_events.proofs.ListLemmas.{Each-itself, Each-map, Each-weaker, has-filter, map-map}
use Rattle.idx_core_model.specs.Layers.{pieces_in_file, ranks_of_piece, setting_of}
use Rattle.idx_drill_events.specs.Lists.{Asking, all_asked, asked, gives, pairs_of, ships, writes}
use Rattle.idx_drill_model.specs.Blocks.{new_blocks}
use Rattle.idx_drill_model.specs.Drill.{drill_header}
use Rattle.idx_drill.specs.Drilled.{drill_asking, drill_events, drill_layers, drill_pieces, drill_questions}

-- ---- lists one after another

-- functions that agree at each element of a list make the same of it
pub flat_map-agree : {X Y : Type 0} (f g : X → List Y) (xs : List X) → AllByRecursion (λ x. f x ≡ g x) xs → flat_map f xs ≡ flat_map g xs
flat_map-agree f g [] same = refl
flat_map-agree f g (x ∷ xs) same = (λ i. same.0 i ++ flat_map-agree f g xs same.1 i)

-- one more number of a range
map_same : (xs : List ℕ) → map (λ k. k) xs ≡ xs
map_same [] = refl
map_same (x ∷ xs) = ap (λ l. x ∷ l) (map_same xs)

range-snoc : (n : ℕ) → range_with_len 0 n ++ n ∷ [] ≡ range_with_len 0 (n + 1)
range-snoc n =
    let same = map_same (range_with_len 0 n) in
    let more = map_same (range_with_len 0 (n + 1)) in
    let step = map-range_with_len_more (λ k. k) 0 n n (omega arith) in
    cc

pub flat_map-range_more : {Y : Type 0} (f : ℕ → List Y) (ys : List Y) (n : ℕ) → (ys ++ flat_map f (range_with_len 0 n)) ++ f n ≡ ys ++ flat_map f (range_with_len 0 (n + 1))
flat_map-range_more f ys n = flat_map_more f ys (range_with_len 0 n) n ∙ ap (λ l. ys ++ flat_map f l) (range-snoc n)

-- one more element of a list
pub flat_map-take_more : {X Y : Type 0} (f : X → List Y) (ys : List Y) (xs : List X) (i : ℕ) (x : X) → i < length xs → x ≡ get_or xs i x →
    (ys ++ flat_map f (take i xs)) ++ f x ≡ ys ++ flat_map f (take (i + 1) xs)
flat_map-take_more f ys xs i x within at =
    flat_map_more f ys (take i xs) x ∙ ap (λ l. ys ++ flat_map f l) (ap (λ y. take i xs ++ y ∷ []) at ∙ sym (take_more xs i x within))

-- ---- questions

-- one more block is read
pub blocks-more : (query first block : ℕ) (events : List Event) → first ≤ block →
    (events ++ map (λ b. Read query b) (range_with_len first (block - first))) ++ Read query block ∷ [] ≡ events ++ map (λ b. Read query b) (range_with_len first (block + 1 - first))
blocks-more query first block events low =
    let next : block + 1 - first ≡ (block - first) + 1 = omega arith in
    append_assoc events (map (λ b. Read query b) (range_with_len first (block - first))) (Read query block ∷ [])
    ∙ ap (λ l. events ++ l) (sym (map-range_with_len_more (λ b. Read query b) first (block - first) block (omega arith))
    ∙ ap (λ k. map (λ b. Read query b) (range_with_len first k)) (sym next))

-- one more question
asked-snoc : (query k : ℕ) (xs : List Asking) (x : Asking) → query + length xs ≡ k → all_asked query xs ++ asked k x.missing ≡ all_asked query (xs ++ x ∷ [])
asked-snoc query k [] x at = let same : k ≡ query = omega (arith, at) in ap (λ q. asked q x.missing) same ∙ sym (append-nil (asked query x.missing))
asked-snoc query k (y ∷ xs) x at =
    append_assoc (asked query y.missing) (all_asked (query + 1) xs) (asked k x.missing)
    ∙ ap (λ l. asked query y.missing ++ l) (asked-snoc (query + 1) k xs x (omega (arith, at)))

pub levels-more : (n level : ℕ) (events : List Event) →
    (events ++ all_asked 0 (map (drill_asking n) (range_with_len 0 level))) ++ asked level (new_blocks n level) ≡ events ++ all_asked 0 (map (drill_asking n) (range_with_len 0 (level + 1)))
levels-more n level events =
    let questions : List Asking = map (drill_asking n) (range_with_len 0 level) in
    append_assoc events (all_asked 0 questions) (asked level (new_blocks n level))
    ∙ ap (λ l. events ++ l) (asked-snoc 0 level questions (drill_asking n level) (omega (arith, length-map-range_with_len (drill_asking n) 0 level))
    ∙ ap (all_asked 0) (sym (map-range_with_len_more (drill_asking n) 0 level level (omega arith))))

-- ---- files

all_range : (P : ℕ → Type 0) (a n : ℕ) → ((k : ℕ) → k < a + n → P k) → All P (range_with_len a n)
all_range P a zero each = All-nil P
all_range P a (suc n) each = All-cons P a (range_with_len (a + 1) n) (each a (omega arith)) (all_range P (a + 1) n (λ k below. each k (omega arith)))

-- each file of a dataset has a block
pub files-exist : (h : HeaderValue) → All (λ file. file < block_count h) (file_numbers (placing_of h))
files-exist h = All-filter _ (λ file. file < block_count h) (range_with_len 0 (block_count h)) (all_range (λ file. file < block_count h) 0 (block_count h) (λ k below. omega arith))

-- what is made of the first number that is left, where it passes a test, and where it does not
pub made-kept : (f : ℕ → Event) (test : ℕ → Bool) (done : List Event) (x : ℕ) (left : List ℕ) → test x ≡ true →
    (done ++ f x ∷ []) ++ map f (filter test left) ≡ done ++ map f (filter test (x ∷ left))
made-kept f test done x left pass =
    append_assoc done (f x ∷ []) (map f (filter test left)) ∙ ap (λ b. done ++ map f (cond b (x ∷ filter test left) (filter test left))) (sym pass)

pub made-passed : (f : ℕ → Event) (test : ℕ → Bool) (done : List Event) (x : ℕ) (left : List ℕ) → test x ≡ false →
    done ++ map f (filter test left) ≡ done ++ map f (filter test (x ∷ left))
made-passed f test done x left pass = ap (λ b. done ++ map f (cond b (x ∷ filter test left) (filter test left))) (sym pass)

-- ---- parts and shipments, by pieces in place of their ids

-- events of pairs of numbers, by the first and then by the second
pairs-map : (f : ℕ → ℕ → Event) (test : ℕ → ℕ → Bool) (firsts seconds : List ℕ) →
    map (λ (p : ℕ × ℕ). f p.0 p.1) (pairs_of test firsts seconds) ≡ flat_map (λ a. map (f a) (filter (test a) seconds)) firsts
pairs-map f test [] seconds = refl
pairs-map f test (a ∷ firsts) seconds =
    map-append (λ (p : ℕ × ℕ). f p.0 p.1) (map (λ b. (a, b)) (filter (test a) seconds)) (pairs_of test firsts seconds)
    ∙ (λ i. map-map (λ b. (a, b)) (λ (p : ℕ × ℕ). f p.0 p.1) (filter (test a) seconds) i ++ pairs-map f test firsts seconds i)

-- events of the ids of those pieces that pass a test
ids-map : (f : ℕ → Event) (test : ℕ → Bool) (own : Piece → Bool) (pieces : List Piece) → AllByRecursion (λ (piece : Piece). test piece.id ≡ own piece) pieces →
    map f (filter test (map (λ (piece : Piece). piece.id) pieces)) ≡ map (λ (piece : Piece). f piece.id) (filter own pieces)
ids-map f test own [] same = refl
ids-map f test own (p ∷ pieces) same = by_test (own p) same.0 (ids-map f test own pieces same.1)
  where
    by_test : (b : Bool) → test p.id ≡ b → map f (filter test (map (λ (piece : Piece). piece.id) pieces)) ≡ map (λ (piece : Piece). f piece.id) (filter own pieces) →
        map f (filter test (map (λ (piece : Piece). piece.id) (p ∷ pieces))) ≡ map (λ (piece : Piece). f piece.id) (cond b (p ∷ filter own pieces) (filter own pieces))
    by_test true is rest = ap (λ b. map f (cond b (p.id ∷ filter test (map (λ (piece : Piece). piece.id) pieces)) (filter test (map (λ (piece : Piece). piece.id) pieces)))) is ∙ ap (λ l. f p.id ∷ l) rest
    by_test false is rest = ap (λ b. map f (cond b (p.id ∷ filter test (map (λ (piece : Piece). piece.id) pieces)) (filter test (map (λ (piece : Piece). piece.id) pieces)))) is ∙ rest

module _ (h : HeaderValue) (e n : ℕ) where
  -- the piece of an id is found
  piece-found : (ids : List ℕ) (i : ℕ) → has i ids ≡ true → find (λ (piece : Piece). piece.id == i) (map (piece_at h e n) ids) ≡ Some (piece_at h e n i)
  piece-found [] i there = let wrong : false ≡ true = there in cc
  piece-found (j ∷ ids) i there = by_test (j == i) refl (λ more. piece-found ids i more) there
    where
      by_test : (b : Bool) → (j == i) ≡ b → (has i ids ≡ true → find (λ (piece : Piece). piece.id == i) (map (piece_at h e n) ids) ≡ Some (piece_at h e n i)) → has i (j ∷ ids) ≡ true →
          cond b (Some (piece_at h e n j)) (find (λ (piece : Piece). piece.id == i) (map (piece_at h e n) ids)) ≡ Some (piece_at h e n i)
      by_test true is more there = ap (λ k. Some (piece_at h e n k)) (eqb-true j i is)
      by_test false is more there = more (later (nat_eq i j) refl there)
        where
          later : (c : Bool) → nat_eq i j ≡ c → (c || has i ids) ≡ true → has i ids ≡ true
          later true same there = let wrong : true ≡ false = sym (eq-eqb j i (sym (eqb-true i j same))) ∙ is in absurd (cc)
          later false same there = there

  -- the ids of the pieces
  abbrev ids_of : List ℕ
  ids_of = filter (has_piece h.mask h.box e) (range_with_len 0 (2 ^ (length h.mask - e)))

  -- what holds of the piece of each id holds of all pieces
  each-piece : (P : Piece → Type 0) → ((i : ℕ) → has i ids_of ≡ true → P (piece_at h e n i)) → AllByRecursion P (pieces_of h e n)
  each-piece P each = Each-map (piece_at h e n) P ids_of (Each-weaker (λ i. has i ids_of ≡ true) (λ i. P (piece_at h e n i)) each ids_of (Each-itself ids_of))

  -- a rank has a part of a piece where it is one of the piece's
  part-legal : (rank : ℕ) → AllByRecursion (λ (piece : Piece). has rank (ranks_of_piece h e n piece.id) ≡ has rank piece.ranks) (pieces_of h e n)
  part-legal rank = each-piece (λ (piece : Piece). has rank (ranks_of_piece h e n piece.id) ≡ has rank piece.ranks)
      (λ i there. ap (λ (o : Option Piece). has rank (option_map_or (λ (piece : Piece). piece.ranks) o [])) (piece-found ids_of i there))

  -- the ids of those pieces that pass a test are those ids whose pieces do
  ids-passing : (test : Piece → Bool) (ids : List ℕ) → map (λ (piece : Piece). piece.id) (filter test (map (piece_at h e n) ids)) ≡ filter (λ i. test (piece_at h e n i)) ids
  ids-passing test [] = refl
  ids-passing test (i ∷ ids) = by_test (test (piece_at h e n i)) (ids-passing test ids)
    where
      by_test : (b : Bool) → map (λ (piece : Piece). piece.id) (filter test (map (piece_at h e n) ids)) ≡ filter (λ j. test (piece_at h e n j)) ids →
          map (λ (piece : Piece). piece.id) (cond b (piece_at h e n i ∷ filter test (map (piece_at h e n) ids)) (filter test (map (piece_at h e n) ids))) ≡
          cond b (i ∷ filter (λ j. test (piece_at h e n j)) ids) (filter (λ j. test (piece_at h e n j)) ids)
      by_test true rest = ap (λ l. i ∷ l) rest
      by_test false rest = rest

  -- a piece is among those of a file where it has a point there
  piece-reaches : (i : ℕ) → has i ids_of ≡ true → (file : ℕ) → has i (pieces_in_file h e n file) ≡ reaches h (piece_region h.mask h.box e i) file
  piece-reaches i there file =
      ap (has i) (ids-passing (λ (piece : Piece). reaches h piece.region file) ids_of)
      ∙ has-filter i (λ j. reaches h (piece_region h.mask h.box e j) file) ids_of
      ∙ ap (λ b. b && reaches h (piece_region h.mask h.box e i) file) there

  files-agree : (p q : ℕ → Bool) → ((file : ℕ) → p file ≡ q file) → (files : List ℕ) → filter p files ≡ filter q files
  files-agree p q same [] = refl
  files-agree p q same (file ∷ files) = (λ i. cond (same file i) (file ∷ files-agree p q same files i) (files-agree p q same files i))

  -- the parts of all pieces, by rank and then by piece
  pub gives-are : gives (setting_of h e n) 0 0 (map (λ (piece : Piece). piece.id) (pieces_of h e n)) n ≡
      flat_map (λ rank. map (λ (piece : Piece). Give 0 0 rank piece.id) (filter (λ (piece : Piece). has rank piece.ranks) (pieces_of h e n))) (range_with_len 0 n)
  unfolding setting_of
  gives-are =
      let ids : List ℕ = map (λ (piece : Piece). piece.id) (pieces_of h e n) in
      pairs-map (Give 0 0) (λ rank piece. has rank (ranks_of_piece h e n piece)) (range_with_len 0 n) ids
      ∙ by_rank (range_with_len 0 n)
    where
      by_rank : (ranks : List ℕ) →
          flat_map (λ rank. map (Give 0 0 rank) (filter (λ piece. has rank (ranks_of_piece h e n piece)) (map (λ (piece : Piece). piece.id) (pieces_of h e n)))) ranks ≡
          flat_map (λ rank. map (λ (piece : Piece). Give 0 0 rank piece.id) (filter (λ (piece : Piece). has rank piece.ranks) (pieces_of h e n))) ranks
      by_rank [] = refl
      by_rank (rank ∷ ranks) = (λ i.
          ids-map (Give 0 0 rank) (λ piece. has rank (ranks_of_piece h e n piece)) (λ (piece : Piece). has rank piece.ranks) (pieces_of h e n) (part-legal rank) i
          ++ by_rank ranks i)

  -- the shipments of all pieces, by piece and then by file
  pub ships-are : ships (setting_of h e n) 0 0 (map (λ (piece : Piece). piece.id) (pieces_of h e n)) ≡
      flat_map (λ (piece : Piece). map (λ file. Ship 0 0 piece.id file) (filter (reaches h piece.region) (file_numbers (placing_of h)))) (pieces_of h e n)
  unfolding setting_of
  ships-are =
      let files : List ℕ = file_numbers (placing_of h) in
      let test : ℕ → ℕ → Bool = λ piece file. has piece (pieces_in_file h e n file) in
      pairs-map (Ship 0 0) test (map (λ (piece : Piece). piece.id) (pieces_of h e n)) files
      ∙ flat_map-map (λ piece. map (Ship 0 0 piece) (filter (test piece) files)) (λ (piece : Piece). piece.id) (pieces_of h e n)
      ∙ flat_map-agree (λ (piece : Piece). map (Ship 0 0 piece.id) (filter (test piece.id) files)) (λ (piece : Piece). map (λ file. Ship 0 0 piece.id file) (filter (reaches h piece.region) files)) (pieces_of h e n)
      (each-piece (λ (piece : Piece). map (Ship 0 0 piece.id) (filter (test piece.id) files) ≡ map (λ file. Ship 0 0 piece.id file) (filter (reaches h piece.region) files))
      (λ i there. ap (map (Ship 0 0 i)) (files-agree (test i) (reaches h (piece_region h.mask h.box e i)) (piece-reaches i there) files)))

  pub writes-are : writes (setting_of h e n) 0 0 ≡ map (λ file. Write 0 0 file) (file_numbers (placing_of h))
  unfolding setting_of
  writes-are = refl

-- lists that were made one behind another are as one of parts
parts-joined : (g s w p a : List Event) → ((((([] ++ g) ++ s) ++ w) ++ p) ++ a) ≡ (g ++ (s ++ (w ++ p))) ++ a
parts-joined g s w p a = ap (λ l. l ++ a) (append_assoc (g ++ s) w p ∙ append_assoc g s (w ++ p))

-- the events of each kind
abbrev given_of : List Piece → List Event
given_of ps = flat_map (λ rank. map (λ (piece : Piece). Give 0 0 rank piece.id) (filter (λ (piece : Piece). has rank piece.ranks) ps)) (range_with_len 0 4)

abbrev shipped_of : HeaderValue → List Piece → List Event
shipped_of k ps = flat_map (λ (piece : Piece). map (λ file. Ship 0 0 piece.id file) (filter (reaches k piece.region) (file_numbers (placing_of k)))) ps

abbrev written_of : HeaderValue → List Event
written_of k = map (λ file. Write 0 0 file) (file_numbers (placing_of k))

abbrev whole : HeaderValue → List Piece → List Event
whole k ps = given_of ps ++ (shipped_of k ps ++ (written_of k ++ Publish 0 0 ∷ []))

-- all events of a drill, as they were made one kind behind another
pub events-are : (n e : ℕ) (h : HeaderValue) (pieces : List Piece) (none gave shipped wrote published all : List Event) → h ≡ drill_header n → e ≡ piece_digits h (2 ^ 28) →
    pieces ≡ pieces_of h e 4 → none ≡ [] →
    gave ≡ none ++ flat_map (λ rank. map (λ (piece : Piece). Give 0 0 rank piece.id) (filter (λ (piece : Piece). has rank piece.ranks) pieces)) (range_with_len 0 4) →
    shipped ≡ gave ++ flat_map (λ (piece : Piece). map (λ file. Ship 0 0 piece.id file) (filter (reaches h piece.region) (file_numbers (placing_of h)))) pieces →
    wrote ≡ shipped ++ map (λ file. Write 0 0 file) (file_numbers (placing_of h)) → published ≡ wrote ++ Publish 0 0 ∷ [] → all ≡ published ++ all_asked 0 (drill_questions n) →
    all ≡ drill_events n
events-are n e h pieces none gave shipped wrote published all header digits divided empty given sent wrote_all said asked =
    asked ∙ ap (λ l. l ++ all_asked 0 (drill_questions n)) (said ∙ ap (λ l. l ++ Publish 0 0 ∷ []) (wrote_all ∙ ap (λ l. l ++ written_of h)
    (sent ∙ ap (λ l. l ++ shipped_of h pieces) (given ∙ ap (λ l. l ++ given_of pieces) empty))))
    ∙ parts-joined (given_of pieces) (shipped_of h pieces) (written_of h) (Publish 0 0 ∷ []) (all_asked 0 (drill_questions n))
    ∙ ap (λ l. l ++ all_asked 0 (drill_questions n)) ((λ i. whole (header i) (own_pieces i)) ∙ (λ i. by_gives i ++ (by_ships i ++ (by_writes i ++ Publish 0 0 ∷ []))))
  where
    own_digits : e ≡ piece_digits (drill_header n) (2 ^ 28)
    own_digits = digits ∙ ap (λ (k : HeaderValue). piece_digits k (2 ^ 28)) header

    own_pieces : pieces ≡ pieces_of (drill_header n) (piece_digits (drill_header n) (2 ^ 28)) 4
    own_pieces = divided ∙ (λ i. pieces_of (header i) (own_digits i) 4)

    by_gives : given_of (pieces_of (drill_header n) (piece_digits (drill_header n) (2 ^ 28)) 4) ≡ gives (drill_layers n) 0 0 (drill_pieces n) 4
    by_gives = sym (gives-are (drill_header n) (piece_digits (drill_header n) (2 ^ 28)) 4)

    by_ships : shipped_of (drill_header n) (pieces_of (drill_header n) (piece_digits (drill_header n) (2 ^ 28)) 4) ≡ ships (drill_layers n) 0 0 (drill_pieces n)
    by_ships = sym (ships-are (drill_header n) (piece_digits (drill_header n) (2 ^ 28)) 4)

    by_writes : written_of (drill_header n) ≡ writes (drill_layers n) 0 0
    by_writes = sym (writes-are (drill_header n) (piece_digits (drill_header n) (2 ^ 28)) 4)
