-- The pieces of a dataset are all that its files need, and no piece and no file stands twice.
use Rattle.std.proofs.Common.{◌≡◌, ℕ, zero, suc, ◌+◌, ◌-◌, ◌^◌, ◌<◌, ◌≤◌, Bool, true, false, cond, nat_eq, List, [], ◌∷◌, length, map, refl, sym, ap, subst, arith}
use Rattle.std.specs.Prelude.{◌||◌, filter, find, Option, Some}
use Rattle.std.specs.List.{AllByRecursion, IsDistinct, range_with_len}
use Rattle.std.specs.Option.{option_map_or}
use Rattle.std.proofs.lemmas.Bool.{ne_eqb, or_left, or_right}
use Rattle.std.proofs.lemmas.Map.Keys.{IsDistinct-cons}
use Rattle.idx_header.specs.Header.{HeaderValue}
use Rattle.idx_pieces.specs.Pieces.{has_piece, piece_at, pieces_of}
use Rattle.idx_pieces.specs.Ranks.{rank_count}
use Rattle.idx_pieces.specs.declared.piece.Piece.{Piece}
use Rattle.idx_dock.specs.Dock.{reaches}
use Rattle.idx_events.specs.Lists.{has}
use Rattle.idx_core_model.specs.Headline.{IsDivided}
use Rattle.idx_core_model.specs.Layers.{pieces_in_file, setting_of}
use Rattle.idx_core_model.proofs.SettingLemmas.{layers_ok}
use Rattle.idx_drill_events.specs.Written.{AreAll}

-- ---- numbers of a range that pass a test are apart

later : (test : ℕ → Bool) (k a n : ℕ) → k < a → AllByRecursion (λ x. nat_eq k x ≡ false) (filter test (range_with_len a n))
later test k a zero less = tt
later test k a (suc n) less = by_test (test a) (later test k (a + 1) n (omega arith))
  where
    rest : List ℕ
    rest = filter test (range_with_len (a + 1) n)

    by_test : (b : Bool) → AllByRecursion (λ x. nat_eq k x ≡ false) rest → AllByRecursion (λ x. nat_eq k x ≡ false) (cond b (a ∷ rest) rest)
    by_test true apart = (ne_eqb k a (λ same. absurd (omega arith)), apart)
    by_test false apart = apart

distinct-filter : (test : ℕ → Bool) (a n : ℕ) → IsDistinct nat_eq (filter test (range_with_len a n))
unfolding IsDistinct
distinct-filter test a zero = tt
distinct-filter test a (suc n) = by_test (test a) (distinct-filter test (a + 1) n)
  where
    rest : List ℕ
    rest = filter test (range_with_len (a + 1) n)

    by_test : (b : Bool) → IsDistinct nat_eq rest → IsDistinct nat_eq (cond b (a ∷ rest) rest)
    by_test true apart = IsDistinct-cons nat_eq a rest (later test a (a + 1) n (omega arith)) apart
    by_test false apart = apart

below-filter : (test : ℕ → Bool) (limit a n : ℕ) → a + n ≤ limit → AllByRecursion (λ x. x < limit) (filter test (range_with_len a n))
below-filter test limit a zero within = tt
below-filter test limit a (suc n) within = by_test (test a) (below-filter test limit (a + 1) n (omega arith))
  where
    rest : List ℕ
    rest = filter test (range_with_len (a + 1) n)

    by_test : (b : Bool) → AllByRecursion (λ x. x < limit) rest → AllByRecursion (λ x. x < limit) (cond b (a ∷ rest) rest)
    by_test true below = (omega arith, below)
    by_test false below = below

-- ---- what stands in a list

-- what holds of each number that stands in a list holds of all
all_from : (P : ℕ → Type 0) (xs : List ℕ) → ((i : ℕ) → has i xs ≡ true → P i) → AllByRecursion P xs
all_from P [] each = tt
all_from P (x ∷ xs) each =
    (each x (or_left (nat_eq x x) (has x xs) (same-number x)), all_from P xs (λ i there. each i (or_right (nat_eq i x) (has i xs) there)))
  where
    same-number : (n : ℕ) → nat_eq n n ≡ true
    same-number n = grind arith

-- the ids of those that pass a test stand among all ids
stands : (test : Piece → Bool) (ps : List Piece) (i : ℕ) → has i (map (λ (piece : Piece). piece.id) (filter test ps)) ≡ true → has i (map (λ (piece : Piece). piece.id) ps) ≡ true
stands test [] i there = there
stands test (p ∷ ps) i there = by_test (test p) there (stands test ps i)
  where
    passed : List Piece
    passed = filter test ps

    by_test : (b : Bool) → has i (map (λ (piece : Piece). piece.id) (cond b (p ∷ passed) passed)) ≡ true →
        (has i (map (λ (piece : Piece). piece.id) passed) ≡ true → has i (map (λ (piece : Piece). piece.id) ps) ≡ true) →
        has i (map (λ (piece : Piece). piece.id) (p ∷ ps)) ≡ true
    by_test false there more = or_right (nat_eq i p.id) (has i (map (λ (piece : Piece). piece.id) ps)) (more there)
    by_test true there more = by_first (nat_eq i p.id) there
      where
        by_first : (b : Bool) → (b || has i (map (λ (piece : Piece). piece.id) passed)) ≡ true → (b || has i (map (λ (piece : Piece). piece.id) ps)) ≡ true
        by_first true is = refl
        by_first false is = more is

module _ (h : HeaderValue) (e n : ℕ) where
  ids-are : (numbers : List ℕ) → map (λ (piece : Piece). piece.id) (map (piece_at h e n) numbers) ≡ numbers
  ids-are [] = refl
  ids-are (number ∷ numbers) = ap (λ l. number ∷ l) (ids-are numbers)

  -- ranks of a piece are some of all
  ranks-below : (test : Piece → Bool) (numbers : List ℕ) →
      AllByRecursion (λ rank. rank < n) (option_map_or (λ (piece : Piece). piece.ranks) (find test (map (piece_at h e n) numbers)) [])
  ranks-below test [] = tt
  ranks-below test (number ∷ numbers) = by_test (test (piece_at h e n number)) (ranks-below test numbers)
    where
      rest : Option Piece
      rest = find test (map (piece_at h e n) numbers)

      by_test : (b : Bool) → AllByRecursion (λ rank. rank < n) (option_map_or (λ (piece : Piece). piece.ranks) rest []) →
          AllByRecursion (λ rank. rank < n) (option_map_or (λ (piece : Piece). piece.ranks) (cond b (Some (piece_at h e n number)) rest) [])
      by_test true more = below-filter _ n 0 (rank_count h.box n) (omega arith)
      by_test false more = more

  -- no file and no piece stands twice, and these are all pieces of the files
  pub are_all : IsDivided h e n → AreAll (setting_of h e n) (map (λ (piece : Piece). piece.id) (pieces_of h e n)) n
  unfolding setting_of
  are_all is = record {
    files_apart = (layers_ok h e n is).apart;
    pieces_apart = subst (IsDistinct nat_eq) (sym (ids-are numbers)) (distinct-filter (has_piece h.mask h.box e) 0 (2 ^ (length h.mask - e)));
    covered = all_from _ _ (λ file there. all_from _ (pieces_in_file h e n file) (λ i here. stands (λ piece. reaches h piece.region file) (pieces_of h e n) i here));
    below = all_from _ _ (λ i there. ranks-below _ numbers);
  }
    where
      numbers : List ℕ
      numbers = filter (has_piece h.mask h.box e) (range_with_len 0 (2 ^ (length h.mask - e)))
