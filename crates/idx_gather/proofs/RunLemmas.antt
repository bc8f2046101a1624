-- The first run of a list: as many of its elements as fit into the room together, or one.
use Rattle.std.proofs.Common.{◌≡◌, ℕ, zero, suc, ◌+◌, ◌<◌, ◌≤◌, Bool, true, false, cond, inl, inr, List, [], ◌∷◌, length, map, take, drop, ◌==◌, ◌||◌, refl, sym, ap, ◌∙◌, arith}
use Rattle.std.specs.Prelude.{nat_le, slice_index_or, sum}
use Rattle.std.proofs.lemmas.Bool.{leb-false, leb-true}
use Rattle.std.proofs.lemmas.List.Sums.{sum_by-cons}
use Rattle.std.proofs.lemmas.Bool.Decides.{nat_tests}
use Rattle.idx_gather.specs.Windows.{FitOrIsOne, first_run, joins, more_fit, run_count}

-- How many make the first run, where so many of the first elements are known to, which use so much of the room.
abbrev pub IsRunSoFar : {X : Type 0} → (X → ℕ) → ℕ → List X → ℕ → ℕ → Type 0
IsRunSoFar size room xs zero used = used ≡ 0
IsRunSoFar size room xs (suc count) used = run_count size room xs ≡ suc count + more_fit size room used (drop (suc count) xs)

-- the run has no more elements than there are
pub more_within : {X : Type 0} (size : X → ℕ) (room used : ℕ) (xs : List X) → more_fit size room used xs ≤ length xs
more_within size room used [] = omega arith
more_within size room used (x ∷ xs) = by_test (nat_le (used + size x) room) (more_within size room (used + size x) xs)
  where
    by_test : (b : Bool) → more_fit size room (used + size x) xs ≤ length xs → cond b (suc (more_fit size room (used + size x) xs)) 0 ≤ suc (length xs)
    by_test true rest = omega (arith, rest)
    by_test false rest = omega arith

pub run_within : {X : Type 0} (size : X → ℕ) (room : ℕ) (xs : List X) → run_count size room xs ≤ length xs
run_within size room [] = omega arith
run_within size room (x ∷ xs) = omega (arith, more_within size room (size x) xs)

sum_cons : (n : ℕ) (ns : List ℕ) → sum (n ∷ ns) ≡ n + sum ns
sum_cons n ns = sum_by-cons (λ k. k) n ns

-- those that fit behind some do not use more than the room
more_fits : {X : Type 0} (size : X → ℕ) (room used : ℕ) (xs : List X) → used ≤ room → used + sum (map size (take (more_fit size room used xs) xs)) ≤ room
more_fits size room used [] fits = omega (arith, fits)
more_fits size room used (x ∷ xs) fits = by_test (nat_le (used + size x) room) refl (more_fits size room (used + size x) xs)
  where
    by_test : (b : Bool) → nat_le (used + size x) room ≡ b
        → (used + size x ≤ room → (used + size x) + sum (map size (take (more_fit size room (used + size x) xs) xs)) ≤ room)
        → used + sum (map size (take (cond b (suc (more_fit size room (used + size x) xs)) 0) (x ∷ xs))) ≤ room
    by_test true is rest =
        let whole = rest (leb-true (used + size x) room is) in
        let sums = sum_cons (size x) (map size (take (more_fit size room (used + size x) xs) xs)) in omega (arith, whole, sums)
    by_test false is rest = omega (arith, fits)

-- none fits behind what uses more than the room
none_more : {X : Type 0} (size : X → ℕ) (room used : ℕ) (xs : List X) → room < used → more_fit size room used xs ≡ 0
none_more size room used [] over = refl
none_more size room used (x ∷ xs) over = by_test (nat_le (used + size x) room) refl
  where
    by_test : (b : Bool) → nat_le (used + size x) room ≡ b → cond b (suc (more_fit size room (used + size x) xs)) 0 ≡ 0
    by_test true is = let fits : used + size x ≤ room = leb-true (used + size x) room is in absurd (omega (arith, fits, over))
    by_test false is = refl

-- a run takes no more than the room, or is one
pub run_fits : {X : Type 0} (size : X → ℕ) (room : ℕ) (xs : List X) → FitOrIsOne size room (first_run size room xs)
run_fits size room [] = inl (omega arith)
run_fits size room (x ∷ xs) = by_test (nat_le (size x) room) refl
  where
    by_test : (b : Bool) → nat_le (size x) room ≡ b → FitOrIsOne size room (first_run size room (x ∷ xs))
    by_test true is =
        let whole = more_fits size room (size x) xs (leb-true (size x) room is) in
        let sums = sum_cons (size x) (map size (take (more_fit size room (size x) xs) xs)) in inl (omega (arith, whole, sums))
    by_test false is =
        let over : room < size x = leb-false (size x) room is in
        inr (ap (λ n. suc (length (take n xs))) (none_more size room (size x) xs over))

-- behind the first, a thing joins where it fits
later : (count : ℕ) (b x : Bool) → ((suc count == 0) || b) ≡ x → b ≡ x
later count b x e =
    let no : (suc count == 0) ≡ false = grind (arith, nat_tests) in
    sym (ap (λ z. z || b) no) ∙ e

module _ {X : Type 0} (size : X → ℕ) (room : ℕ) where
  -- what is behind the first elements, of which the next one is this
  drop_more : (xs : List X) (n : ℕ) (d : X) → n < length xs → drop n xs ≡ slice_index_or xs n d ∷ drop (suc n) xs
  drop_more [] n d within = absurd (omega arith)
  drop_more (x ∷ xs) zero d within = refl
  drop_more (x ∷ xs) (suc n) d within = drop_more xs n d (omega arith)

  -- one more fits
  pub run_more : (xs : List X) (count used : ℕ) (d : X) → count < length xs → IsRunSoFar size room xs count used
      → joins count used (size (slice_index_or xs count d)) room ≡ true
      → IsRunSoFar size room xs (suc count) (used + size (slice_index_or xs count d))
  run_more [] count used d within so fits = absurd (omega arith)
  run_more (x ∷ xs) zero used d within so fits =
      let same : size x ≡ used + size x = omega (arith, so) in
      let step : more_fit size room (size x) xs ≡ more_fit size room (used + size x) xs = ap (λ u. more_fit size room u xs) same in
      omega (arith, step)
  run_more (x ∷ xs) (suc count) used d within so fits =
      let y : X = slice_index_or (x ∷ xs) (suc count) d in
      let next : drop (suc count) (x ∷ xs) ≡ y ∷ drop (suc (suc count)) (x ∷ xs) = drop_more (x ∷ xs) (suc count) d within in
      let step : more_fit size room used (drop (suc count) (x ∷ xs)) ≡ suc (more_fit size room (used + size y) (drop (suc (suc count)) (x ∷ xs))) =
      ap (more_fit size room used) next ∙ ap (λ b. cond b (suc (more_fit size room (used + size y) (drop (suc (suc count)) (x ∷ xs)))) 0) (later count (nat_le (used + size y) room) true fits) in
      omega (arith, so, step)

  -- no more fits
  pub run_stops : (xs : List X) (count used : ℕ) (d : X) → count < length xs → IsRunSoFar size room xs count used
      → joins count used (size (slice_index_or xs count d)) room ≡ false → run_count size room xs ≡ count
  run_stops xs zero used d within so full = let wrong : true ≡ false = full in absurd (cc)
  run_stops xs (suc count) used d within so full =
      let y : X = slice_index_or xs (suc count) d in
      let next : drop (suc count) xs ≡ y ∷ drop (suc (suc count)) xs = drop_more xs (suc count) d within in
      let step : more_fit size room used (drop (suc count) xs) ≡ 0 =
      ap (more_fit size room used) next ∙ ap (λ b. cond b (suc (more_fit size room (used + size y) (drop (suc (suc count)) xs))) 0) (later count (nat_le (used + size y) room) false full) in
      omega (arith, so, step)

  -- there is no more
  pub run_ends : (xs : List X) (count used : ℕ) → length xs ≤ count → count ≤ length xs → IsRunSoFar size room xs count used → run_count size room xs ≡ count
  run_ends [] zero used all within so = refl
  run_ends (x ∷ xs) zero used all within so = absurd (omega arith)
  run_ends xs (suc count) used all within so =
      let step : more_fit size room used (drop (suc count) xs) ≡ 0 = ap (more_fit size room used) (drop_all xs (suc count) all) in
      omega (arith, so, step)
    where
      drop_all : (ys : List X) (n : ℕ) → length ys ≤ n → drop n ys ≡ []
      drop_all [] zero few = refl
      drop_all [] (suc n) few = refl
      drop_all (y ∷ ys) zero few = absurd (omega arith)
      drop_all (y ∷ ys) (suc n) few = drop_all ys n (omega arith)
