-- Docks to which the pieces up to an id were delivered.
use Rattle.std.proofs.Common.{◌≡◌, ℕ, ◌+◌, ◌≤◌, Bool, true, false, List, [], ◌∷◌, ◌++◌, length, map, take, refl, sym, ap, ◌∙◌, arith}
use Rattle.std.specs.Prelude.{◌&&◌, ◌||◌, not, nat_le, nat_lt, All, sum_by, if◌then◌else◌}
use Rattle.std.specs.List.{list_any}
use Rattle.std.specs.Option.{is_some}
use Rattle.std.proofs.lemmas.Bool.{le-leb, lt-leb, ltb-false, ltb-true}
use Rattle.std.proofs.lemmas.List.Elements.{All-head, All-tail}
use Rattle.std.proofs.lemmas.List.Sorted.{sum_by-IsPermutation}
use Rattle.std.proofs.lemmas.List.Sums.{sum_by-append, sum_by-cons}
use Rattle.idx_header.specs.Header.{HeaderValue}
use Rattle.idx_layout.specs.Files.{length_of_file}
use Rattle.idx_layout.specs.OfHeader.{placing_of}
use Rattle.idx_pieces.specs.declared.piece.Piece.{Piece}
use Rattle.idx_dock.specs.Dock.{DockValue, awaited_of, is_open_at, new_dock, reaching, undelivered}
use Rattle.idx_dock.specs.declared.awaited.Awaited.{Awaited}
use Rattle.idx_aggregate.specs.Docks.{has_id}
use Rattle.idx_gather.specs.States.{HasAllBut, IsDockOf}
use Rattle.idx_gather.specs.Streams.{AreOpen, open_bytes}
use Rattle.idx_memory_bound.specs.Open.{begun_bytes, is_begun}

not_lt : (a b : ℕ) → not (nat_lt a b) ≡ nat_le b a
not_lt a b = by_test (nat_lt a b) refl
  where
    by_test : (t : Bool) → nat_lt a b ≡ t → not t ≡ nat_le b a
    by_test true is = sym (lt-leb b a (ltb-true a b is))
    by_test false is = sym (le-leb b a (ltb-false a b is))

not_not : (b : Bool) → not (not b) ≡ b
not_not true = refl
not_not false = refl

module _ (id : ℕ) (left : List Piece) where
  abbrev pub IsDelivered : Awaited → Type 0
  IsDelivered a = is_some a.runs ≡ not (has_id left a.piece)

  abbrev pub IsLeft : Awaited → Type 0
  IsLeft a = has_id left a.piece ≡ nat_lt id a.piece

  some_delivered : (xs : List Awaited) → All IsDelivered xs → All IsLeft xs → list_any (λ a. is_some a.runs) xs ≡ list_any (λ a. nat_le a.piece id) xs
  some_delivered [] all are = refl
  some_delivered (x ∷ xs) all are =
      ap (λ (b : Bool). b || list_any (λ a. is_some a.runs) xs) (All-head IsDelivered x xs all ∙ ap not (All-head IsLeft x xs are) ∙ not_lt id x.piece)
      ∙ ap (λ (b : Bool). nat_le x.piece id || b) (some_delivered xs (All-tail IsDelivered x xs all) (All-tail IsLeft x xs are))

  some_missing : (xs : List Awaited) → All IsDelivered xs → All IsLeft xs → list_any (λ a. not (is_some a.runs)) xs ≡ list_any (λ a. nat_lt id a.piece) xs
  some_missing [] all are = refl
  some_missing (x ∷ xs) all are =
      ap (λ (b : Bool). not b || list_any (λ a. not (is_some a.runs)) xs) (All-head IsDelivered x xs all ∙ ap not (All-head IsLeft x xs are))
      ∙ ap (λ (b : Bool). b || list_any (λ a. not (is_some a.runs)) xs) (not_not (nat_lt id x.piece))
      ∙ ap (λ (b : Bool). nat_lt id x.piece || b) (some_missing xs (All-tail IsDelivered x xs all) (All-tail IsLeft x xs are))

  begun_is_open : (d : DockValue) → HasAllBut left d → All IsLeft d.awaited → is_begun d ≡ is_open_at id d
  begun_is_open d all are =
      ap (λ (b : Bool). b && list_any (λ a. not (is_some a.runs)) d.awaited) (some_delivered d.awaited all are)
      ∙ ap (λ (b : Bool). list_any (λ a. nat_le a.piece id) d.awaited && b) (some_missing d.awaited all are)

  pub begun_are_open : (h : HeaderValue) (docks : List DockValue) → All (HasAllBut left) docks → All (λ d. All IsLeft d.awaited) docks → begun_bytes h docks ≡ open_bytes h docks id
  begun_are_open h [] all are = refl
  begun_are_open h (d ∷ docks) all are =
      let bytes : Bool → ℕ = λ b. if b then length_of_file (placing_of h) d.file else 0 in
      sum_by-cons (λ x. if is_begun x then length_of_file (placing_of h) x.file else 0) d docks
      ∙ ap (λ (b : Bool). bytes b + begun_bytes h docks) (begun_is_open d (All-head (HasAllBut left) d docks all) (All-head (λ x. All IsLeft x.awaited) d docks are))
      ∙ ap (λ (n : ℕ). bytes (is_open_at id d) + n) (begun_are_open h docks (All-tail (HasAllBut left) d docks all) (All-tail (λ x. All IsLeft x.awaited) d docks are))
      ∙ sym (sum_by-cons (λ x. if is_open_at id x then length_of_file (placing_of h) x.file else 0) d docks)

-- how many bytes the file has where the pieces with an id up to this one were delivered to its dock alone, and it is begun and not
-- complete
abbrev pub file_bytes : HeaderValue → List Piece → ℕ → ℕ → ℕ
file_bytes h pieces id file = if is_open_at id (new_dock h pieces file) then length_of_file (placing_of h) file else 0

-- a test of pieces is passed alike where nothing was delivered
any_undelivered : (p : ℕ → Bool) (xs : List Awaited) → list_any (λ a. p a.piece) (map undelivered xs) ≡ list_any (λ a. p a.piece) xs
any_undelivered p [] = refl
any_undelivered p (x ∷ xs) = ap (λ (b : Bool). p x.piece || b) (any_undelivered p xs)

module _ (h : HeaderValue) (pieces : List Piece) (id : ℕ) where
  any_awaited : (p : ℕ → Bool) (d : DockValue) → IsDockOf h pieces d → list_any (λ a. p a.piece) d.awaited ≡ list_any (λ a. p a.piece) (map awaited_of (reaching h d.file pieces))
  any_awaited p d is =
      sym (any_undelivered p d.awaited)
      ∙ ap (λ (xs : List Awaited). list_any (λ a. p a.piece) xs) is.awaited

  open_same : (d : DockValue) → IsDockOf h pieces d → is_open_at id d ≡ is_open_at id (new_dock h pieces d.file)
  open_same d is =
      ap (λ (b : Bool). b && list_any (λ a. nat_lt id a.piece) d.awaited) (any_awaited (λ n. nat_le n id) d is)
      ∙ ap (λ (b : Bool). list_any (λ a. nat_le a.piece id) (map awaited_of (reaching h d.file pieces)) && b) (any_awaited (λ n. nat_lt id n) d is)

  -- the bytes of docks are those of their files
  docks_files : (docks : List DockValue) → All (IsDockOf h pieces) docks → open_bytes h docks id ≡ sum_by (file_bytes h pieces id) (map (λ d. d.file) docks)
  docks_files [] all = refl
  docks_files (d ∷ docks) all =
      let bytes : Bool → ℕ = λ b. if b then length_of_file (placing_of h) d.file else 0 in
      sum_by-cons (λ x. if is_open_at id x then length_of_file (placing_of h) x.file else 0) d docks
      ∙ ap (λ (b : Bool). bytes b + open_bytes h docks id) (open_same d (All-head (IsDockOf h pieces) d docks all))
      ∙ ap (λ (n : ℕ). file_bytes h pieces id d.file + n) (docks_files docks (All-tail (IsDockOf h pieces) d docks all))
      ∙ sym (sum_by-cons (file_bytes h pieces id) d.file (map (λ x. x.file) docks))

  -- so are those of new docks
  new_files : (files : List ℕ) → open_bytes h (map (new_dock h pieces) files) id ≡ sum_by (file_bytes h pieces id) files
  new_files [] = refl
  new_files (file ∷ files) =
      sum_by-cons (λ x. if is_open_at id x then length_of_file (placing_of h) x.file else 0) (new_dock h pieces file) (map (new_dock h pieces) files)
      ∙ ap (λ (n : ℕ). file_bytes h pieces id file + n) (new_files files)
      ∙ sym (sum_by-cons (file_bytes h pieces id) file files)

  pub open_takes_no_more : (most : ℕ) (left : List Piece) (files numbers : List ℕ) (docks : List DockValue) → AreOpen h pieces files numbers left docks →
      open_bytes h (map (new_dock h pieces) (take (length docks + length numbers) files)) id ≤ most → open_bytes h docks id ≤ most
  open_takes_no_more most left files numbers docks are few =
      let window = take (length docks + length numbers) files in
      let own = map (λ (d : DockValue). d.file) docks in
      omega (
        arith,
        few,
        new_files window,
        docks_files docks are.docks_are,
        sum_by-append (file_bytes h pieces id) own numbers,
        sum_by-IsPermutation (file_bytes h pieces id) window (own ++ numbers) are.whole,
      )

pub begun_take_no_more : (h : HeaderValue) (id most : ℕ) (pieces left : List Piece) (files numbers : List ℕ) (docks : List DockValue) → AreOpen h pieces files numbers left docks →
    All (λ d. All (λ a. has_id left a.piece ≡ nat_lt id a.piece) d.awaited) docks →
    open_bytes h (map (new_dock h pieces) (take (length docks + length numbers) files)) id ≤ most → begun_bytes h docks ≤ most
begun_take_no_more h id most pieces left files numbers docks are behind few =
    omega (arith, begun_are_open id left h docks are.delivered behind, open_takes_no_more h pieces id most left files numbers docks are few)
