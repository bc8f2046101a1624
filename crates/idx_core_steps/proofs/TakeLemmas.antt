-- What a shipment needs of an aggregator, and what it makes of it.
use Rattle.std.proofs.Common.{◌≡◌, ℕ, ◌+◌, ◌-◌, ◌^◌, ◌<◌, Bool, true, false, cond, ◌&&◌, ◌||◌, nat_eq, List, [], ◌∷◌, ◌++◌, length, map, find, filter, Some, None, refl, sym, ap, ◌∙◌, subst, arith, inl, inr, eqb-true, eq-eqb}
use Rattle.std.specs.Prelude.{◌==◌}
use Rattle.std.specs.List.{AllByRecursion, list_any, range_with_len}
use Rattle.std.specs.Option.{is_some}
use Rattle.std.proofs.lemmas.Bool.{false≢true, ne_eqb}
use Rattle.std.proofs.lemmas.List.Elements.{All-from_recursion, recursion_from_All}
use Rattle.idx_header.specs.Header.{volume_bytes}
use Rattle.idx_pieces.specs.Pieces.{IsPiece, has_piece, piece_at, piece_region, pieces_of}
use Rattle.idx_pieces.specs.Runs.{HasSamples}
use Rattle.idx_pieces.specs.Samples.{raw_sample}
use Rattle.idx_pieces.specs.declared.piece.Piece.{Piece}
use Rattle.idx_pieces.specs.declared.run.Run.{Run}
use Rattle.idx_dock.specs.declared.awaited.Awaited.{Awaited}
use Rattle.idx_dock.specs.Content.{runs_in}
use Rattle.idx_dock.specs.Dock.{DockValue, IsDivision, awaited_at, delivered, dock_of, reaching, with_runs}
use Rattle.idx_dock.specs.Next.{IsOneOf}
use Rattle.idx_dock.proofs.ContentLemmas.{RiseFrom}
use Rattle.idx_aggregate.proofs.AwaitedLemmas.{AreKnown, are_known, pieces_stay, runs_put}
use Rattle.idx_events.specs.Lists.{has_pair}
use Rattle.idx_events.proofs.ListLemmas.{Each-found, has_pair-snoc}
use Rattle.idx_core_model.specs.Headline.{IsDivided}
use Rattle.idx_core_layers.specs.Division.{DivisionValue}
use Rattle.idx_core_deliver.specs.Deliver.{HasTaken}
use Rattle.idx_core_steps.specs.Steps.{CanTake, IsSlot, SlotValue}
use Rattle.idx_core_steps.proofs.PlaceLemmas.{any-map}
use Rattle.idx_core_steps.proofs.SlotLemmas.{any-found, awaited-ids, unsome}

-- ---- pieces

any-kept : {X : Type 0} (kept test : X → Bool) (xs : List X) → list_any test (filter kept xs) ≡ true → list_any test xs ≡ true
any-kept kept test [] h = h
any-kept kept test (x ∷ xs) h = by_test (any-kept kept test xs) (kept x) (test x) refl h
  where
    by_test : (list_any test (filter kept xs) ≡ true → list_any test xs ≡ true) → (b c : Bool) → test x ≡ c → list_any test (cond b (x ∷ filter kept xs) (filter kept xs)) ≡ true → (c || list_any test xs) ≡ true
    by_test more b true is k = refl
    by_test more true false is k = more (sym (ap (λ c. c || list_any test (filter kept xs)) is) ∙ k)
    by_test more false false is k = more k

module _ (d : DivisionValue) (divided : IsDivided d.header d.digits d.ranks) where
  pieces : List Piece
  pieces = pieces_of d.header d.digits d.ranks

  -- what is known of the pieces of a division
  pub record IsKnown (piece : Piece) : Type 0 where
    pub is : IsPiece d.header piece
    pub region : piece.region ≡ piece_region d.header.mask d.header.box d.digits piece.id

  known-of : (ids : List ℕ) → AllByRecursion IsKnown (map (piece_at d.header d.digits d.ranks) (filter (has_piece d.header.mask d.header.box d.digits) ids))
  known-of [] = tt
  known-of (id ∷ ids) = by_test (has_piece d.header.mask d.header.box d.digits id) refl (known-of ids)
    where
      rest : List ℕ
      rest = filter (has_piece d.header.mask d.header.box d.digits) ids

      by_test : (b : Bool) → has_piece d.header.mask d.header.box d.digits id ≡ b → AllByRecursion IsKnown (map (piece_at d.header d.digits d.ranks) rest) →
          AllByRecursion IsKnown (map (piece_at d.header d.digits d.ranks) (cond b (id ∷ rest) rest))
      by_test true there more =
          (record { is = record { e = d.digits; within = divided.digits; ranks = divided.ranks; some = there; is = refl }; region = refl }, more)
      by_test false there more = more

  piece-known : (piece : ℕ) (given : Piece) → find (λ p. p.id == piece) (pieces_of d.header d.digits d.ranks) ≡ Some given → IsKnown given
  piece-known piece given found =
      Each-found (λ p. p.id == piece) IsKnown (pieces_of d.header d.digits d.ranks) given (known-of (range_with_len 0 (2 ^ (length d.header.mask - d.digits)))) found

  abbrev division : IsDivision d.header (pieces_of d.header d.digits d.ranks)
  division = record { e = d.digits; ranks = d.ranks; within = divided.digits; some = divided.ranks; is = refl }

  module _ (raw : List ℕ) (shipped : List (ℕ × ℕ)) (s : SlotValue) (is : IsSlot d raw shipped s) (piece : ℕ) (awaits : is_some (awaited_at s.dock piece) ≡ true) where
    any-awaited : list_any (λ a. a.piece == piece) s.dock.awaited ≡ true
    any-awaited = any-found (λ a. a.piece == piece) s.dock.awaited ∙ awaits

    -- an awaited piece is one of the division
    pub piece-there : find (λ p. p.id == piece) (pieces_of d.header d.digits d.ranks) ≡ None → ⊥
    piece-there none =
        let reached : List Piece = reaching d.header s.dock.file (pieces_of d.header d.digits d.ranks) in
        let ids : map (λ (a : Awaited). a.piece) s.dock.awaited ≡ map (λ (p : Piece). p.id) reached = awaited-ids s.dock.awaited reached is.awaited in
        let some : list_any (λ p. p.id == piece) (pieces_of d.header d.digits d.ranks) ≡ true =
        any-kept _ (λ p. p.id == piece) (pieces_of d.header d.digits d.ranks)
        (sym (any-map (λ (p : Piece). p.id) (λ n. n == piece) reached) ∙ ap (list_any (λ n. n == piece)) (sym ids) ∙ any-map (λ (a : Awaited). a.piece) (λ n. n == piece) s.dock.awaited ∙ any-awaited) in
        false≢true (sym (ap is_some none) ∙ sym (any-found (λ p. p.id == piece) (pieces_of d.header d.digits d.ranks)) ∙ some)

    -- so its samples can be delivered, if it was not shipped before
    pub can-take : (given : Piece) → find (λ p. p.id == piece) (pieces_of d.header d.digits d.ranks) ≡ Some given → given.id ≡ piece → has_pair (piece, s.dock.file) shipped ≡ false → length raw ≡ volume_bytes d.header →
        CanTake d.header raw given s.dock
    can-take given found id unshipped whole =
        let known = piece-known piece given found in
        let all : AreKnown d.header d.digits s.dock.file (pieces_of d.header d.digits d.ranks) s.dock.awaited =
        are_known d.header (pieces_of d.header d.digits d.ranks) division s.dock.file s.dock.awaited is.awaited in
        record {
          header = is.header;
          is = known.is;
          file = is.among;
          awaited = ap (λ n. list_any (λ a. a.piece == n) s.dock.awaited) id ∙ any-awaited;
          region = λ k x inside same. (
            all.regions k x inside ∙ ap (piece_region d.header.mask d.header.box d.digits) same ∙ sym known.region,
            unsome _ (is.came k x inside ∙ ap (λ n. has_pair (n, s.dock.file) shipped) (same ∙ id) ∙ unshipped),
          );
          whole = whole;
        }

-- ---- what was delivered

All-of_one : (P : Run → Type 0) (runs : List Run) → ((r : Run) → IsOneOf runs r → P r) → AllByRecursion P runs
All-of_one P [] each = tt
All-of_one P (run ∷ runs) each = (each run (inl refl), All-of_one P runs (λ r one. each r (inr one)))

one-of : (P : Run → Type 0) (runs : List Run) → AllByRecursion P runs → (r : Run) → IsOneOf runs r → P r
one-of P [] all r one = absurd one
one-of P (run ∷ runs) all r (inl same) = subst P same all.0
one-of P (run ∷ runs) all r (inr more) = one-of P runs all.1 r more

module _ (was now : ℕ → Bool) (id : ℕ) (more : (n : ℕ) → now n ≡ (was n || nat_eq n id)) where
  or-true : (b : Bool) → (b || true) ≡ true
  or-true true = refl
  or-true false = refl

  or-false : (b : Bool) → (b || false) ≡ b
  or-false true = refl
  or-false false = refl

  -- pieces behind it
  came-past : (low : ℕ) (awaited : List Awaited) → id < low → RiseFrom low (map (λ a. a.piece) awaited) → AllByRecursion (λ a. is_some a.runs ≡ was a.piece) awaited → AllByRecursion (λ a. is_some a.runs ≡ now a.piece) awaited
  came-past low [] less rise came = tt
  came-past low (a ∷ awaited) less rise came = (
    came.0 ∙ sym (more a.piece ∙ ap (λ b. was a.piece || b) (ne_eqb a.piece id (λ same. omega (arith, rise.0))) ∙ or-false (was a.piece)),
    came-past (a.piece + 1) awaited (omega (arith, rise.0)) rise.1 came.1,
  )

  -- the pieces that came are now those before and it
  came-put : (low : ℕ) (runs : List Run) (awaited : List Awaited) → RiseFrom low (map (λ a. a.piece) awaited) → AllByRecursion (λ a. is_some a.runs ≡ was a.piece) awaited →
      AllByRecursion (λ a. is_some a.runs ≡ now a.piece) (with_runs id runs awaited)
  came-put low runs [] rise came = tt
  came-put low runs (a ∷ awaited) rise came = by_test (came-put (a.piece + 1) runs awaited rise.1 came.1) (a.piece == id) refl
    where
      by_test : AllByRecursion (λ w. is_some w.runs ≡ now w.piece) (with_runs id runs awaited) → (b : Bool) → (a.piece == id) ≡ b → AllByRecursion (λ w. is_some w.runs ≡ now w.piece) (cond b (delivered runs a ∷ awaited) (a ∷ with_runs id runs awaited))
      by_test rest true here = (
        sym (more a.piece ∙ ap (λ b. was a.piece || b) here ∙ or-true (was a.piece)),
        came-past (a.piece + 1) awaited (omega (arith, eqb-true a.piece id here)) rise.1 came.1,
      )
      by_test rest false here = (
        came.0 ∙ sym (more a.piece ∙ ap (λ b. was a.piece || b) here ∙ or-false (was a.piece)),
        rest,
      )

and-true : (b : Bool) → (b && true) ≡ b
and-true true = refl
and-true false = refl

and-false : (b : Bool) → (b && false) ≡ false
and-false true = refl
and-false false = refl

or-false-right : (b : Bool) → (b || false) ≡ b
or-false-right true = refl
or-false-right false = refl

module _ (d : DivisionValue) (divided : IsDivided d.header d.digits d.ranks) (raw : List ℕ) (shipped : List (ℕ × ℕ)) (piece file : ℕ) where
  -- the slot of the file after the piece was delivered to it
  pub taken-is : (s new : SlotValue) (id : ℕ) → id ≡ piece → s.dock.file ≡ file → IsSlot d raw shipped s → HasTaken d.header raw id s.dock new.dock → IsSlot d raw (shipped ++ (piece, file) ∷ []) new
  taken-is s new id id_is file_is is taken =
      let all : AreKnown d.header d.digits s.dock.file (pieces_of d.header d.digits d.ranks) s.dock.awaited =
      are_known d.header (pieces_of d.header d.digits d.ranks) (record { e = d.digits; ranks = d.ranks; within = divided.digits; some = divided.ranks; is = refl }) s.dock.file s.dock.awaited is.awaited in
      let P : Run → Type 0 = HasSamples d.header (raw_sample d.header raw) in
      let made : (let z : SlotValue = record { dock = dock_of s.dock.header s.dock.file (with_runs id taken.runs s.dock.awaited); sealed = new.sealed } in IsSlot d raw (shipped ++ (piece, file) ∷ []) z) = record {
        header = is.header;
        among = is.among;
        awaited = pieces_stay id taken.runs s.dock.awaited ∙ is.awaited;
        came = All-from_recursion (λ a. is_some a.runs ≡ has_pair (a.piece, s.dock.file) (shipped ++ (piece, file) ∷ [])) (with_runs id taken.runs s.dock.awaited)
            (came-put (λ n. has_pair (n, s.dock.file) shipped) (λ n. has_pair (n, s.dock.file) (shipped ++ (piece, file) ∷ [])) id
            (λ n. has_pair-snoc (n, s.dock.file) (piece, file) shipped
            ∙ ap (λ b. has_pair (n, s.dock.file) shipped || (nat_eq n piece && b)) (eq-eqb s.dock.file file file_is)
            ∙ ap (λ b. has_pair (n, s.dock.file) shipped || b) (and-true (nat_eq n piece) ∙ ap (nat_eq n) (sym id_is)))
            0 taken.runs s.dock.awaited all.rise (recursion_from_All (λ a. is_some a.runs ≡ has_pair (a.piece, s.dock.file) shipped) s.dock.awaited is.came));
        samples = one-of P (runs_in (with_runs id taken.runs s.dock.awaited))
            (recursion_from_All P (runs_in (with_runs id taken.runs s.dock.awaited))
            (runs_put P id taken.runs s.dock.awaited
            (All-from_recursion P taken.runs (All-of_one P taken.runs taken.samples))
            (All-from_recursion P (runs_in s.dock.awaited) (All-of_one P (runs_in s.dock.awaited) is.samples))));
      } in
      subst (λ (k : DockValue). let z : SlotValue = record { dock = k; sealed = new.sealed } in IsSlot d raw (shipped ++ (piece, file) ∷ []) z) (sym taken.dock) made

  -- the slot of another file
  pub other-is : (s : SlotValue) → nat_eq s.dock.file file ≡ false → IsSlot d raw shipped s → IsSlot d raw (shipped ++ (piece, file) ∷ []) s
  other-is s other is = record {
    header = is.header;
    among = is.among;
    awaited = is.awaited;
    came = λ k x inside. is.came k x inside ∙ same _;
    samples = is.samples;
  }
    where
      same : (n : ℕ) → has_pair (n, s.dock.file) shipped ≡ has_pair (n, s.dock.file) (shipped ++ (piece, file) ∷ [])
      same n = sym (has_pair-snoc (n, s.dock.file) (piece, file) shipped
          ∙ ap (λ b. has_pair (n, s.dock.file) shipped || (nat_eq n piece && b)) other
          ∙ ap (λ b. has_pair (n, s.dock.file) shipped || b) (and-false (nat_eq n piece))
          ∙ or-false-right (has_pair (n, s.dock.file) shipped))
