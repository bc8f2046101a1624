-- What stands in the table of an aggregator to which some pieces came.
use Rattle.std.proofs.Common.{◌≡◌, ℕ, ◌<◌, Bool, true, false, cond, ◌&&◌, ◌||◌, nat_eq, List, [], ◌∷◌, length, map, refl, sym, ap, ◌∙◌, subst, arith, inl, inr, eqb-true}
use Rattle.std.specs.Prelude.{◌==◌, replicate}
use Rattle.std.specs.List.{AllByRecursion, list_any, range_with_len}
use Rattle.std.specs.Option.{is_some}
use Rattle.std.proofs.lemmas.Cmp.{nat_eq_equiv}
use Rattle.std.proofs.lemmas.List.Elements.{recursion_from_All}
use Rattle.idx_header.specs.Header.{HeaderValue, sample_bytes_of, volume_bytes}
use Rattle.idx_layout.specs.Step.{volume_of_raw}
use Rattle.idx_pieces.specs.Pieces.{pieces_of}
use Rattle.idx_pieces.specs.Runs.{HasSamples, file_addresses, sample_at_address}
use Rattle.idx_pieces.specs.Samples.{raw_sample}
use Rattle.idx_pieces.specs.declared.run.Run.{Run}
use Rattle.idx_dock.specs.declared.awaited.Awaited.{Awaited}
use Rattle.idx_dock.specs.Content.{dock_sample, runs_in, sample_among}
use Rattle.idx_dock.specs.Dock.{DockValue, IsDock, awaited_of, piece_at_address, reaching, undelivered}
use Rattle.idx_dock.specs.Next.{IsOneOf}
use Rattle.idx_dock.proofs.ApartLemmas.{IsIn}
use Rattle.idx_dock.proofs.PartialLemmas.{partial_sample}
use Rattle.idx_events.specs.Lists.{has, has_pair}
use Rattle.idx_events.specs.Volumes.{dock_of}
use Rattle.idx_events.proofs.ListLemmas.{map-agree}
use Rattle.idx_core_model.specs.Headline.{IsDivided}
use Rattle.idx_core_model.specs.Layers.{pieces_in_file, setting_of}
use Rattle.idx_core_model.proofs.FileLemmas.{volume_is}
use Rattle.idx_core_model.proofs.PieceLemmas.{IsCovered, all_covered, all_range}
use Rattle.idx_core_layers.specs.Division.{DivisionValue, layers_of}
use Rattle.idx_core_steps.specs.Steps.{IsSlot, SlotValue, dock_table}
use Rattle.idx_core_steps.proofs.PlaceLemmas.{any-map}
use Rattle.idx_core_steps.proofs.SlotLemmas.{any-agree, awaited-ids}

each-in : (P : ℕ → Type 0) (xs : List ℕ) → ((a : ℕ) → IsIn xs a → P a) → AllByRecursion P xs
each-in P [] f = tt
each-in P (x ∷ xs) f = (f x (inl refl), each-in P xs (λ a there. f a (inr there)))

at-in : (P : ℕ → Type 0) (xs : List ℕ) (a : ℕ) → IsIn xs a → AllByRecursion P xs → P a
at-in P [] a here all = absurd here
at-in P (x ∷ xs) a (inl same) all = subst P same all.0
at-in P (x ∷ xs) a (inr there) all = at-in P xs a there all.1

same-conds : {X : Type 0} (b c : Bool) (x z : X) → x ≡ z → cond b x z ≡ cond c x z
same-conds true true x z e = refl
same-conds true false x z e = e
same-conds false true x z e = sym e
same-conds false false x z e = refl

or-and : (a b : Bool) → (b || (a && b)) ≡ b
or-and true true = refl
or-and true false = refl
or-and false true = refl
or-and false false = refl

-- where what came of each piece goes by its id, so does what came of one
came-any : (f : ℕ → Bool) (q : ℕ) (awaited : List Awaited) → AllByRecursion (λ a. is_some a.runs ≡ f a.piece) awaited →
    list_any (λ w. (w.piece == q) && is_some w.runs) awaited ≡ (list_any (λ w. w.piece == q) awaited && f q)
came-any f q [] came = refl
came-any f q (a ∷ awaited) came =
    ap (λ b. ((a.piece == q) && b) || list_any (λ w. (w.piece == q) && is_some w.runs) awaited) came.0
    ∙ ap (λ b. ((a.piece == q) && f a.piece) || b) (came-any f q awaited came.1)
    ∙ by_test (a.piece == q) refl
  where
    by_test : (b : Bool) → (a.piece == q) ≡ b → ((b && f a.piece) || (list_any (λ w. w.piece == q) awaited && f q)) ≡ ((b || list_any (λ w. w.piece == q) awaited) && f q)
    by_test true here = ap (λ n. f n || (list_any (λ w. w.piece == q) awaited && f q)) (eqb-true a.piece q here) ∙ or-and (list_any (λ w. w.piece == q) awaited) (f q)
    by_test false here = refl

module _ (k : DockValue) (e n : ℕ) (raw : List ℕ) (shipped : List (ℕ × ℕ)) (is : IsDock k) (divided : IsDivided k.header e n)
    (same : map undelivered k.awaited ≡ map awaited_of (reaching k.header k.file (pieces_of k.header e n))) (whole : length raw ≡ volume_bytes k.header)
    (samples : (r : Run) → IsOneOf (runs_in k.awaited) r → HasSamples k.header (raw_sample k.header raw) r)
    (came : AllByRecursion (λ a. is_some a.runs ≡ has_pair (a.piece, k.file) shipped) k.awaited) where
  awaits : (q : ℕ) → has q (pieces_in_file k.header e n k.file) ≡ list_any (λ w. w.piece == q) k.awaited
  awaits q =
      ap (has q) (sym (awaited-ids k.awaited (reaching k.header k.file (pieces_of k.header e n)) same))
      ∙ any-map (λ (a : Awaited). a.piece) (nat_eq q) k.awaited
      ∙ any-agree (λ a. nat_eq q a.piece) (λ a. a.piece == q) (λ a. nat_eq_equiv.symm q a.piece) k.awaited

  point : (field a : ℕ) → field < length k.header.fields → IsIn (file_addresses k.header k.file) a → sample_among k.header (runs_in k.awaited) field a ≡
      cond (has_pair (piece_at_address k.header e a, k.file) shipped) (sample_at_address k.header (raw_sample k.header raw) field a) (replicate (sample_bytes_of k.header field) 0)
  point field a known there =
      let q : ℕ = piece_at_address k.header e a in
      let x : List ℕ = sample_at_address k.header (raw_sample k.header raw) field a in
      let z : List ℕ = replicate (sample_bytes_of k.header field) 0 in
      partial_sample k is e n divided.digits same (volume_of_raw k.header raw) (volume_is k.header raw whole) samples field a known there
      ∙ ap (λ b. cond b x z) (came-any (λ p. has_pair (p, k.file) shipped) q k.awaited came)
      ∙ elim (at-in (IsCovered k.header e n k.file) (file_addresses k.header k.file) a there (all_covered k.header e n k.file divided.header divided.digits)) [
        | inl inside ↦ ap (λ b. cond (b && has_pair (q, k.file) shipped) x z) (sym (awaits q) ∙ inside)
        | inr zeros ↦ same-conds (list_any (λ w. w.piece == q) k.awaited && has_pair (q, k.file) shipped) (has_pair (q, k.file) shipped) x z (zeros raw field)
      ]

  whole-table : dock_table k ≡ dock_of (setting_of k.header e n) raw shipped k.file
  unfolding setting_of
  whole-table =
      let g : ℕ → ℕ → List ℕ = λ field a.
      cond (has_pair (piece_at_address k.header e a, k.file) shipped) (sample_at_address k.header (raw_sample k.header raw) field a) (replicate (sample_bytes_of k.header field) 0) in
      let addresses : List ℕ = file_addresses k.header k.file in
      map-agree (λ field. map (dock_sample k field) addresses) (λ field. map (g field) addresses) (range_with_len 0 (length k.header.fields))
      (all_range (λ field. map (dock_sample k field) addresses ≡ map (g field) addresses) 0 (length k.header.fields)
      (λ field from to. map-agree (dock_sample k field) (g field) addresses
      (each-in (λ a. dock_sample k field a ≡ g field a) addresses (λ a there. point field a (omega (arith, to)) there))))

-- the table of a slot has the samples of what was shipped to it, and zeros elsewhere
pub slot-table : (d : DivisionValue) (raw : List ℕ) (shipped : List (ℕ × ℕ)) (s : SlotValue) → IsDivided d.header d.digits d.ranks → length raw ≡ volume_bytes d.header → IsDock s.dock → IsSlot d raw shipped s →
    dock_table s.dock ≡ dock_of (layers_of d) raw shipped s.dock.file
slot-table d raw shipped s divided whole valid is =
    let back : d.header ≡ s.dock.header = sym is.header in
    whole-table s.dock d.digits d.ranks raw shipped valid
    (subst (λ (h : HeaderValue). IsDivided h d.digits d.ranks) back divided)
    (subst (λ (h : HeaderValue). map undelivered s.dock.awaited ≡ map awaited_of (reaching h s.dock.file (pieces_of h d.digits d.ranks))) back is.awaited)
    (subst (λ (h : HeaderValue). length raw ≡ volume_bytes h) back whole)
    (subst (λ (h : HeaderValue). (r : Run) → IsOneOf (runs_in s.dock.awaited) r → HasSamples h (raw_sample h raw) r) back is.samples)
    (recursion_from_All (λ a. is_some a.runs ≡ has_pair (a.piece, s.dock.file) shipped) s.dock.awaited is.came)
    ∙ ap (λ (h : HeaderValue). dock_of (setting_of h d.digits d.ranks) raw shipped s.dock.file) is.header
