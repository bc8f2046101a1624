-- What stands at an address of a dock to which some of its pieces came.
use Rattle.std.proofs.Common.{◌≡◌, ℕ, ◌+◌, ◌-◌, ◌*◌, ◌^◌, ◌<◌, ◌≤◌, Bool, true, false, cond, ◌&&◌, ◌||◌, List, [], ◌∷◌, length, map, take, drop, refl, sym, ap, ◌∙◌, subst, arith, inl, inr, Option, Some, None, eqb-true, eq-eqb}
use Rattle.std.specs.Prelude.{◌==◌, filter, find, replicate}
use Rattle.std.specs.List.{list_any, range_with_len}
use Rattle.std.specs.Option.{ForSome, is_some, option_map_or, unwrap_or}
use Rattle.std.specs.Cmp.Derive.{both_true}
use Rattle.std.proofs.lemmas.List.Elements.{All-head, All-tail}
use Rattle.idx_geom.specs.Region.{LiesIn, points}
use Rattle.idx_geom.specs.Volume.{IsVolume}
use Rattle.idx_geom.proofs.LiesInLemmas.{length_from_LiesIn}
use Rattle.idx_fields.specs.Field.{sample_bytes}
use Rattle.idx_hz.specs.Address.{hz_address, z_address}
use Rattle.idx_hz.proofs.ZLemmas.{z_address-lt}
use Rattle.std.proofs.lemmas.Nat.{shr_below}
use Rattle.idx_hz.proofs.AddressLaws.{hz_address-injective}
use Rattle.idx_hz.proofs.RegionLemmas.{HasAddress-from_end}
use Rattle.idx_header.specs.Header.{HeaderValue, IsHeader, sample_bytes_of}
use Rattle.idx_layout.proofs.PresentLemmas.{any_point, point_found}
use Rattle.idx_pieces.specs.Pieces.{has_piece, piece_of, piece_region, pieces_of}
use Rattle.idx_pieces.specs.Runs.{AreRunsOf, HasSamples, file_addresses, has_address, run_length, sample_at_address}
use Rattle.idx_pieces.specs.declared.run.Run.{Run}
use Rattle.idx_dock.specs.declared.awaited.Awaited.{Awaited}
use Rattle.idx_dock.specs.Content.{has_sample, run_sample, runs_in, sample_among, sample_of}
use Rattle.idx_dock.specs.Dock.{DockValue, IsDock, awaited_of, piece_at_address, reaching, undelivered}
use Rattle.idx_dock.specs.Next.{IsOneOf, runs_of}
use Rattle.idx_dock.proofs.ApartLemmas.{AreTheirs, Divided, IsIn, below_of, divided_of, dock_writable, piece_of_point, point_of_piece, run_is}
use Rattle.idx_dock.proofs.CompleteLemmas.{IsIn-passes, find_point, find_run, run_with, sample_of_range, sized, unfound}
use Rattle.idx_dock.proofs.ContentLemmas.{IsOneOf-split, RiseFrom-filter}
use Rattle.idx_dock.proofs.NextLemmas.{IsOneOf-back, IsOneOf-front}
use Rattle.idx_dock.proofs.WriteLemmas.{has_is, sample_run}

or-right : (a b : Bool) → b ≡ true → (a || b) ≡ true
or-right true b h = refl
or-right false b h = h

both : (a b : Bool) → (a && b) ≡ true → (a ≡ true) × (b ≡ true)
both true true h = (refl, refl)
both true false h = let wrong : false ≡ true = h in absurd (cc)
both false b h = let wrong : false ≡ true = h in absurd (cc)

-- where one passes, the first that does is found
find-any : {X : Type 0} (test : X → Bool) (xs : List X) → list_any test xs ≡ true → (x : X) × (find test xs ≡ Some x) × (test x ≡ true)
find-any test [] h = let wrong : false ≡ true = h in absurd (cc)
find-any {X = X} test (x ∷ xs) h = by_test (test x) refl (find-any test xs) h
  where
    by_test : (b : Bool) → test x ≡ b → (list_any test xs ≡ true → (y : X) × (find test xs ≡ Some y) × (test y ≡ true)) → (b || list_any test xs) ≡ true →
        (y : X) × (cond b (Some x) (find test xs) ≡ Some y) × (test y ≡ true)
    by_test true is more k = (x, refl, is)
    by_test false is more k = more k

find_passes : (test : List ℕ → Bool) (ps : List (List ℕ)) (p : List ℕ) → find test ps ≡ Some p → test p ≡ true
find_passes test [] p found = let wrong : None ≡ Some p = found in absurd (cc)
find_passes test (q ∷ ps) p found = by_test (test q) refl found (find_passes test ps p)
  where
    by_test : (b : Bool) → test q ≡ b → cond b (Some q) (find test ps) ≡ Some p → (find test ps ≡ Some p → test p ≡ true) → test p ≡ true
    by_test true is found more = let same : q ≡ p = cc in sym (ap test same) ∙ is
    by_test false is found more = more found

module _ (h : HeaderValue) (e : ℕ) (sound : IsHeader h) (within : e ≤ length h.mask) where
  -- the piece of an address is that of the box's point that has it
  piece_at-point : (p : List ℕ) → LiesIn h.box p → piece_at_address h e (hz_address h.mask p) ≡ piece_of h.mask e p
  piece_at-point p lies =
      let a : ℕ = hz_address h.mask p in
      let found = find-any (λ q. hz_address h.mask q == a) (points h.box) (any_point h.box (λ q. hz_address h.mask q == a) p lies (eq-eqb a a refl)) in
      let inside : LiesIn h.box found.0 = find_point h.box (λ q. hz_address h.mask q == a) found.0 found.1 in
      let same : found.0 ≡ p = hz_address-injective h.mask found.0 p (HasAddress-from_end h.mask h.box found.0 sound.covered inside) (HasAddress-from_end h.mask h.box p sound.covered lies)
      (length_from_LiesIn h.box found.0 inside ∙ sym (length_from_LiesIn h.box p lies)) (eqb-true (hz_address h.mask found.0) a found.2) in
      ap (λ o. option_map_or (piece_of h.mask e) o 0) found.1 ∙ ap (piece_of h.mask e) same

  -- each point of the box lies in its piece
  in_piece : (p : List ℕ) → LiesIn h.box p → LiesIn (piece_region h.mask h.box e (piece_of h.mask e p)) p
  in_piece p lies =
      let digits : ℕ = length h.mask - e in
      let all : digits + e ≡ length h.mask = omega (arith, within) in
      point_of_piece h e p sound within (shr_below (z_address h.mask p) digits e (subst (λ n. z_address h.mask p < 2 ^ n) (sym all) (z_address-lt h.mask p))) lies

  module _ (file field a : ℕ) where
    -- the piece came to the dock
    abbrev came : ℕ → List Awaited → Bool
    came id awaited = list_any (λ w. (w.piece == id) && is_some w.runs) awaited

    -- a run that has a sample at the address is of a piece that came, and the piece is that of the address
    owner : (low : ℕ) (awaited : List Awaited) → Divided h e low awaited → AreTheirs h file awaited → (r : Run) → IsOneOf (runs_in awaited) r → has_sample h field a r ≡ true →
        (p : List ℕ) × LiesIn h.box p × (hz_address h.mask p ≡ a) × (came (piece_of h.mask e p) awaited ≡ true)
    owner low [] divided are r here has = absurd here
    owner low (w ∷ others) divided are r here has =
        elim (IsOneOf-split (runs_of w) (runs_in others) r here) [
          | inl front ↦
              let own = All-head (λ x. ForSome x.runs (AreRunsOf h x.region file)) w others are in
              let in_region : has_address h.mask (piece_region h.mask h.box e w.piece) a ≡ true = subst (λ region. has_address h.mask region a ≡ true) divided.2 (run_is h file field a w r own front has) in
              let p = point_found (piece_region h.mask h.box e w.piece) (λ q. hz_address h.mask q == a) in_region in
              let is = piece_of_point h e w.piece p.0 sound within divided.1 p.1 in (
                p.0,
                is.0,
                eqb-true (hz_address h.mask p.0) a p.2,
                ap (λ b. b || came (piece_of h.mask e p.0) others) (both_true (eq-eqb w.piece (piece_of h.mask e p.0) (sym is.1)) (some-runs w.runs front)),
              )
          | inr back ↦
              let found = owner (w.piece + 1) others divided.3 (All-tail (λ x. ForSome x.runs (AreRunsOf h x.region file)) w others are) r back has in
              (found.0, found.1, found.2, or-right ((w.piece == piece_of h.mask e found.0) && is_some w.runs) (came (piece_of h.mask e found.0) others) found.3)
        ]
      where
        some-runs : (o : Option (List Run)) → IsOneOf (unwrap_or o []) r → is_some o ≡ true
        some-runs None none = absurd none
        some-runs (Some runs) one = refl

    -- a piece that came has a run with a sample at each address of its points
    has-run : (low : ℕ) (awaited : List Awaited) → Divided h e low awaited → AreTheirs h file awaited → (p : List ℕ) → field < length h.fields → LiesIn (piece_region h.mask h.box e (piece_of h.mask e p)) p →
        hz_address h.mask p ≡ a → IsIn (file_addresses h file) a → came (piece_of h.mask e p) awaited ≡ true → (r : Run) × IsOneOf (runs_in awaited) r × (has_sample h field a r ≡ true)
    has-run low [] divided are p known lies at in_file there = let wrong : false ≡ true = there in absurd (cc)
    has-run low (w ∷ others) divided are p known lies at in_file there =
        by_test (has-run (w.piece + 1) others divided.3 (All-tail (λ x. ForSome x.runs (AreRunsOf h x.region file)) w others are) p known lies at in_file)
        ((w.piece == piece_of h.mask e p) && is_some w.runs) refl there
      where
        of_runs : (o : Option (List Run)) → is_some o ≡ true → ForSome o (AreRunsOf h w.region file) → w.region ≡ piece_region h.mask h.box e (piece_of h.mask e p) →
            (r : Run) × IsOneOf (unwrap_or o []) r × (has_sample h field a r ≡ true)
        of_runs None some own is = let wrong : false ≡ true = some in absurd (cc)
        of_runs (Some runs) some own is =
            let theirs : AreRunsOf h w.region file runs = own runs refl in
            run_with h field a runs (subst (λ xs. IsIn xs a) (sym (theirs.addresses field known))
            (IsIn-passes (has_address h.mask w.region) (file_addresses h file) a in_file
            (any_point w.region (λ q. hz_address h.mask q == a) p (subst (λ region. LiesIn region p) (sym is) lies) (eq-eqb (hz_address h.mask p) a at))))

        by_test : (came (piece_of h.mask e p) others ≡ true → (r : Run) × IsOneOf (runs_in others) r × (has_sample h field a r ≡ true)) →
            (b : Bool) → ((w.piece == piece_of h.mask e p) && is_some w.runs) ≡ b → (b || came (piece_of h.mask e p) others) ≡ true →
            (r : Run) × IsOneOf (runs_in (w ∷ others)) r × (has_sample h field a r ≡ true)
        by_test more true is k =
            let parts = both (w.piece == piece_of h.mask e p) (is_some w.runs) is in
            let found = of_runs w.runs parts.1 (All-head (λ x. ForSome x.runs (AreRunsOf h x.region file)) w others are) (divided.2 ∙ ap (piece_region h.mask h.box e) (eqb-true w.piece (piece_of h.mask e p) parts.0)) in
            (found.0, IsOneOf-front (runs_of w) (runs_in others) found.0 found.1, found.2)
        by_test more false is k =
            let found = more k in
            (found.0, IsOneOf-back (runs_of w) (runs_in others) found.0 found.1, found.2)

-- what stands at an address where a run has a sample
run_gives : (d : DockValue) → IsDock d → (volume : List (List (List ℕ))) → IsVolume (map sample_bytes d.header.fields) (length (points d.header.box)) volume →
    ((r : Run) → IsOneOf (runs_in d.awaited) r → HasSamples d.header (sample_of d.header volume) r) → (field a : ℕ) → field < length d.header.fields → (r : Run) → IsOneOf (runs_in d.awaited) r →
    has_sample d.header field a r ≡ true → sample_among d.header (runs_in d.awaited) field a ≡ sample_at_address d.header (sample_of d.header volume) field a
run_gives d is volume are samples field a known r one has =
    let h : HeaderValue = d.header in
    let bounds = has_is h field a r has in
    let own : r.field < length h.fields = subst (λ n. n < length h.fields) (sym bounds.0) known in
    sample_run h field a (runs_in d.awaited) r (dock_writable d is).apart one has
    ∙ ap (λ bytes. take (sample_bytes_of h r.field) (drop (sample_bytes_of h r.field * (a - r.first)) bytes)) (samples r one)
    ∙ sample_of_range (sample_at_address h (sample_of h volume) r.field) (sample_bytes_of h r.field) r.first (run_length h r) a (λ k. sized h volume r.field k are own) bounds.1 bounds.2
    ∙ ap (λ f. sample_at_address h (sample_of h volume) f a) bounds.0

-- what stands at an address of the file: the volume's sample where the piece of the address came, and else zeros
pub partial_sample : (d : DockValue) → IsDock d → (e n : ℕ) → e ≤ length d.header.mask → map undelivered d.awaited ≡ map awaited_of (reaching d.header d.file (pieces_of d.header e n)) →
    (volume : List (List (List ℕ))) → IsVolume (map sample_bytes d.header.fields) (length (points d.header.box)) volume →
    ((r : Run) → IsOneOf (runs_in d.awaited) r → HasSamples d.header (sample_of d.header volume) r) → (field a : ℕ) → field < length d.header.fields → IsIn (file_addresses d.header d.file) a →
    sample_among d.header (runs_in d.awaited) field a ≡ cond (list_any (λ w. (w.piece == piece_at_address d.header e a) && is_some w.runs) d.awaited)
    (sample_at_address d.header (sample_of d.header volume) field a) (replicate (sample_bytes_of d.header field) 0)
partial_sample d is e n within same volume are samples field a known in_file =
    elim (find_run (has_sample h field a) runs) [
      | inl found ↦
          let own = owner h e is.header within d.file field a 0 d.awaited divided is.runs found.0 found.1 found.2 in
          let there : came (piece_at_address h e a) ≡ true = ap came (ap (piece_at_address h e) (sym own.2) ∙ piece_at-point h e is.header within own.0 own.1) ∙ own.3 in
          run_gives d is volume are samples field a known found.0 found.1 found.2
          ∙ sym (ap (λ b. cond b (sample_at_address h (sample_of h volume) field a) zeros) there)
      | inr none ↦ ap (λ o. option_map_or (run_sample h a) o zeros) none ∙ sym (absent none (find (λ p. hz_address h.mask p == a) (points h.box)) refl)
    ]
  where
    h : HeaderValue
    h = d.header

    runs : List Run
    runs = runs_in d.awaited

    zeros : List ℕ
    zeros = replicate (sample_bytes_of d.header field) 0

    came : ℕ → Bool
    came id = list_any (λ w. (w.piece == id) && is_some w.runs) d.awaited

    divided : Divided d.header e 0 d.awaited
    divided = divided_of d.header e n d.file 0 (filter (has_piece d.header.mask d.header.box e) (range_with_len 0 (2 ^ (length d.header.mask - e)))) d.awaited
        (RiseFrom-filter (has_piece d.header.mask d.header.box e) 0 (2 ^ (length d.header.mask - e)))
        (below_of (has_piece d.header.mask d.header.box e) 0 (2 ^ (length d.header.mask - e)) (2 ^ (length d.header.mask - e)) (omega arith)) same

    -- where no run has a sample, either no point has the address or its piece did not come
    absent : find (has_sample h field a) runs ≡ None → (o : Option (List ℕ)) → find (λ p. hz_address h.mask p == a) (points h.box) ≡ o →
        cond (came (piece_at_address h e a)) (sample_at_address h (sample_of h volume) field a) zeros ≡ zeros
    absent none None found = same_sides (came (piece_at_address h e a)) (ap (λ o. option_map_or (sample_of h volume field) o zeros) found)
      where
        same_sides : {x y : List ℕ} (b : Bool) → x ≡ y → cond b x y ≡ y
        same_sides true s = s
        same_sides false s = refl
    absent none (Some p) found = by_test (came (piece_at_address h e a)) refl
      where
        lies : LiesIn h.box p
        lies = find_point h.box (λ q. hz_address h.mask q == a) p found

        at : hz_address h.mask p ≡ a
        at = eqb-true (hz_address h.mask p) a (find_passes (λ q. hz_address h.mask q == a) (points h.box) p found)

        by_test : (b : Bool) → came (piece_at_address h e a) ≡ b → cond b (sample_at_address h (sample_of h volume) field a) zeros ≡ zeros
        by_test false is_not = refl
        by_test true is_there =
            let there : came (piece_of h.mask e p) ≡ true = ap came (sym (piece_at-point h e is.header within p lies) ∙ ap (piece_at_address h e) at) ∙ is_there in
            let run = has-run h e is.header within d.file field a 0 d.awaited divided is.runs p known (in_piece h e is.header within p lies) at in_file there in
            absurd (unfound (has_sample h field a) runs run.0 run.1 run.2 none)
