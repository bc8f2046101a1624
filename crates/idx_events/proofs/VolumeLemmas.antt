-- What the events of writing keep of a volume.
use Rattle.std.proofs.Common.{◌≡◌, ℕ, ◌⊎◌, inl, inr, Bool, true, false, not, ◌&&◌, ◌||◌, cond, nat_eq, is_some, List, [], ◌∷◌, ◌++◌, map, Option, Some, None, refl, sym, ap, ◌∙◌, subst}
use Rattle.std.specs.List.{AllByRecursion, list_any, list_all, range_with_len}
use Rattle.std.proofs.lemmas.Bool.{eqb-true, eq-eqb, false≢true}
use Rattle.std.proofs.lemmas.Option.{same_Some}
use Rattle.std.proofs.lemmas.Map.Keys.{IsDistinct-push}
use Rattle.idx_events.specs.Lists.{has, has_pair, pair_eq}
use Rattle.idx_events.specs.Setting.{Setting, SettingOk, table, file_bytes, step_file, step_files}
use Rattle.idx_events.specs.World.{Volume, Slot, is_staged, is_published, is_abandoned}
use Rattle.idx_events.specs.Volumes.{put_row, put_rows, sealed_files, is_legal, all_gave, all_shipped, can_give, can_ship, can_write, can_publish, give, ship, seal, publish, abandon, ship_slot, seal_slot, delivered, dock_of}
use Rattle.idx_events.specs.WorldOk.{GivenOk, DocksOk, SealedOk, IsSealed}
use Rattle.idx_events.specs.declared.phase.Phase.{Phase}
use Rattle.idx_events.specs.declared.phase.Phase.TheVariants.{Staged, Published, Abandoned}
use Rattle.idx_events.proofs.ListLemmas.{both, not-true, clash, Each-weaker, Each-always, Each-both, Each-snoc, Each-map, all-weaker, map-agree, map-map, pair_laws, has_pair-more, has_pair-snoc}

pub staged-live : (phase : Phase) → is_staged phase ≡ true → is_abandoned phase ≡ false
staged-live Staged h = refl
staged-live Published h = refl
staged-live Abandoned h = absurd (false≢true h)

pub staged-unpublished : (phase : Phase) → is_staged phase ≡ true → is_published phase ≡ false
staged-unpublished Staged h = refl
staged-unpublished Published h = absurd (false≢true h)
staged-unpublished Abandoned h = refl

put_row-table : (mine : ℕ → Bool) (new old : ℕ → List ℕ) (ads : List ℕ) → put_row mine new ads (map old ads) ≡ map (λ a. cond (mine a) (new a) (old a)) ads
put_row-table mine new old [] = refl
put_row-table mine new old (a ∷ ads) = ap (λ l. cond (mine a) (new a) (old a) ∷ l) (put_row-table mine new old ads)

put_rows-table : (mine : ℕ → Bool) (new old : ℕ → ℕ → List ℕ) (ads fs : List ℕ) → put_rows mine new ads fs (map (λ f. map (old f) ads) fs) ≡ map (λ f. map (λ a. cond (mine a) (new f a) (old f a)) ads) fs
put_rows-table mine new old ads [] = refl
put_rows-table mine new old ads (f ∷ fs) =
    ap (λ row. row ∷ put_rows mine new ads fs (map (λ g. map (old g) ads) fs)) (put_row-table mine (new f) (old f) ads)
    ∙ ap (λ l. map (λ a. cond (mine a) (new f a) (old f a)) ads ∷ l) (put_rows-table mine new old ads fs)

-- one piece more, or one that was there
cond-more : {A : Type 0} (was is now : Bool) (x y : A) → now ≡ (was || is) → cond is x (cond was x y) ≡ cond now x y
cond-more true true now x y e = ap (λ b. cond b x y) (sym e)
cond-more true false now x y e = ap (λ b. cond b x y) (sym e)
cond-more false true now x y e = ap (λ b. cond b x y) (sym e)
cond-more false false now x y e = ap (λ b. cond b x y) (sym e)

module _ (s : Setting) where
  table-agree : (file : ℕ) (g h : ℕ → ℕ → List ℕ) → ((f : ℕ) → AllByRecursion (λ a. g f a ≡ h f a) (s.addresses file)) → table s file g ≡ table s file h
  table-agree file g h same =
      map-agree (λ f. map (g f) (s.addresses file)) (λ f. map (h f) (s.addresses file)) (range_with_len 0 s.fields)
      (Each-always (λ f. map (g f) (s.addresses file) ≡ map (h f) (s.addresses file)) (λ f. map-agree (g f) (h f) (s.addresses file) (same f)) (range_with_len 0 s.fields))

  table-same : (file : ℕ) (g h : ℕ → ℕ → List ℕ) → ((f a : ℕ) → g f a ≡ h f a) → table s file g ≡ table s file h
  table-same file g h same = table-agree file g h (λ f. Each-always (λ a. g f a ≡ h f a) (same f) (s.addresses file))

  module _ (raw : List ℕ) (piece : ℕ) (shipped : List (ℕ × ℕ)) where
    pair_eq-file : (p file : ℕ) → pair_eq (p, file) (piece, file) ≡ nat_eq p piece
    pair_eq-file p file = ap (λ b. nat_eq p piece && b) (eq-eqb file file refl) ∙ and-true (nat_eq p piece)
      where
        and-true : (b : Bool) → (b && true) ≡ b
        and-true true = refl
        and-true false = refl

    -- a dock with one piece more
    pub delivered-dock : (file : ℕ) → delivered s raw piece file (dock_of s raw shipped file) ≡ dock_of s raw (shipped ++ (piece, file) ∷ []) file
    delivered-dock file =
        put_rows-table (λ a. nat_eq (s.piece_at a) piece) (s.sample raw) (λ f a. cond (has_pair (s.piece_at a, file) shipped) (s.sample raw f a) (s.zero f)) (s.addresses file) (range_with_len 0 s.fields)
        ∙ table-same file
        (λ f a. cond (nat_eq (s.piece_at a) piece) (s.sample raw f a) (cond (has_pair (s.piece_at a, file) shipped) (s.sample raw f a) (s.zero f)))
        (λ f a. cond (has_pair (s.piece_at a, file) (shipped ++ (piece, file) ∷ [])) (s.sample raw f a) (s.zero f))
        (λ f a. cond-more (has_pair (s.piece_at a, file) shipped) (nat_eq (s.piece_at a) piece) (has_pair (s.piece_at a, file) (shipped ++ (piece, file) ∷ [])) (s.sample raw f a) (s.zero f)
        (has_pair-snoc (s.piece_at a, file) (piece, file) shipped ∙ ap (λ b. has_pair (s.piece_at a, file) shipped || b) (pair_eq-file (s.piece_at a) file)))

    -- the dock of another file
    and-false : (b : Bool) → (b && false) ≡ false
    and-false true = refl
    and-false false = refl

    or-false : (b : Bool) → (b || false) ≡ b
    or-false true = refl
    or-false false = refl

    pub other-dock : (file other : ℕ) → nat_eq other file ≡ false → dock_of s raw shipped other ≡ dock_of s raw (shipped ++ (piece, file) ∷ []) other
    other-dock file other e = table-same other
        (λ f a. cond (has_pair (s.piece_at a, other) shipped) (s.sample raw f a) (s.zero f))
        (λ f a. cond (has_pair (s.piece_at a, other) (shipped ++ (piece, file) ∷ [])) (s.sample raw f a) (s.zero f))
        (λ f a. ap (λ b. cond b (s.sample raw f a) (s.zero f)) (sym
        (has_pair-snoc (s.piece_at a, other) (piece, file) shipped
        ∙ ap (λ b. has_pair (s.piece_at a, other) shipped || (nat_eq (s.piece_at a) piece && b)) e
        ∙ ap (λ b. has_pair (s.piece_at a, other) shipped || b) (and-false (nat_eq (s.piece_at a) piece))
        ∙ or-false (has_pair (s.piece_at a, other) shipped))))

  -- of a file with all its pieces the dock has all samples
  all-has : (xs : List ℕ) (p : ℕ → Bool) (n : ℕ) → list_all p xs ≡ true → has n xs ≡ true → p n ≡ true
  all-has [] p n a h = absurd (false≢true h)
  all-has (x ∷ xs) p n a h = let parts = both (p x) (list_all p xs) a in (elim (nat_eq n x) as (λ b. nat_eq n x ≡ b → (b || has n xs) ≡ true → p n ≡ true) [
    | true ↦ λ e k. ap p (eqb-true n x e) ∙ parts.0
    | false ↦ λ e k. all-has xs p n parts.1 k
  ]) refl h

  same-sides : (b : Bool) (x z : List ℕ) → x ≡ z → cond b x z ≡ x
  same-sides true x z e = refl
  same-sides false x z e = sym e

  pub whole-dock : SettingOk s → (raw : List ℕ) (shipped : List (ℕ × ℕ)) (file : ℕ) → all_shipped s shipped file ≡ true → dock_of s raw shipped file ≡ table s file (s.sample raw)
  whole-dock laws raw shipped file all = table-agree file (λ f a. cond (has_pair (s.piece_at a, file) shipped) (s.sample raw f a) (s.zero f)) (s.sample raw)
      (λ f. Each-weaker (λ a. (has (s.piece_at a) (s.pieces_in file) ≡ true) ⊎ ((r : List ℕ) (g : ℕ) → s.sample r g a ≡ s.zero g))
      (λ a. cond (has_pair (s.piece_at a, file) shipped) (s.sample raw f a) (s.zero f) ≡ s.sample raw f a)
      (λ a known. elim known [
        | inl there ↦ ap (λ b. cond b (s.sample raw f a) (s.zero f)) (all-has (s.pieces_in file) (λ p. has_pair (p, file) shipped) (s.piece_at a) all there)
        | inr zeros ↦ same-sides (has_pair (s.piece_at a, file) shipped) (s.sample raw f a) (s.zero f) (zeros raw f)
      ]) (s.addresses file) (laws.covered file))

  -- ---- Give

  module _ (v : Volume) (rank piece : ℕ) (can : can_give s rank piece v ≡ true) where
    give-staged : is_staged v.phase ≡ true
    give-staged = (both (is_staged v.phase) (is_legal s rank piece && not (has_pair (rank, piece) v.given)) can).0

    give-rest : (is_legal s rank piece ≡ true) × (not (has_pair (rank, piece) v.given) ≡ true)
    give-rest = both (is_legal s rank piece) (not (has_pair (rank, piece) v.given)) (both (is_staged v.phase) (is_legal s rank piece && not (has_pair (rank, piece) v.given)) can).1

    pub give-given : GivenOk s v → GivenOk s (give s rank piece v)
    give-given ok = record {
      apart = IsDistinct-push pair_laws v.given (rank, piece) ok.apart (not-true (has_pair (rank, piece) v.given) give-rest.1);
      legal = Each-snoc (λ g. is_legal s g.0 g.1 ≡ true) v.given (rank, piece) ok.legal give-rest.0;
      once = ok.once;
      gave = Each-weaker (λ p. all_gave s v.given p.0 ≡ true) (λ p. all_gave s (v.given ++ (rank, piece) ∷ []) p.0 ≡ true)
          (λ p h. all-weaker (λ r. has_pair (r, p.0) v.given) (λ r. has_pair (r, p.0) (v.given ++ (rank, piece) ∷ []))
          (λ r. has_pair-more (r, p.0) v.given ((rank, piece) ∷ [])) (s.ranks p.0) h) v.shipped ok.gave;
    }

    pub give-docks : DocksOk s v → DocksOk s (give s rank piece v)
    give-docks ok = record { files = ok.files; docks = ok.docks }

    pub give-sealed : SealedOk s v → SealedOk s (give s rank piece v)
    give-sealed ok = Each-weaker (λ slot. (file : List ℕ × List ℕ) → slot.sealed ≡ Some file → IsSealed s v slot file)
        (λ slot. (file : List ℕ × List ℕ) → slot.sealed ≡ Some file → IsSealed s (give s rank piece v) slot file)
        (λ slot h file e. let was = h file e in record { exists = was.exists; whole = was.whole; is = was.is }) v.slots ok

  -- ---- Ship

  module _ (v : Volume) (piece file : ℕ) where
    ship_slot-file : (slot : Slot) → (ship_slot s v.raw piece file slot).file ≡ slot.file
    ship_slot-file slot = elim (nat_eq slot.file file) as (λ b. (cond b (record slot { dock = delivered s v.raw piece file slot.dock }) slot).file ≡ slot.file) [ true ↦ refl | false ↦ refl ]

    ship_slot-sealed : (slot : Slot) → (ship_slot s v.raw piece file slot).sealed ≡ slot.sealed
    ship_slot-sealed slot = elim (nat_eq slot.file file) as (λ b. (cond b (record slot { dock = delivered s v.raw piece file slot.dock }) slot).sealed ≡ slot.sealed) [ true ↦ refl | false ↦ refl ]

    abbrev shipped_now : List (ℕ × ℕ)
    shipped_now = v.shipped ++ (piece, file) ∷ []

    ship_slot-dock : (slot : Slot) → slot.dock ≡ dock_of s v.raw v.shipped slot.file → (ship_slot s v.raw piece file slot).dock ≡ dock_of s v.raw shipped_now (ship_slot s v.raw piece file slot).file
    ship_slot-dock slot e = (elim (nat_eq slot.file file) as (λ b. nat_eq slot.file file ≡ b →
        (cond b (record slot { dock = delivered s v.raw piece file slot.dock }) slot).dock ≡ dock_of s v.raw shipped_now (cond b (record slot { dock = delivered s v.raw piece file slot.dock }) slot).file) [
          | true ↦ λ k.
              let same : slot.file ≡ file = eqb-true slot.file file k in
              ap (λ d. delivered s v.raw piece file d) (e ∙ ap (λ n. dock_of s v.raw v.shipped n) same) ∙ delivered-dock v.raw piece v.shipped file ∙ ap (λ n. dock_of s v.raw shipped_now n) (sym same)
          | false ↦ λ k. e ∙ other-dock v.raw piece v.shipped file slot.file k
        ]) refl

    pub ship-docks : DocksOk s v → DocksOk s (ship s piece file v)
    ship-docks ok = record {
      files = λ live. map-map (ship_slot s v.raw piece file) (λ slot. slot.file) v.slots
          ∙ map-agree (λ slot. (ship_slot s v.raw piece file slot).file) (λ slot. slot.file) v.slots (Each-always (λ slot. (ship_slot s v.raw piece file slot).file ≡ slot.file) ship_slot-file v.slots)
          ∙ ok.files live;
      docks = Each-map (ship_slot s v.raw piece file) (λ slot. slot.dock ≡ dock_of s v.raw shipped_now slot.file) v.slots
          (Each-weaker (λ slot. slot.dock ≡ dock_of s v.raw v.shipped slot.file) (λ slot. (ship_slot s v.raw piece file slot).dock ≡ dock_of s v.raw shipped_now (ship_slot s v.raw piece file slot).file) ship_slot-dock v.slots ok.docks);
    }

    more-shipped : (k : ℕ) → all_shipped s v.shipped k ≡ true → all_shipped s shipped_now k ≡ true
    more-shipped k h = all-weaker (λ p. has_pair (p, k) v.shipped) (λ p. has_pair (p, k) shipped_now) (λ p. has_pair-more (p, k) v.shipped ((piece, file) ∷ [])) (s.pieces_in k) h

    pub ship-sealed : SealedOk s v → SealedOk s (ship s piece file v)
    ship-sealed ok = Each-map (ship_slot s v.raw piece file) (λ slot. (f : List ℕ × List ℕ) → slot.sealed ≡ Some f → IsSealed s (ship s piece file v) slot f) v.slots
        (Each-weaker (λ slot. (f : List ℕ × List ℕ) → slot.sealed ≡ Some f → IsSealed s v slot f)
        (λ slot. (f : List ℕ × List ℕ) → (ship_slot s v.raw piece file slot).sealed ≡ Some f → IsSealed s (ship s piece file v) (ship_slot s v.raw piece file slot) f)
        (λ slot h f e. let was = h f (sym (ship_slot-sealed slot) ∙ e) in record {
          exists = subst (λ n. has n s.files ≡ true) (sym (ship_slot-file slot)) was.exists;
          whole = subst (λ n. all_shipped s shipped_now n ≡ true) (sym (ship_slot-file slot)) (more-shipped slot.file was.whole);
          is = was.is ∙ ap (λ n. step_file s v.time v.revision v.raw n) (sym (ship_slot-file slot));
        }) v.slots ok)

    module _ (can : can_ship s piece file v ≡ true) where
      ship-rest : (all_gave s v.given piece ≡ true) × ((has piece (s.pieces_in file) && not (has_pair (piece, file) v.shipped)) ≡ true)
      ship-rest = both (all_gave s v.given piece) (has piece (s.pieces_in file) && not (has_pair (piece, file) v.shipped))
          (both (has file s.files) (all_gave s v.given piece && (has piece (s.pieces_in file) && not (has_pair (piece, file) v.shipped)))
          (both (is_staged v.phase) (has file s.files && (all_gave s v.given piece && (has piece (s.pieces_in file) && not (has_pair (piece, file) v.shipped)))) can).1).1

      pub ship-given : GivenOk s v → GivenOk s (ship s piece file v)
      ship-given ok = record {
        apart = ok.apart;
        legal = ok.legal;
        once = IsDistinct-push pair_laws v.shipped (piece, file) ok.once (not-true (has_pair (piece, file) v.shipped) (both (has piece (s.pieces_in file)) (not (has_pair (piece, file) v.shipped)) ship-rest.1).1);
        gave = Each-snoc (λ p. all_gave s v.given p.0 ≡ true) v.shipped (piece, file) ok.gave ship-rest.0;
      }

  -- ---- Write

  module _ (v : Volume) (file : ℕ) where
    seal_slot-file : (slot : Slot) → (seal_slot s v.time v.revision file slot).file ≡ slot.file
    seal_slot-file slot = elim (nat_eq slot.file file) as (λ b. (cond b (record slot { sealed = Some (s.name v.time v.revision file, s.lay file slot.dock) }) slot).file ≡ slot.file) [ true ↦ refl | false ↦ refl ]

    seal_slot-dock : (slot : Slot) → (seal_slot s v.time v.revision file slot).dock ≡ slot.dock
    seal_slot-dock slot = elim (nat_eq slot.file file) as (λ b. (cond b (record slot { sealed = Some (s.name v.time v.revision file, s.lay file slot.dock) }) slot).dock ≡ slot.dock) [ true ↦ refl | false ↦ refl ]

    pub seal-given : GivenOk s v → GivenOk s (seal s file v)
    seal-given ok = record { apart = ok.apart; legal = ok.legal; once = ok.once; gave = ok.gave }

    pub seal-docks : DocksOk s v → DocksOk s (seal s file v)
    seal-docks ok = record {
      files = λ live. map-map (seal_slot s v.time v.revision file) (λ slot. slot.file) v.slots
          ∙ map-agree (λ slot. (seal_slot s v.time v.revision file slot).file) (λ slot. slot.file) v.slots (Each-always (λ slot. (seal_slot s v.time v.revision file slot).file ≡ slot.file) seal_slot-file v.slots)
          ∙ ok.files live;
      docks = Each-map (seal_slot s v.time v.revision file) (λ slot. slot.dock ≡ dock_of s v.raw v.shipped slot.file) v.slots
          (Each-weaker (λ slot. slot.dock ≡ dock_of s v.raw v.shipped slot.file) (λ slot. (seal_slot s v.time v.revision file slot).dock ≡ dock_of s v.raw v.shipped (seal_slot s v.time v.revision file slot).file)
          (λ slot e. seal_slot-dock slot ∙ e ∙ ap (λ n. dock_of s v.raw v.shipped n) (sym (seal_slot-file slot))) v.slots ok.docks);
    }

    module _ (laws : SettingOk s) (can : can_write s file v ≡ true) where
      abbrev unsealed : Bool
      unsealed = not (list_any (λ slot. nat_eq slot.file file && is_some slot.sealed) v.slots)

      write-rest : (has file s.files ≡ true) × ((all_shipped s v.shipped file && unsealed) ≡ true)
      write-rest = both (has file s.files) (all_shipped s v.shipped file && unsealed) (both (is_staged v.phase) (has file s.files && (all_shipped s v.shipped file && unsealed)) can).1

      write-whole : all_shipped s v.shipped file ≡ true
      write-whole = (both (all_shipped s v.shipped file) unsealed write-rest.1).0

      sealed-one : (slot : Slot) → slot.dock ≡ dock_of s v.raw v.shipped slot.file → ((f : List ℕ × List ℕ) → slot.sealed ≡ Some f → IsSealed s v slot f) →
          (f : List ℕ × List ℕ) → (seal_slot s v.time v.revision file slot).sealed ≡ Some f → IsSealed s (seal s file v) (seal_slot s v.time v.revision file slot) f
      sealed-one slot dock was f = (elim (nat_eq slot.file file) as (λ b. nat_eq slot.file file ≡ b →
          (cond b (record slot { sealed = Some (s.name v.time v.revision file, s.lay file slot.dock) }) slot).sealed ≡ Some f →
          IsSealed s (seal s file v) (cond b (record slot { sealed = Some (s.name v.time v.revision file, s.lay file slot.dock) }) slot) f) [
            | true ↦ λ k e.
                let same : slot.file ≡ file = eqb-true slot.file file k in
                let bytes : s.lay file slot.dock ≡ file_bytes s v.raw file = ap (λ d. s.lay file d) (dock ∙ ap (λ n. dock_of s v.raw v.shipped n) same ∙ whole-dock laws v.raw v.shipped file write-whole) in
                record {
                  exists = subst (λ n. has n s.files ≡ true) (sym same) write-rest.0;
                  whole = subst (λ n. all_shipped s v.shipped n ≡ true) (sym same) write-whole;
                  is = sym (same_Some (s.name v.time v.revision file, s.lay file slot.dock) f e) ∙ ap (λ d. (s.name v.time v.revision file, d)) bytes ∙ ap (λ n. step_file s v.time v.revision v.raw n) (sym same);
                }
            | false ↦ λ k e. let old = was f e in record { exists = old.exists; whole = old.whole; is = old.is }
          ]) refl

      pub seal-sealed : DocksOk s v → SealedOk s v → SealedOk s (seal s file v)
      seal-sealed docks ok = Each-map (seal_slot s v.time v.revision file) (λ slot. (f : List ℕ × List ℕ) → slot.sealed ≡ Some f → IsSealed s (seal s file v) slot f) v.slots
          (Each-both (λ slot. slot.dock ≡ dock_of s v.raw v.shipped slot.file) (λ slot. (f : List ℕ × List ℕ) → slot.sealed ≡ Some f → IsSealed s v slot f)
          (λ slot. (f : List ℕ × List ℕ) → (seal_slot s v.time v.revision file slot).sealed ≡ Some f → IsSealed s (seal s file v) (seal_slot s v.time v.revision file slot) f)
          sealed-one v.slots docks.docks ok)

  -- ---- Publish

  sealed-files : (v : Volume) (slots : List Slot) → list_all (λ slot. is_some slot.sealed) slots ≡ true → AllByRecursion (λ slot. (f : List ℕ × List ℕ) → slot.sealed ≡ Some f → IsSealed s v slot f) slots →
      sealed_files slots ≡ map (step_file s v.time v.revision v.raw) (map (λ slot. slot.file) slots)
  sealed-files v [] all ok = refl
  sealed-files v (slot ∷ slots) all ok = one slot.sealed refl (sealed-files v slots (both (is_some slot.sealed) (list_all (λ z. is_some z.sealed) slots) all).1 ok.1)
    where
      one : (o : Option (List ℕ × List ℕ)) → slot.sealed ≡ o → sealed_files slots ≡ map (step_file s v.time v.revision v.raw) (map (λ z. z.file) slots) →
          sealed_files (slot ∷ slots) ≡ step_file s v.time v.revision v.raw slot.file ∷ map (step_file s v.time v.revision v.raw) (map (λ z. z.file) slots)
      one None e rest = absurd (clash (both (is_some slot.sealed) (list_all (λ z. is_some z.sealed) slots) all).0 (ap (λ o. is_some o) e))
      one (Some f) e rest = rw e (ap (λ x. x ∷ sealed_files slots) (ok.0 f e).is ∙ ap (λ l. step_file s v.time v.revision v.raw slot.file ∷ l) rest)

  module _ (v : Volume) where
    pub publish-files : can_publish s v ≡ true → DocksOk s v → SealedOk s v → sealed_files v.slots ≡ step_files s v.time v.revision v.raw
    publish-files can docks ok =
        let parts = both (is_staged v.phase) (list_all (λ slot. is_some slot.sealed) v.slots) can in
        sealed-files v v.slots parts.1 ok ∙ ap (map (step_file s v.time v.revision v.raw)) (docks.files (staged-live v.phase parts.0))

    pub publish-given : GivenOk s v → GivenOk s (publish s v)
    publish-given ok = record { apart = ok.apart; legal = ok.legal; once = ok.once; gave = ok.gave }

    pub publish-docks : is_staged v.phase ≡ true → DocksOk s v → DocksOk s (publish s v)
    publish-docks staged ok = record { files = λ live. ok.files (staged-live v.phase staged); docks = ok.docks }

    pub publish-sealed : SealedOk s v → SealedOk s (publish s v)
    publish-sealed ok = Each-weaker (λ slot. (file : List ℕ × List ℕ) → slot.sealed ≡ Some file → IsSealed s v slot file)
        (λ slot. (file : List ℕ × List ℕ) → slot.sealed ≡ Some file → IsSealed s (publish s v) slot file)
        (λ slot h file e. let was = h file e in record { exists = was.exists; whole = was.whole; is = was.is }) v.slots ok

    -- ---- Abandon

    pub abandon-given : GivenOk s v → GivenOk s (abandon s v)
    abandon-given ok = record { apart = ok.apart; legal = ok.legal; once = ok.once; gave = ok.gave }

    pub abandon-docks : DocksOk s (abandon s v)
    abandon-docks = record { files = λ live. absurd (false≢true (sym live)); docks = tt }

    pub abandon-sealed : SealedOk s (abandon s v)
    abandon-sealed = tt
