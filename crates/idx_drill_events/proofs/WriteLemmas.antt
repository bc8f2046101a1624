-- A step that is written whole: each of its events may happen.
use Rattle.std.proofs.Common.{◌≡◌, ℕ, ◌<◌, Bool, true, false, not, ◌&&◌, ◌||◌, cond, nat_eq, nat_lt, is_some, List, [], ◌∷◌, ◌++◌, map, Option, Some, None, refl, sym, ap, ◌∙◌, subst, arith, append_assoc, append-nil}
use Rattle.std.specs.List.{AllByRecursion, IsDistinct, list_any, list_all, range_with_len}
use Rattle.std.specs.Option.{option_map_or}
use Rattle.std.specs.Cmp.Derive.{both_true}
use Rattle.std.proofs.lemmas.Bool.{eqb-true, eq-eqb, false≢true}
use Rattle.std.proofs.lemmas.Map.Keys.{IsDistinct-head, IsDistinct-tail}
use Rattle.idx_hall.specs.Hall.{after_publish}
use Rattle.idx_events.specs.Lists.{has, has_pair, pair_eq}
use Rattle.idx_events.specs.Setting.{Setting}
use Rattle.idx_events.specs.World.{World, Volume, Slot, is_staged}
use Rattle.idx_events.specs.Volumes.{is_of, is_later, is_legal, all_gave, all_shipped, can_give, can_ship, can_write, can_publish, give, ship, seal, publish, ship_slot, seal_slot, delivered, post_of_sealed}
use Rattle.idx_events.specs.Events.{volume_can, on_volume, run, all_enabled}
use Rattle.idx_events.specs.Start.{new_slot, new_volume}
use Rattle.idx_events.specs.declared.event.Event.TheVariants.{Give, Ship, Write, Publish}
use Rattle.idx_events.proofs.ListLemmas.{Each-weaker, Each-always, Each-both, Each-map, Each-itself}
use Rattle.idx_events.proofs.VolumeLemmas.{staged-unpublished}
use Rattle.idx_drill_events.specs.Lists.{parts, shipments, gives, ships, writes, written}
use Rattle.idx_drill_events.specs.Leads.{Leads}
use Rattle.idx_drill_events.specs.Written.{AreAll, IsWritten}
use Rattle.idx_drill_events.proofs.PairLemmas.{neither, first-false, second-false, or-right, none-any, fresh-more, has-range, distinct-range, pairs-apart, pairs-each, pairs-has}
use Rattle.idx_drill_events.proofs.RunLemmas.{leads-none, leads-first, leads-one, leads-append}

all-of : {X : Type 0} (test : X → Bool) (xs : List X) → AllByRecursion (λ x. test x ≡ true) xs → list_all test xs ≡ true
all-of test [] each = refl
all-of test (x ∷ xs) each = both_true each.0 (all-of test xs each.1)

-- what holds of each holds of one that is there
each-has : (P : ℕ → Type 0) (n : ℕ) (xs : List ℕ) → AllByRecursion P xs → has n xs ≡ true → P n
each-has P n [] each there = absurd (false≢true there)
each-has P n (x ∷ xs) each there = (elim (nat_eq n x) as (λ b. nat_eq n x ≡ b → (b || has n xs) ≡ true → P n) [
  | true ↦ λ e h. subst P (sym (eqb-true n x e)) each.0
  | false ↦ λ e h. each-has P n xs each.1 h
]) refl there

module _ (s : Setting) (time revision : ℕ) (w : World) where
  -- the world with one volume
  abbrev one : Volume → World
  one v = record w { volumes = v ∷ [] }

  -- the volume is that of the timestep's revision, and is being written
  record IsOpen (v : Volume) : Type 0 where
    mine : is_of time revision v ≡ true
    staged : is_staged v.phase ≡ true

  can-one : (v : Volume) → is_of time revision v ≡ true → (test : Volume → Bool) → test v ≡ true → volume_can time revision test (one v) ≡ true
  can-one v mine test can = ap (λ b. option_map_or test (cond b (Some v) None) false) mine ∙ can

  on-one : (v : Volume) → is_of time revision v ≡ true → (f : Volume → Volume) → on_volume time revision f (one v) ≡ one (f v)
  on-one v mine f = ap (λ b. let u : World = record w { volumes = cond b (f v ∷ []) (v ∷ []) } in u) mine

  -- ---- Give

  abbrev with_given : Volume → List (ℕ × ℕ) → Volume
  with_given v given = record v { given = given }

  give-all : (ps : List (ℕ × ℕ)) (v : Volume) → IsOpen v → AllByRecursion (λ p. is_legal s p.0 p.1 ≡ true) ps → AllByRecursion (λ p. has_pair p v.given ≡ false) ps → IsDistinct pair_eq ps →
      Leads s (one v) (map (λ p. Give time revision p.0 p.1) ps) (one (with_given v (v.given ++ ps)))
  give-all [] v is legal fresh d = leads-none s (one v) (one (with_given v (v.given ++ []))) (ap (λ l. one (with_given v l)) (sym (append-nil v.given)))
  give-all (p ∷ ps) v is legal fresh d =
      let u : Volume = give s p.0 p.1 v in
      leads-first s (one v) (one u) (one (with_given v (v.given ++ p ∷ ps))) (Give time revision p.0 p.1) (map (λ q. Give time revision q.0 q.1) ps)
      (can-one v is.mine (can_give s p.0 p.1) (both_true is.staged (both_true legal.0 (ap not fresh.0))))
      (on-one v is.mine (give s p.0 p.1))
      (subst (λ l. Leads s (one u) (map (λ q. Give time revision q.0 q.1) ps) (one (with_given v l))) (append_assoc v.given (p ∷ []) ps)
      (give-all ps u (record { mine = is.mine; staged = is.staged }) legal.1 (fresh-more v.given ps p d fresh.1) (IsDistinct-tail pair_eq p ps d)))

  -- ---- Ship

  -- a slot is of a file, and is not sealed
  abbrev IsBlank : Slot → Type 0
  IsBlank slot = (has slot.file s.files ≡ true) × (slot.sealed ≡ None)

  ship-blank : (raw : List ℕ) (piece file : ℕ) (slot : Slot) → IsBlank slot → IsBlank (ship_slot s raw piece file slot)
  ship-blank raw piece file slot blank = elim (nat_eq slot.file file) as (λ b. IsBlank (cond b (record slot { dock = delivered s raw piece file slot.dock }) slot)) [ true ↦ blank | false ↦ blank ]

  -- what may be shipped
  record IsReady (given : List (ℕ × ℕ)) (p : ℕ × ℕ) : Type 0 where
    file : has p.1 s.files ≡ true
    gave : all_gave s given p.0 ≡ true
    point : has p.0 (s.pieces_in p.1) ≡ true

  -- a volume with pieces shipped
  record IsShipped (v u : Volume) (ps : List (ℕ × ℕ)) : Type 0 where
    is_open : IsOpen u
    raw_is : u.raw ≡ v.raw
    time_is : u.time ≡ v.time
    revision_is : u.revision ≡ v.revision
    shipped : u.shipped ≡ v.shipped ++ ps
    blank : AllByRecursion IsBlank u.slots

  ship-all : (ps : List (ℕ × ℕ)) (v : Volume) → IsOpen v → AllByRecursion (IsReady v.given) ps → AllByRecursion (λ p. has_pair p v.shipped ≡ false) ps → IsDistinct pair_eq ps → AllByRecursion IsBlank v.slots →
      (u : Volume) × Leads s (one v) (map (λ p. Ship time revision p.0 p.1) ps) (one u) × IsShipped v u ps
  ship-all [] v is ready fresh d blank =
      (v, leads-none s (one v) (one v) refl, record { is_open = is; raw_is = refl; time_is = refl; revision_is = refl; shipped = sym (append-nil v.shipped); blank = blank })
  ship-all (p ∷ ps) v is ready fresh d blank =
      let z : Volume = ship s p.0 p.1 v in
      let rest = ship-all ps z (record { mine = is.mine; staged = is.staged }) ready.1 (fresh-more v.shipped ps p d fresh.1) (IsDistinct-tail pair_eq p ps d)
      (Each-map (ship_slot s v.raw p.0 p.1) IsBlank v.slots (Each-weaker IsBlank (λ slot. IsBlank (ship_slot s v.raw p.0 p.1 slot)) (ship-blank v.raw p.0 p.1) v.slots blank)) in (
        rest.0,
        leads-first s (one v) (one z) (one rest.0) (Ship time revision p.0 p.1) (map (λ q. Ship time revision q.0 q.1) ps)
            (can-one v is.mine (can_ship s p.0 p.1) (both_true is.staged (both_true ready.0.file (both_true ready.0.gave (both_true ready.0.point (ap not fresh.0))))))
            (on-one v is.mine (ship s p.0 p.1)) rest.1,
        record { is_open = rest.2.is_open; raw_is = rest.2.raw_is; time_is = rest.2.time_is; revision_is = rest.2.revision_is; shipped = rest.2.shipped ∙ append_assoc v.shipped (p ∷ []) ps; blank = rest.2.blank },
      )

  -- ---- Write

  abbrev is_written : ℕ → Slot → Bool
  is_written file slot = nat_eq slot.file file && is_some slot.sealed

  -- a slot is sealed, or its file is one of these
  abbrev is_left : List ℕ → Slot → Bool
  is_left files slot = is_some slot.sealed || has slot.file files

  -- a volume whose slots are all sealed
  record IsWhole (v u : Volume) : Type 0 where
    is_open : IsOpen u
    raw_is : u.raw ≡ v.raw
    time_is : u.time ≡ v.time
    revision_is : u.revision ≡ v.revision
    sealed : list_all (λ slot. is_some slot.sealed) u.slots ≡ true

  module _ (t r k : ℕ) (slot : Slot) where
    abbrev with_file : Slot
    with_file = record slot { sealed = Some (s.name t r k, s.lay k slot.dock) }

    -- a slot that is not one of another file stays so
    seal-other : (j : ℕ) → nat_eq k j ≡ false → is_written j slot ≡ false → is_written j (seal_slot s t r k slot) ≡ false
    seal-other j other was = (elim (nat_eq slot.file k) as (λ b. nat_eq slot.file k ≡ b → is_written j (cond b with_file slot) ≡ false) [
      | true ↦ λ e. ap (λ n. nat_eq n j && true) (eqb-true slot.file k e) ∙ ap (λ b. b && true) other
      | false ↦ λ e. was
    ]) refl

    seal-left : (files : List ℕ) → is_left (k ∷ files) slot ≡ true → is_left files (seal_slot s t r k slot) ≡ true
    seal-left files was = (elim (nat_eq slot.file k) as (λ b. (is_some slot.sealed || (b || has slot.file files)) ≡ true → is_left files (cond b with_file slot) ≡ true) [
      | true ↦ λ h. refl
      | false ↦ λ h. h
    ]) was

  seal-others : (t r k j : ℕ) (slots : List Slot) → nat_eq k j ≡ false → list_any (is_written j) slots ≡ false → list_any (is_written j) (map (seal_slot s t r k) slots) ≡ false
  seal-others t r k j [] other was = refl
  seal-others t r k j (slot ∷ slots) other was =
      neither (is_written j (seal_slot s t r k slot)) (list_any (is_written j) (map (seal_slot s t r k) slots))
      (seal-other t r k slot j other (first-false (is_written j slot) (list_any (is_written j) slots) was))
      (seal-others t r k j slots other (second-false (is_written j slot) (list_any (is_written j) slots) was))

  or-nothing : (b : Bool) → (b || false) ≡ true → b ≡ true
  or-nothing true h = refl
  or-nothing false h = h

  write-all : (ks : List ℕ) (v : Volume) → IsOpen v → AllByRecursion (λ k. has k s.files ≡ true) ks → AllByRecursion (λ k. all_shipped s v.shipped k ≡ true) ks →
      AllByRecursion (λ k. list_any (is_written k) v.slots ≡ false) ks → IsDistinct nat_eq ks → AllByRecursion (λ slot. is_left ks slot ≡ true) v.slots →
      (u : Volume) × Leads s (one v) (map (λ k. Write time revision k) ks) (one u) × IsWhole v u
  write-all [] v is files shipped unwritten d left = (
    v,
    leads-none s (one v) (one v) refl,
    record {
      is_open = is;
      raw_is = refl;
      time_is = refl;
      revision_is = refl;
      sealed = all-of (λ slot. is_some slot.sealed) v.slots (Each-weaker (λ slot. is_left [] slot ≡ true) (λ slot. is_some slot.sealed ≡ true) (λ slot h. or-nothing (is_some slot.sealed) h) v.slots left);
    },
  )
  write-all (k ∷ ks) v is files shipped unwritten d left =
      let z : Volume = seal s k v in
      let rest = write-all ks z (record { mine = is.mine; staged = is.staged }) files.1 shipped.1
      (Each-both (λ j. list_any (is_written j) v.slots ≡ false) (λ j. nat_eq k j ≡ false) (λ j. list_any (is_written j) z.slots ≡ false)
      (λ j was other. seal-others v.time v.revision k j v.slots other was) ks unwritten.1 (IsDistinct-head nat_eq k ks d))
      (IsDistinct-tail nat_eq k ks d)
      (Each-map (seal_slot s v.time v.revision k) (λ slot. is_left ks slot ≡ true) v.slots
      (Each-weaker (λ slot. is_left (k ∷ ks) slot ≡ true) (λ slot. is_left ks (seal_slot s v.time v.revision k slot) ≡ true) (λ slot h. seal-left v.time v.revision k slot ks h) v.slots left)) in (
        rest.0,
        leads-first s (one v) (one z) (one rest.0) (Write time revision k) (map (λ j. Write time revision j) ks)
            (can-one v is.mine (can_write s k) (both_true is.staged (both_true files.0 (both_true shipped.0 (ap not unwritten.0)))))
            (on-one v is.mine (seal s k)) rest.1,
        record { is_open = rest.2.is_open; raw_is = rest.2.raw_is; time_is = rest.2.time_is; revision_is = rest.2.revision_is; sealed = rest.2.sealed },
      )

  -- ---- Publish

  abbrev published_world : Volume → World
  published_world v = record w { volumes = publish s v ∷ []; hall = after_publish (post_of_sealed s v) w.hall }

  publish-one : (v : Volume) → IsOpen v → list_all (λ slot. is_some slot.sealed) v.slots ≡ true → Leads s (one v) (Publish time revision ∷ []) (published_world v)
  publish-one v is sealed = leads-one s (one v) (published_world v) (Publish time revision)
      (both_true (can-one v is.mine (can_publish s) (both_true is.staged sealed)) (ap not not-later))
      (ap (λ b. let u : World = record w { volumes = cond b (publish s v ∷ []) (v ∷ []); hall = option_map_or (λ z. after_publish (post_of_sealed s z) w.hall) (cond b (Some v) None) w.hall } in u) is.mine)
    where
      not-later : list_any (is_later time revision) (v ∷ []) ≡ false
      not-later = neither (is_later time revision v) false (ap (λ b. b && (nat_eq v.time time && nat_lt revision v.revision)) (staged-unpublished v.phase is.staged)) refl

-- ---- all of them

module _ (s : Setting) (pieces : List ℕ) (ranks : ℕ) (all : AreAll s pieces ranks) where
  gave-all : (piece : ℕ) → has piece pieces ≡ true → all_gave s (parts s pieces ranks) piece ≡ true
  gave-all piece there = all-of (λ rank. has_pair (rank, piece) (parts s pieces ranks)) (s.ranks piece)
      (Each-both (λ rank. rank < ranks) (λ rank. has rank (s.ranks piece) ≡ true) (λ rank. has_pair (rank, piece) (parts s pieces ranks) ≡ true)
      (λ rank below legal. pairs-has (is_legal s) pieces rank piece (range_with_len 0 ranks) (has-range ranks 0 rank (omega arith) (omega arith)) there legal)
      (s.ranks piece) (each-has (λ p. AllByRecursion (λ rank. rank < ranks) (s.ranks p)) piece pieces all.below there) (Each-itself (s.ranks piece)))

  shipped-all : (file : ℕ) → has file s.files ≡ true → all_shipped s (shipments s pieces) file ≡ true
  shipped-all file there = all-of (λ piece. has_pair (piece, file) (shipments s pieces)) (s.pieces_in file)
      (Each-both (λ piece. has piece pieces ≡ true) (λ piece. has piece (s.pieces_in file) ≡ true) (λ piece. has_pair (piece, file) (shipments s pieces) ≡ true)
      (λ piece known point. pairs-has (λ p f. has p (s.pieces_in f)) s.files piece file pieces known there point)
      (s.pieces_in file) (each-has (λ f. AllByRecursion (λ piece. has piece pieces ≡ true) (s.pieces_in f)) file s.files all.covered there) (Each-itself (s.pieces_in file)))

  parts-legal : AllByRecursion (λ p. is_legal s p.0 p.1 ≡ true) (parts s pieces ranks)
  parts-legal = pairs-each (is_legal s) pieces (λ p. is_legal s p.0 p.1 ≡ true) (λ rank. Unit {0}) (λ rank piece any there legal. legal) (range_with_len 0 ranks) (Each-always (λ rank. Unit {0}) (λ rank. tt) (range_with_len 0 ranks))

  module _ (time revision : ℕ) (raw : List ℕ) (w : World) where
    abbrev fresh : Volume
    fresh = new_volume s time revision raw

    abbrev given : Volume
    given = with_given s time revision w fresh (parts s pieces ranks)

    fresh-open : IsOpen s time revision w fresh
    fresh-open = record { mine = both_true (eq-eqb time time refl) (eq-eqb revision revision refl); staged = refl }

    given-open : IsOpen s time revision w given
    given-open = record { mine = fresh-open.mine; staged = refl }

    fresh-blank : AllByRecursion (IsBlank s time revision w) fresh.slots
    fresh-blank = Each-map (new_slot s) (IsBlank s time revision w) s.files
        (Each-weaker (λ file. has file s.files ≡ true) (λ file. IsBlank s time revision w (new_slot s file)) (λ file there. (there, refl)) s.files (Each-itself s.files))

    ready : AllByRecursion (IsReady s time revision w (parts s pieces ranks)) (shipments s pieces)
    ready = pairs-each (λ piece file. has piece (s.pieces_in file)) s.files (IsReady s time revision w (parts s pieces ranks)) (λ piece. has piece pieces ≡ true)
        (λ piece file known there point. record { file = there; gave = gave-all piece known; point = point }) pieces (Each-itself pieces)

    blank-unwritten : (file : ℕ) (slots : List Slot) → AllByRecursion (IsBlank s time revision w) slots → list_any (is_written s time revision w file) slots ≡ false
    blank-unwritten file slots blank = none-any (is_written s time revision w file) slots
        (Each-weaker (IsBlank s time revision w) (λ slot. is_written s time revision w file slot ≡ false)
        (λ slot is. ap (λ (o : Option (List ℕ × List ℕ)). nat_eq slot.file file && is_some o) is.1 ∙ and-nothing (nat_eq slot.file file)) slots blank)
      where
        and-nothing : (b : Bool) → (b && false) ≡ false
        and-nothing true = refl
        and-nothing false = refl

    shipped-volume : (u : Volume) × Leads s (one s time revision w given) (ships s time revision pieces) (one s time revision w u) × IsShipped s time revision w given u (shipments s pieces)
    shipped-volume = ship-all s time revision w (shipments s pieces) given given-open ready
        (Each-always (λ p. has_pair p [] ≡ false) (λ p. refl) (shipments s pieces))
        (pairs-apart (λ piece file. has piece (s.pieces_in file)) s.files pieces all.pieces_apart all.files_apart) fresh-blank

    written-volume : (u : Volume) → IsShipped s time revision w given u (shipments s pieces) → (v : Volume) × Leads s (one s time revision w u) (writes s time revision) (one s time revision w v) × IsWhole s time revision w u v
    written-volume u is = write-all s time revision w s.files u is.is_open (Each-itself s.files)
        (Each-weaker (λ file. has file s.files ≡ true) (λ file. all_shipped s u.shipped file ≡ true)
        (λ file there. subst (λ l. all_shipped s l file ≡ true) (sym is.shipped) (shipped-all file there)) s.files (Each-itself s.files))
        (Each-always (λ file. list_any (is_written s time revision w file) u.slots ≡ false) (λ file. blank-unwritten file u.slots is.blank) s.files)
        all.files_apart
        (Each-weaker (IsBlank s time revision w) (λ slot. is_left s time revision w s.files slot ≡ true) (λ slot blank. or-right (is_some slot.sealed) (has slot.file s.files) blank.0) u.slots is.blank)

    given-leads : Leads s (one s time revision w fresh) (gives s time revision pieces ranks) (one s time revision w given)
    given-leads = give-all s time revision w (parts s pieces ranks) fresh fresh-open parts-legal (Each-always (λ p. has_pair p [] ≡ false) (λ p. refl) (parts s pieces ranks))
        (pairs-apart (is_legal s) pieces (range_with_len 0 ranks) (distinct-range ranks 0) all.pieces_apart)

    -- the volume that is left, once all is written
    written-whole : (v : Volume) × Leads s (one s time revision w fresh) (written s time revision pieces ranks) (published_world s time revision w v) × IsWhole s time revision w fresh v
    written-whole =
        let u : Volume = shipped-volume.0 in
        let is : IsShipped s time revision w given u (shipments s pieces) = shipped-volume.2 in
        let v : Volume = (written-volume u is).0 in
        let whole : IsWhole s time revision w u v = (written-volume u is).2 in (
          v,
          leads-append s (one s time revision w fresh) (one s time revision w given) (published_world s time revision w v)
              (gives s time revision pieces ranks) (ships s time revision pieces ++ (writes s time revision ++ Publish time revision ∷ [])) given-leads
              (leads-append s (one s time revision w given) (one s time revision w u) (published_world s time revision w v)
              (ships s time revision pieces) (writes s time revision ++ Publish time revision ∷ []) shipped-volume.1
              (leads-append s (one s time revision w u) (one s time revision w v) (published_world s time revision w v)
              (writes s time revision) (Publish time revision ∷ []) (written-volume u is).1
              (publish-one s time revision w v whole.is_open whole.sealed))),
          record {
            is_open = whole.is_open;
            raw_is = whole.raw_is ∙ is.raw_is;
            time_is = whole.time_is ∙ is.time_is;
            revision_is = whole.revision_is ∙ is.revision_is;
            sealed = whole.sealed;
          },
        )

  -- all events of a step may happen, and leave its volume published
  pub step-leads : (w : World) (time revision : ℕ) (raw : List ℕ) → w.volumes ≡ new_volume s time revision raw ∷ [] →
      (all_enabled s w (written s time revision pieces ranks) ≡ true) × IsWritten s w (new_volume s time revision raw) (run s w (written s time revision pieces ranks))
  step-leads w time revision raw alone =
      let done = written-whole time revision raw w in
      let same : one s time revision w (new_volume s time revision raw) ≡ w = ap (λ l. let u : World = record w { volumes = l } in u) (sym alone) in
      let to : Leads s w (written s time revision pieces ranks) (published_world s time revision w done.0) =
      subst (λ z. Leads s z (written s time revision pieces ranks) (published_world s time revision w done.0)) same done.1 in (
        to.may,
        subst (IsWritten s w (new_volume s time revision raw)) (sym to.after) (record {
          volume = publish s done.0;
          volumes = refl;
          hall = refl;
          queries = refl;
          phase = refl;
          time = done.2.time_is;
          revision = done.2.revision_is;
          raw = done.2.raw_is;
        }),
      )
