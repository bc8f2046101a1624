-- What holds of a new world, and of the world that a list of events leaves.
use Rattle.std.proofs.Common.{◌≡◌, ℕ, ◌<◌, true, false, if◌then◌else◌, List, [], ◌∷◌, map, filter, refl, ap, ◌∙◌, arith, Some, None}
use Rattle.std.specs.List.{AllByRecursion, IsDistinct}
use Rattle.idx_events.specs.Lists.{pair_eq}
use Rattle.idx_events.specs.Setting.{Setting, SettingOk, step_files}
use Rattle.idx_events.specs.World.{World, Volume, is_published}
use Rattle.idx_events.specs.Volumes.{is_published_of, count_of, revisions, dock_of, post_of, sealed_files}
use Rattle.idx_events.specs.Events.{enabled, effect}
use Rattle.idx_events.specs.Start.{new_query, new_slot, new_volume, new_volumes, new_world, replayed}
use Rattle.idx_events.specs.WorldOk.{WorldOk, GivenOk, DocksOk, SealedOk, IsSealed, HeldOk, AnswerOk, RoundsOk}
use Rattle.idx_plan.specs.declared.ask.Ask.{Ask}
use Rattle.idx_events.specs.declared.event.Event.{Event}
use Rattle.idx_events.proofs.ListLemmas.{no_Some, clash, Each-always, Each-map, map-map}
use Rattle.idx_hall.proofs.HallLemmas.{HallOk-new}
use Rattle.idx_events.proofs.WorldLemmas.{keeps}

no_pairs : IsDistinct pair_eq []
unfolding IsDistinct
no_pairs = tt

map-same : (xs : List ℕ) → map (λ (n : ℕ). n) xs ≡ xs
map-same [] = refl
map-same (x ∷ xs) = ap (λ l. x ∷ l) (map-same xs)

module _ (s : Setting) where
  new-docks : (time revision : ℕ) (raw : List ℕ) → DocksOk s (new_volume s time revision raw)
  new-docks time revision raw = record {
    files = λ live. map-map (new_slot s) (λ slot. slot.file) s.files ∙ map-same s.files;
    docks = Each-map (new_slot s) (λ slot. slot.dock ≡ dock_of s raw [] slot.file) s.files (Each-always (λ file. (new_slot s file).dock ≡ dock_of s raw [] file) (λ file. refl) s.files);
  }

  new-sealed : (time revision : ℕ) (raw : List ℕ) → SealedOk s (new_volume s time revision raw)
  new-sealed time revision raw = Each-map (new_slot s) (λ slot. (file : List ℕ × List ℕ) → slot.sealed ≡ Some file → IsSealed s (new_volume s time revision raw) slot file) s.files
      (Each-always (λ n. (file : List ℕ × List ℕ) → None ≡ Some file → IsSealed s (new_volume s time revision raw) (new_slot s n) file) (λ n file e. no_Some file e) s.files)

  -- what holds of each new volume holds of all
  each-new : (P : Volume → Type 0) → ((time revision : ℕ) (raw : List ℕ) → P (new_volume s time revision raw)) → (before : List ℕ) (volumes : List (ℕ × List ℕ)) → AllByRecursion P (new_volumes s before volumes)
  each-new P f before [] = tt
  each-new P f before (v ∷ more) = (f v.0 (count_of v.0 before) v.1, each-new P f (v.0 ∷ before) more)

  new-numbered : (before : List ℕ) (volumes : List (ℕ × List ℕ)) → map (λ v. v.revision) (new_volumes s before volumes) ≡ revisions before (map (λ v. v.time) (new_volumes s before volumes))
  new-numbered before [] = refl
  new-numbered before (v ∷ more) = ap (λ l. count_of v.0 before ∷ l) (new-numbered (v.0 ∷ before) more)

  new-whole : (before : List ℕ) (volumes : List (ℕ × List ℕ)) → AllByRecursion (λ v. s.valid_raw v.1 ≡ true) volumes → AllByRecursion (λ v. s.valid_raw v.raw ≡ true) (new_volumes s before volumes)
  new-whole before [] whole = tt
  new-whole before (v ∷ more) whole = (whole.0, new-whole (v.0 ∷ before) more whole.1)

  -- none of them is published
  new-unpublished : (time : ℕ) (before : List ℕ) (volumes : List (ℕ × List ℕ)) → [] ≡ map (post_of s) (filter (is_published_of time) (new_volumes s before volumes))
  new-unpublished time before [] = refl
  new-unpublished time before (v ∷ more) = new-unpublished time (v.0 ∷ before) more

  pub new-world : (volumes : List (ℕ × List ℕ)) (asks : List Ask) (capacity : ℕ) → 0 < capacity → AllByRecursion (λ v. s.valid_step v.time v.revision ≡ true) (new_volumes s [] volumes) →
      AllByRecursion (λ v. s.valid_raw v.1 ≡ true) volumes → AllByRecursion (λ ask. s.valid_ask ask ≡ true) asks → WorldOk s (new_world s volumes asks capacity)
  new-world volumes asks capacity some steps whole valid = record {
    volumes = record {
      numbered = new-numbered [] volumes;
      steps = steps;
      whole = new-whole [] volumes whole;
    };
    asks = Each-map new_query (λ x. s.valid_ask x.ask ≡ true) asks valid;
    shape = refl;
    given = each-new (GivenOk s) (λ time revision raw. record { apart = no_pairs; legal = tt; once = no_pairs; gave = tt }) [] volumes;
    docks = each-new (DocksOk s) new-docks [] volumes;
    sealed = each-new (SealedOk s) new-sealed [] volumes;
    board = record {
      posts = λ time. new-unpublished time [] volumes;
      files = each-new (λ v. is_published v.phase ≡ true → sealed_files v.slots ≡ step_files s v.time v.revision v.raw) (λ time revision raw is. absurd (clash is refl)) [] volumes;
    };
    hall = HallOk-new s.shape capacity some;
    held = Each-map new_query (HeldOk s []) asks (Each-always (λ ask. HeldOk s [] (new_query ask)) (λ ask. record { from = λ n e. no_Some n e; due = λ b. refl }) asks);
    answers = Each-map new_query (AnswerOk s (new_volumes s [] volumes) []) asks (Each-always (λ ask. AnswerOk s (new_volumes s [] volumes) [] (new_query ask)) (λ ask bytes e. no_Some bytes e) asks);
    rounds = Each-map new_query (RoundsOk s) asks (Each-always (λ ask. RoundsOk s (new_query ask)) (λ ask. record {
      fresh = λ none. record { ended = refl; round = refl; answer = refl };
      ended = omega arith;
      round = λ r e. no_Some r e;
    }) asks);
  }

  pub replay-keeps : SettingOk s → (es : List Event) (w : World) → WorldOk s w → WorldOk s (replayed s w es)
  replay-keeps laws [] w ok = ok
  replay-keeps laws (e ∷ es) w ok = (elim (enabled s w e) as (λ b. enabled s w e ≡ b → WorldOk s (if b then replayed s (effect s w e) es else w)) [
    | true ↦ λ can. replay-keeps laws es (effect s w e) (keeps s laws w ok e can)
    | false ↦ λ can. ok
  ]) refl
