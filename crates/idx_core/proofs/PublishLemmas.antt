-- A revision is published.
use Rattle.std.proofs.Common.{◌≡◌, ℕ, Bool, true, false, not, ◌&&◌, List, [], ◌∷◌, All, map, get_or, set, Option, Some, None, Result, Ok, Err, refl, sym, ap, ◌∙◌, subst}
use Rattle.std.specs.List.{AllByRecursion, list_any, position}
use Rattle.idx_hall.specs.Calls.{IsAfter}
use Rattle.idx_hall.specs.Hall.{HallValue, after_publish}
use Rattle.idx_hall.specs.Posts.{Post, newest}
use Rattle.idx_hall.proofs.NewestLemmas.{newest-post}
use Rattle.idx_events.specs.Events.{hall_after_publish}
use Rattle.idx_events.specs.Lists.{change_first}
use Rattle.std.specs.Option.{option_map_or}
use Rattle.idx_events.specs.Setting.{Setting, step_files}
use Rattle.idx_events.specs.Volumes.{can_publish, is_later, is_of, post_of_sealed, publish, sealed_files}
use Rattle.idx_events.specs.World.{Volume}
use Rattle.idx_events.specs.WorldOk.{DocksOk, SealedOk}
use Rattle.idx_events.specs.declared.event.Event.TheVariants.{Publish}
use Rattle.idx_events.proofs.ListLemmas.{Each-found}
use Rattle.idx_events.proofs.VolumeLemmas.{publish-files}
use Rattle.idx_core_layers.specs.Division.{DivisionValue, layers_of}
use Rattle.idx_core_layers.specs.declared.step_refusal.StepRefusal.{StepRefusal}
use Rattle.idx_core_layers.specs.declared.step_refusal.StepRefusal.TheVariants.{NotEnabled, NoMemory}
use Rattle.idx_core_asks.specs.Asked.{AskedValue}
use Rattle.idx_core_steps.specs.Steps.{AreSlots, StepValue, published_step, step_can, volume_of}
use Rattle.idx_core_steps.proofs.ChangeLemmas.{change-done, change-none, change-refused, is-inside, read-found, same-read, slots-at, slots-set}
use Rattle.idx_core.specs.World.{AreWritten, IsPublishing, IsStep, may_publish, world_of}

-- the newest post of a timestep is one that a further post may follow
pub after-newest : (board : List Post) (time other : ℕ) (found : Option ℕ) → time ≡ other → found ≡ newest board other → IsAfter board time found
after-newest board time other None same is = tt
after-newest board time other (Some number) same is =
    let at = newest-post board time number (ap (newest board) same ∙ sym is) in (at.0, record { at = at.1.at; time = at.1.time })

-- what the files of a world are to be
pub all-written : (s : Setting) (vs : List Volume) → AllByRecursion (λ v. s.valid_step v.time v.revision ≡ true) vs → AllByRecursion (λ v. s.valid_raw v.raw ≡ true) vs →
    AllByRecursion (DocksOk s) vs → AllByRecursion (SealedOk s) vs → AllByRecursion (AreWritten s) vs
all-written s [] steps whole docks sealed = tt
all-written s (v ∷ vs) steps whole docks sealed =
    (record { step = steps.0; whole = whole.0; files = λ can. publish-files s v can docks.0 sealed.0 }, all-written s vs steps.1 whole.1 docks.1 sealed.1)

and-false : (b c : Bool) → c ≡ false → (b && c) ≡ false
and-false true c e = e
and-false false c e = refl

module _ (s : Setting) (time revision : ℕ) (vs : List StepValue) (h : HallValue) where
  abbrev pub later : Bool
  later = list_any (is_later time revision) (map volume_of vs)

  -- there is no such revision
  pub publish-none : None ≡ position (is_of time revision) (map volume_of vs) → IsPublishing s time revision vs h (Err NotEnabled) vs h
  publish-none e = (ap (λ b. b && not later) (change-none (can_publish s) (publish s) time revision vs e).0, refl, refl)

  module _ (i : ℕ) (e : Some i ≡ position (is_of time revision) (map volume_of vs)) where
    pub publish-refused : (read : StepValue) → read ≡ get_or vs i read → can_publish s (volume_of read) ≡ false → IsPublishing s time revision vs h (Err NotEnabled) vs h
    publish-refused read is cannot = (ap (λ b. b && not later) (change-refused (can_publish s) (publish s) time revision vs i e read is cannot).0, refl, refl)

    pub publish-passed : later ≡ true → IsPublishing s time revision vs h (Err NotEnabled) vs h
    publish-passed is = (and-false (step_can (can_publish s) time revision vs) (not later) (ap not is), refl, refl)

    module _ (read : StepValue) (is : read ≡ get_or vs i read) (can : can_publish s (volume_of read) ≡ true) (last : later ≡ false) where
      may : may_publish s time revision vs ≡ true
      may = ap (λ o. option_map_or (can_publish s) o false && not later) (read-found (can_publish s) (publish s) time revision vs i e read is)
          ∙ ap (λ b. b && not later) can ∙ ap not last

      pub written-at : (other : StepValue) → other ≡ get_or vs i other → AllByRecursion (AreWritten s) (map volume_of vs) → AreWritten s (volume_of other)
      written-at other other_is written =
          Each-found (is_of time revision) (AreWritten s) (map volume_of vs) (volume_of other) written (read-found (can_publish s) (publish s) time revision vs i e other other_is)

      pub files-at : (other : StepValue) → other ≡ get_or vs i other → AllByRecursion (AreWritten s) (map volume_of vs) → sealed_files (volume_of other).slots ≡ step_files s other.time other.revision other.raw
      files-at other other_is written =
          (written-at other other_is written).files (ap (λ (z : StepValue). can_publish s (volume_of z)) (sym (same-read (can_publish s) (publish s) time revision vs i e read other is can other_is)) ∙ can)

      pub publish-memory : (k : HallValue) → k ≡ h → IsPublishing s time revision vs h (Err NoMemory) vs k
      publish-memory k same = (may, refl, same)

      pub publish-done : (shown old new : StepValue) (k : HallValue) → shown ≡ get_or vs i shown → old ≡ get_or vs i old → new ≡ published_step old → k ≡ after_publish (post_of_sealed s (volume_of shown)) h →
          IsPublishing s time revision vs h (Ok tt) (set vs i new) k
      publish-done shown old new k shown_is old_is made posted = (
        may,
        (change-done (can_publish s) (publish s) time revision vs i e read old is can old_is new (ap volume_of made)).1,
        posted ∙ sym (ap (λ o. hall_after_publish s o h) (read-found (can_publish s) (publish s) time revision vs i e shown shown_is)),
      )

-- the aggregators are what they were
pub publish-slots : (d : DivisionValue) (time revision : ℕ) (vs : List StepValue) (i : ℕ) → Some i ≡ position (is_of time revision) (map volume_of vs) → (old new : StepValue) →
    old ≡ get_or vs i old → new ≡ published_step old → All (AreSlots d) vs → All (AreSlots d) (set vs i new)
publish-slots d time revision vs i e old new is made slots =
    slots-set d vs i new (subst (AreSlots d) (sym made) (slots-at d vs i old is (is-inside (can_publish (layers_of d)) (publish (layers_of d)) time revision vs i e old) slots)) slots

-- a step of a world
pub publish-step : (s : Setting) (steps : List StepValue) (h : HallValue) (asked : List AskedValue) (time revision : ℕ) (result : Result (Unit {0}) StepRefusal) (new : List StepValue) (k : HallValue) →
    IsPublishing s time revision steps h result new k → IsStep s (world_of steps h asked) (Publish time revision) result (world_of new k asked)
publish-step s steps h asked time revision (Ok done) new k i = (i.0, ap (λ vs. record (world_of new k asked) { volumes = vs }) i.1 ∙ ap (λ z. record (world_of steps z asked) { volumes = change_first (is_of time revision) (publish s) (map volume_of steps) }) i.2)
publish-step s steps h asked time revision (Err NotEnabled) new k i = (i.0, ap (λ vs. world_of vs k asked) i.1 ∙ ap (λ z. world_of steps z asked) i.2)
publish-step s steps h asked time revision (Err NoMemory) new k i = (i.0, ap (λ vs. world_of vs k asked) i.1 ∙ ap (λ z. world_of steps z asked) i.2)
