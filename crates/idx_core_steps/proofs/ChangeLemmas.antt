-- What a change of a revision at its place answers.
use Rattle.std.proofs.Common.{◌≡◌, ℕ, ◌<◌, Bool, true, false, List, length, map, set, get_or, find, Some, None, Ok, Err, refl, sym, ap, ◌∙◌, subst}
use Rattle.std.specs.Prelude.{All}
use Rattle.std.specs.List.{AllByRecursion, position}
use Rattle.std.specs.Option.{option_map_or}
use Rattle.std.proofs.Math.ListN.{get_or-map}
use Rattle.std.proofs.lemmas.List.{length-map, map-set, set-get_or}
use Rattle.std.proofs.lemmas.List.Elements.{All-get_or, All-nil, All-set}
use Rattle.std.proofs.lemmas.List.Quantifiers.{position-Some}
use Rattle.idx_events.specs.World.{Volume}
use Rattle.idx_events.specs.Volumes.{is_of}
use Rattle.idx_events.specs.WorldOk.{DocksOk}
use Rattle.idx_events.proofs.ListLemmas.{Each-found}
use Rattle.idx_core_layers.specs.Division.{DivisionValue, layers_of}
use Rattle.idx_core_layers.specs.declared.step_refusal.StepRefusal.TheVariants.{NotEnabled, NoMemory}
use Rattle.idx_core_steps.specs.Steps.{AreSlots, HasAllFiles, IsChange, IsSlot, StepValue, abandoned_step, given_step, volume_of}
use Rattle.idx_core_steps.proofs.PlaceLemmas.{no-place, found-at, first-change, same-at}

module _ (test : Volume → Bool) (f : Volume → Volume) (time revision : ℕ) (vs : List StepValue) where
  -- there is no such revision
  pub change-none : None ≡ position (is_of time revision) (map volume_of vs) → IsChange test f time revision vs (Err NotEnabled) vs
  change-none h = (ap (λ o. option_map_or test o false) (no-place (is_of time revision) (map volume_of vs) (sym h)), refl)

  module _ (i : ℕ) (h : Some i ≡ position (is_of time revision) (map volume_of vs)) where
    -- the revision that was read is the one that is found
    pub read-found : (read : StepValue) → read ≡ get_or vs i read → find (is_of time revision) (map volume_of vs) ≡ Some (volume_of read)
    read-found read e = found-at (is_of time revision) (map volume_of vs) i (volume_of read) (sym h) ∙ ap Some (get_or-map volume_of vs i read ∙ ap volume_of (sym e))

    pub is-inside : (d : StepValue) → i < length vs
    is-inside d = subst (λ n. i < n) (length-map vs volume_of) (position-Some (is_of time revision) (map volume_of vs) i (volume_of d) (sym h)).0

    pub change-refused : (read : StepValue) → read ≡ get_or vs i read → test (volume_of read) ≡ false → IsChange test f time revision vs (Err NotEnabled) vs
    change-refused read e t = (ap (λ o. option_map_or test o false) (read-found read e) ∙ t, refl)

    module _ (read old : StepValue) (read_is : read ≡ get_or vs i read) (t : test (volume_of read) ≡ true) (old_is : old ≡ get_or vs i old) where
      pub change-memory : (new : StepValue) → new ≡ old → IsChange test f time revision vs (Err NoMemory) (set vs i new)
      change-memory new e = (ap (λ o. option_map_or test o false) (read-found read read_is) ∙ t, ap (set vs i) (e ∙ old_is) ∙ set-get_or vs i old)

      pub change-done : (new : StepValue) → volume_of new ≡ f (volume_of old) → IsChange test f time revision vs (Ok tt) (set vs i new)
      change-done new e = (
        ap (λ o. option_map_or test o false) (read-found read read_is) ∙ t,
        map-set volume_of vs i new
            ∙ ap (set (map volume_of vs) i) (e ∙ ap f (ap volume_of old_is ∙ sym (get_or-map volume_of vs i old)))
            ∙ sym (first-change (is_of time revision) f (map volume_of vs) i (volume_of old) (sym h)),
      )

      -- what was read is what is changed
      pub same-read : read ≡ old
      same-read = read_is ∙ same-at vs i read old (is-inside old) ∙ sym old_is

-- ---- what is known of each revision

module _ (d : DivisionValue) (vs : List StepValue) (i : ℕ) where
  pub slots-at : (read : StepValue) → read ≡ get_or vs i read → i < length vs → All (AreSlots d) vs → AreSlots d read
  slots-at read e inside slots = subst (AreSlots d) (sym e) (All-get_or (AreSlots d) vs i read inside slots)

  pub slots-set : (new : StepValue) → AreSlots d new → All (AreSlots d) vs → All (AreSlots d) (set vs i new)
  slots-set new is slots = All-set (AreSlots d) vs i new is slots

  pub files-at : (time revision : ℕ) (read : StepValue) → find (is_of time revision) (map volume_of vs) ≡ Some (volume_of read) → AllByRecursion (DocksOk (layers_of d)) (map volume_of vs) → HasAllFiles d read
  files-at time revision read found docks = (Each-found (is_of time revision) (DocksOk (layers_of d)) (map volume_of vs) (volume_of read) docks found).files

  pub step-at : (time revision : ℕ) (read : StepValue) → find (is_of time revision) (map volume_of vs) ≡ Some (volume_of read) →
      AllByRecursion (λ v. (layers_of d).valid_step v.time v.revision ≡ true) (map volume_of vs) → (layers_of d).valid_step read.time read.revision ≡ true
  step-at time revision read found valid = Each-found (is_of time revision) (λ v. (layers_of d).valid_step v.time v.revision ≡ true) (map volume_of vs) (volume_of read) valid found

  pub raw-at : (time revision : ℕ) (read : StepValue) → find (is_of time revision) (map volume_of vs) ≡ Some (volume_of read) →
      AllByRecursion (λ v. (layers_of d).valid_raw v.raw ≡ true) (map volume_of vs) → (layers_of d).valid_raw read.raw ≡ true
  raw-at time revision read found valid = Each-found (is_of time revision) (λ v. (layers_of d).valid_raw v.raw ≡ true) (map volume_of vs) (volume_of read) valid found

  -- the slots of a revision are what they were after a rank gave its part of a piece, and none are left after it was given up
  pub given-slots : (rank piece : ℕ) (old new : StepValue) → old ≡ get_or vs i old → i < length vs → new ≡ given_step rank piece old → All (AreSlots d) vs → All (AreSlots d) (set vs i new)
  given-slots rank piece old new at inside is slots = slots-set new (subst (AreSlots d) (sym is) (slots-at old at inside slots)) slots

  pub abandoned-slots : (old new : StepValue) → new ≡ abandoned_step old → All (AreSlots d) vs → All (AreSlots d) (set vs i new)
  abandoned-slots old new is slots = slots-set new (subst (AreSlots d) (sym is) (All-nil (IsSlot d old.raw old.shipped))) slots
