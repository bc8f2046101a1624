-- From the files of some volume to the step of a raw volume, and what the refusals on the way say of the whole.
use Rattle.std.proofs.Common.{◌≡◌, ℕ, ◌⊎◌, Bool, inl, inr, List, [], length, map, take, refl, sym, ap, subst, ◌∙◌, arith}
use Rattle.std.specs.Prelude.{IfErr, IfOk, IfSome, IsSome, OnErr, OnOk, Option, Some, None, Result, Ok, Err, replicate}
use Rattle.std.specs.Option.{ForSome}
use Rattle.std.specs.Result.{IsErrAnd}
use Rattle.std.proofs.lemmas.List.{length-map, length-replicate, take_all}
use Rattle.idx_outside.specs.Files.{LiesIn, entry_shown, known_files, shown}
use Rattle.idx_outside.specs.Shape.{Shape}
use Rattle.idx_outside.specs.declared.bay_call.BayCall.{BayCall}
use Rattle.idx_outside.specs.declared.mem_file.MemFile.{MemFile}
use Rattle.idx_header.specs.Header.{HeaderValue, volume_bytes}
use Rattle.idx_header.specs.Names.{file_name, step_folder}
use Rattle.idx_rowmajor.specs.declared.layout.Layout.{Layout}
use Rattle.idx_layout.specs.OfHeader.{placing_of}
use Rattle.idx_layout.specs.Placing.{file_numbers}
use Rattle.idx_layout.specs.Step.{step_file, step_files, volume_of_raw}
use Rattle.idx_volumes.proofs.JoinLemmas.{raw_is}
use Rattle.idx_gather.specs.Gather.{HasBlocksOf, HasVolume, HoldsAdded, IsCaused, IsStoreFault, LacksVolume, LeavesAs, LeavesFailed, SomeStepAddedAs, StepAddedAs}
use Rattle.idx_gather.specs.States.{AreFirstFiles, IsStepOf}
use Rattle.idx_gather.specs.declared.gather_fault.GatherFault.{GatherFault}
use Rattle.idx_gather.specs.declared.gather_fault.GatherFault.TheVariants.{RawWrongSize, RawFault, StoreFault, NoMemory}
use Rattle.idx_gather.proofs.EditionLemmas.{is_volume}
use Rattle.idx_gather.proofs.SealAllLemmas.{none_failed}
use Rattle.idx_gather.proofs.StepLemmas.{folder_exists, name_lies}

-- ---- the beginning

-- what holds of each path in the step's folder holds of each file's
pub admits_files : (P : List ℕ → Type 0) (h : HeaderValue) (step : ℕ) → IsSome h.steps → ForSome (step_folder h step) (λ folder. (path : List ℕ) → LiesIn folder path → P path) →
    (file : ℕ) → P (file_name h step file)
admits_files P h step timed all file = by_folder (step_folder h step) refl
  where
    by_folder : (o : Option (List ℕ)) → step_folder h step ≡ o → P (file_name h step file)
    by_folder None none = absurd (folder_exists h step timed none)
    by_folder (Some folder) is = all folder is (file_name h step file) (name_lies h step file folder is)

-- no file yet is the beginning of the step of some volume, that of the raw input where this is told
pub none_yet : (layout : Layout) (h : HeaderValue) (step : ℕ) (known : Option (List MemFile)) (told : Option (List ℕ)) (files : List ℕ) → HasVolume h told → AreFirstFiles layout h step known told files []
none_yet layout h step known None files has =
    let bytes : List ℕ = replicate (volume_bytes h) 0 in
    record { volume = volume_of_raw h bytes; is = is_volume h bytes (length-replicate (volume_bytes h) 0); told_is = tt; same = refl }
none_yet layout h step known (Some raw) files has = record { volume = volume_of_raw h raw; is = is_volume h raw has; told_is = refl; same = refl }

-- ---- the end

-- sealed files are those of the step of some raw input
pub record IsSomeStep (layout : Layout) (h : HeaderValue) (step : ℕ) (known : Option (List MemFile)) (told : Option (List ℕ)) (sealed : List (List ℕ × Option (List ℕ))) : Type 0 where
  pub raw : List ℕ
  pub is : IsStepOf layout h step known sealed raw
  pub told_is : IfSome told (λ bytes. raw ≡ bytes)

of_volume : (layout : Layout) (h : HeaderValue) (step : ℕ) (known : Option (List MemFile)) (files : List ℕ) (sealed : List (List ℕ × Option (List ℕ))) (volume : List (List (List ℕ))) (raw : List ℕ) →
    files ≡ file_numbers (placing_of h) → length sealed ≡ length files → sealed ≡ known_files known (map (step_file layout h volume step) (take (length sealed) files)) →
    volume ≡ volume_of_raw h raw → length raw ≡ volume_bytes h → IsStepOf layout h step known sealed raw
of_volume layout h step known files sealed volume raw numbers all same is whole = record {
  whole = whole;
  same = same ∙ ap (λ n. known_files known (map (step_file layout h volume step) (take n files))) all
      ∙ ap (λ xs. known_files known (map (step_file layout h volume step) xs)) (take_all (length files) files (omega arith) ∙ numbers)
      ∙ ap (λ v. known_files known (step_files layout h v step)) is;
}

-- once all are sealed
pub all_sealed : (layout : Layout) (h : HeaderValue) (step : ℕ) (known : Option (List MemFile)) (told : Option (List ℕ)) (files : List ℕ) (sealed : List (List ℕ × Option (List ℕ))) →
    files ≡ file_numbers (placing_of h) → length sealed ≡ length files → HasVolume h told → AreFirstFiles layout h step known told files sealed → IsSomeStep layout h step known told sealed
all_sealed layout h step known None files sealed numbers all has first =
    let some = raw_is h first.volume first.is in
    record { raw = some.0; is = of_volume layout h step known files sealed first.volume some.0 numbers all first.same (sym some.1.1) some.1.0; told_is = tt }
all_sealed layout h step known (Some raw) files sealed numbers all has first =
    record { raw = raw; is = of_volume layout h step known files sealed first.volume raw numbers all first.same first.told_is has; told_is = refl }

-- so it is with what equals this
pub sealed_step : {L : Type 0} (contents : L → Option (List ℕ)) (l m : Layout) (asked h g : HeaderValue) (step s : ℕ) (known k : Option (List MemFile)) (told now : Option (List ℕ)) (files : List ℕ)
    (leaves done : List (List ℕ × L)) → l ≡ m → h ≡ g → g ≡ asked → step ≡ s → known ≡ k → now ≡ told → leaves ≡ done → files ≡ file_numbers (placing_of g) → length done ≡ length files → HasVolume asked told →
    AreFirstFiles m g s k now files (shown contents done) → IsSomeStep l h step known told (shown contents leaves)
sealed_step {L} contents l m asked h g step s known k told now files leaves done lm hg ga ss kk tn same numbers all has first =
    let right : HasVolume g now = subst (λ (x : Option (List ℕ)). HasVolume g x) (sym tn) (subst (λ (x : HeaderValue). HasVolume x told) (sym ga) has) in
    let one : IsSomeStep m g s k now (shown contents done) =
    all_sealed m g s k now files (shown contents done) numbers (length-map done (entry_shown contents) ∙ all) right first in
    subst (λ (x : List (List ℕ × L)). IsSomeStep l h step known told (shown contents x)) (sym same)
    (subst (λ (x : Option (List ℕ)). IsSomeStep l h step known x (shown contents done)) tn
    (subst (λ (x : Option (List MemFile)). IsSomeStep l h step x now (shown contents done)) (sym kk)
    (subst (λ (x : ℕ). IsSomeStep l h x k now (shown contents done)) (sym ss)
    (subst (λ (x : HeaderValue). IsSomeStep l x s k now (shown contents done)) (sym hg)
    (subst (λ (x : Layout). IsSomeStep x g s k now (shown contents done)) (sym lm) one)))))

module _ (layout l : Layout) (h g : HeaderValue) (step s : ℕ) (old k : Option (List MemFile)) (new : Option (List MemFile)) (told : Option (List ℕ)) (sealed : List (List ℕ × Option (List ℕ)))
    (ll : l ≡ layout) (gh : g ≡ h) (ss : s ≡ step) (kk : k ≡ old) (some : IsSomeStep l g s k told sealed) where
  some_added : ((raw : List ℕ) → IsStepOf l g s k sealed raw → StepAddedAs l g s k new raw) → SomeStepAddedAs layout h step told old new
  some_added gives =
      subst (λ (x : Option (List MemFile)). SomeStepAddedAs layout h step told x new) kk
      (subst (λ (x : ℕ). SomeStepAddedAs layout h x told k new) ss
      (subst (λ (x : HeaderValue). SomeStepAddedAs layout x s told k new) gh
      (subst (λ (x : Layout). SomeStepAddedAs x g s told k new) ll (some.raw, (some.is.whole, some.told_is, gives some.raw some.is)))))

  -- the step that was committed was added
  pub added_all : {T : Type 0} (r : Result T GatherFault) → OnOk r ((raw : List ℕ) → IsStepOf l g s k sealed raw → StepAddedAs l g s k new raw) → OnOk r (SomeStepAddedAs layout h step told old new)
  added_all (Ok v) gives = some_added gives
  added_all (Err fault) gives = tt

  -- what it tells of its blocks, it tells of the raw input where this is told
  pub blocks_all : {T : Type 0} (r : Result T GatherFault) (stored : T → Option (ℕ → ℕ → List ℕ)) → IfOk r (λ edition. (raw : List ℕ) → IsStepOf l g s k sealed raw → HasBlocksOf g raw (stored edition)) →
      IfOk r (λ edition. IfSome told (λ bytes. HasBlocksOf h bytes (stored edition)))
  blocks_all (Ok v) stored gives = subst (λ (x : HeaderValue). IfSome told (λ bytes. HasBlocksOf x bytes (stored v))) gh (by_told told some.told_is)
    where
      by_told : (o : Option (List ℕ)) → IfSome o (λ bytes. some.raw ≡ bytes) → IfSome o (λ bytes. HasBlocksOf g bytes (stored v))
      by_told None is = tt
      by_told (Some bytes) is = subst (λ (x : List ℕ). HasBlocksOf g x (stored v)) is (gives some.raw some.is)
  blocks_all (Err fault) stored gives = tt

  -- it holds what the files store that were added
  pub holds_all : {T : Type 0} (r : Result T GatherFault) (shape : T → Shape) (has : T → ℕ → ℕ → Bool) (stored : T → Option (ℕ → ℕ → List ℕ)) (leaves : T → List (List ℕ × Option (List ℕ))) →
      IfOk r (λ edition. (raw : List ℕ) → IsStepOf l g s k sealed raw → HoldsAdded g s k new (shape edition) (has edition) (stored edition) (leaves edition)) →
      IfOk r (λ edition. HoldsAdded h step old new (shape edition) (has edition) (stored edition) (leaves edition))
  holds_all (Ok v) shape has stored leaves gives =
      subst (λ (x : Option (List MemFile)). HoldsAdded h step x new (shape v) (has v) (stored v) (leaves v)) kk
      (subst (λ (x : ℕ). HoldsAdded h x k new (shape v) (has v) (stored v) (leaves v)) ss
      (subst (λ (x : HeaderValue). HoldsAdded x s k new (shape v) (has v) (stored v) (leaves v)) gh
      (gives some.raw some.is)))
  holds_all (Err fault) shape has stored leaves gives = tt

  -- and a commit that failed leaves the files as they were, or all of it stands
  pub left_all : {T : Type 0} (r : Result T GatherFault) (before after : ℕ) → IfErr r (IsStoreFault before after) →
      OnErr r ((new ≡ k) ⊎ ((raw : List ℕ) → IsStepOf l g s k sealed raw → StepAddedAs l g s k new raw)) → IfErr r (λ fault. fault ≡ NoMemory → new ≡ k) → IfErr r (LeavesAs layout h step told old new)
  left_all (Ok v) before after cause whole none = tt
  left_all (Err (RawWrongSize want found)) before after cause whole none = absurd cause
  left_all (Err (RawFault rank faults)) before after cause whole none = absurd cause
  left_all (Err (StoreFault faults)) before after cause whole none = elim whole [ inl same ↦ inl (same ∙ kk) | inr gives ↦ inr (some_added gives) ]
  left_all (Err NoMemory) before after cause whole none = none refl ∙ kk

-- ---- refusals

-- where the store was not asked, its fault is none
pub unfailed : {T : Type 0} (r : Result T GatherFault) (fault : GatherFault) (h : HeaderValue) (told : Option (List ℕ)) (start raws : List ℕ) (old : Option (List MemFile)) (failed : Option BayCall) →
    IsErrAnd r (λ y. y ≡ fault) → IsCaused h told start raws 0 0 fault → LeavesFailed old old failed failed r
unfailed r fault h told start raws old failed gives caused = none_failed r fault h told start raws old old failed failed gives caused refl

-- a raw volume that has the right length does not lack it
pub has_not_lacks : (h : HeaderValue) (told : Option (List ℕ)) → HasVolume h told → LacksVolume h told → ⊥
has_not_lacks h None has lacks = lacks
has_not_lacks h (Some raw) has lacks = lacks has
