-- What workers made of a row.
use Rattle.std.proofs.Common.{◌≡◌, ℕ, suc, ◌<◌, Bool, true, false, List, [], ◌∷◌, ◌++◌, Option, Some, None, All, length, get_or, map, refl, sym, ap, subst, ◌∙◌, arith, append_assoc}
use Rattle.std.specs.Prelude.{◌||◌}
use Rattle.std.specs.List.{AllByRecursion, list_any, sum_by}
use Rattle.std.specs.Option.{ForSome}
use Rattle.std.proofs.lemmas.List.{map-append, map_push}
use Rattle.std.proofs.lemmas.List.Elements.{All-head, All-tail, All-weaker}
use Rattle.std.proofs.lemmas.List.Sums.{sum_by-cons}
use Rattle.idx_outside.specs.Files.{entry_shown, known_files, known_with, retold}
use Rattle.idx_outside.specs.declared.mem_file.MemFile.{MemFile}
use Rattle.idx_rowmajor.specs.declared.layout.Layout.{Layout}
use Rattle.idx_dock.specs.Content.{dock_bytes_as}
use Rattle.idx_dock.specs.Dock.{DockValue}
use Rattle.idx_seal.specs.declared.job.Job.{Job}
use Rattle.idx_seal.specs.declared.written.Written.{Written}
use Rattle.idx_seal.specs.declared.written.Written.TheVariants.{Open, Sealed, Failed}
use Rattle.idx_seal.specs.Jobs.{Finishes, IsOpen, IsOpened, Writes, WritesTo, ends_finished, faults_of, file_faults, has_failed, is_failed, is_sealed, job_shown, leaf_shown, planned, planned_bytes}

or_false : (a b : Bool) → (a || b) ≡ false → (a ≡ false) × (b ≡ false)
or_false true b none = absurd (cc)
or_false false b none = (refl, none)

-- what holds of each one, told one after the other
pub all_in_turn : {X : Type 0} (P : X → Type 0) (xs : List X) → All P xs → AllByRecursion P xs
all_in_turn P [] all = tt
all_in_turn P (x ∷ xs) all = (All-head P x xs all, all_in_turn P xs (All-tail P x xs all))

known_retold : (known : Option (List MemFile)) (bytes : List ℕ) → retold (known_with known []) bytes ≡ known_with known bytes
known_retold None bytes = refl
known_retold (Some files) bytes = refl

known_empty : (known : Option (List MemFile)) → ForSome (known_with known []) (λ bytes. bytes ≡ [])
known_empty None = λ bytes some. let wrong : None ≡ Some bytes = some in absurd (cc)
known_empty (Some files) = λ bytes some. let same : [] ≡ bytes = cc in sym same

-- the leaves of a row behind those of the rows before
pub row_leaves : (known : Option (List MemFile)) (new old row : List (List ℕ × Option (List ℕ))) (files rest all : List (List ℕ × List ℕ)) →
    new ≡ old ++ row → row ≡ known_files known files → files ++ rest ≡ all → new ++ known_files known rest ≡ old ++ known_files known all
row_leaves known new old row files rest all put made parts =
    ap (λ s. s ++ known_files known rest) (put ∙ ap (λ s. old ++ s) made)
    ∙ append_assoc old (known_files known files) (known_files known rest)
    ∙ ap (λ s. old ++ s) (sym (map-append (entry_shown (known_with known)) files rest) ∙ ap (known_files known) parts)

-- one more dock, of which a job was made
pub planned_more : {D L : Type 0} (f : DockValue → List ℕ × List ℕ) (jobs : List (Job D L)) (job : Job D L) (docks rest : List DockValue) (dock : DockValue) (all : List (List ℕ × List ℕ)) →
    docks ≡ dock ∷ rest → planned job ≡ f dock → map planned jobs ++ map f docks ≡ all → map planned (jobs ++ job ∷ []) ++ map f rest ≡ all
planned_more f jobs job docks rest dock all first made before =
    ap (λ s. s ++ map f rest) (map_push planned jobs job)
    ∙ append_assoc (map planned jobs) (planned job ∷ []) (map f rest)
    ∙ ap (λ file. map planned jobs ++ file ∷ map f rest) made
    ∙ ap (λ s. map planned jobs ++ map f s) (sym first) ∙ before

module _ {D L : Type 0} (contents path : D → Option (List ℕ)) (faults : D → ℕ) (leaf_contents leaf_path : L → Option (List ℕ)) (leaf_faults : L → ℕ) (known : Option (List MemFile)) where
  -- a job whose draft was just made can be run
  pub opened_open : (jobs : List (Job D L)) → All (IsOpened contents path faults known) jobs → All (IsOpen contents) jobs
  opened_open jobs opened =
      let P : Job D L → Type 0 = IsOpened contents path faults known in
      let Q : Job D L → Type 0 = IsOpen contents in
      All-weaker P Q (λ job is. record {
        dock = is.dock;
        draft = is.draft;
        is = is.is;
        complete = is.complete;
        empty = subst (λ c. ForSome c (λ bytes. bytes ≡ [])) (sym is.empty) (known_empty known);
      }) jobs opened

  -- drafts that were just made have counted no fault
  pub opened_faultless : (jobs : List (Job D L)) → All (IsOpened contents path faults known) jobs → sum_by (faults_of faults) jobs ≡ 0
  opened_faultless [] opened = refl
  opened_faultless (job ∷ jobs) opened =
      let P : Job D L → Type 0 = IsOpened contents path faults known in
      let first = All-head P job jobs opened in
      let none : faults_of faults job ≡ 0 = ap (file_faults faults) first.is ∙ first.unfailed in
      let more : sum_by (faults_of faults) jobs ≡ 0 = opened_faultless jobs (All-tail P job jobs opened) in
      sum_by-cons (faults_of faults) job jobs ∙ omega (arith, none, more)

  file_sealed : (layout : Layout) (dock : DockValue) (draft : D) (file : Option (Written D L)) → contents draft ≡ known_with known [] → WritesTo contents path faults leaf_contents leaf_path leaf_faults layout dock draft file → is_failed file ≡ false →
      (is_sealed file ≡ true) × (leaf_shown leaf_contents file ≡ known_with known (dock_bytes_as layout dock))
  file_sealed layout dock draft None empty written kept = absurd written
  file_sealed layout dock draft (Some (Open other back)) empty written kept = absurd written
  file_sealed layout dock draft (Some (Sealed leaf)) empty written kept = (refl, written.0 ∙ ap (λ c. retold c (dock_bytes_as layout dock)) empty ∙ known_retold known (dock_bytes_as layout dock))
  file_sealed layout dock draft (Some (Failed back)) empty written kept = let wrong : true ≡ false = kept in absurd (cc)

  file_failed : (layout : Layout) (dock : DockValue) (draft : D) (file : Option (Written D L)) → WritesTo contents path faults leaf_contents leaf_path leaf_faults layout dock draft file → is_failed file ≡ true → 0 < file_faults faults file
  file_failed layout dock draft None written failed = absurd written
  file_failed layout dock draft (Some (Open other back)) written failed = absurd written
  file_failed layout dock draft (Some (Sealed leaf)) written failed = let wrong : false ≡ true = failed in absurd (cc)
  file_failed layout dock draft (Some (Failed back)) written failed = written.0

  file_finished : (layout : Layout) (at : List ℕ) (dock : DockValue) (draft : D) (file : Option (Written D L)) → path draft ≡ known_with known at → faults draft ≡ 0 →
      WritesTo contents path faults leaf_contents leaf_path leaf_faults layout dock draft file → ends_finished leaf_path leaf_faults known at file
  file_finished layout at dock draft None named unfailed written = tt
  file_finished layout at dock draft (Some (Open other back)) named unfailed written = tt
  file_finished layout at dock draft (Some (Sealed leaf)) named unfailed written = (written.1 ∙ named, written.2 ∙ unfailed)
  file_finished layout at dock draft (Some (Failed back)) named unfailed written = tt

  -- those that were sealed tell the paths of their jobs, and no fault
  pub row_finished : (old new : List (Job D L)) → length new ≡ length old →
      ((i : ℕ) (d : Job D L) → i < length old → Writes contents path faults leaf_contents leaf_path leaf_faults (get_or old i d) (get_or new i d)) →
      All (IsOpened contents path faults known) old → AllByRecursion (Finishes leaf_path leaf_faults known) new
  row_finished [] [] number each opened = tt
  row_finished [] (n ∷ ns) number each opened = absurd (omega (arith, number))
  row_finished (o ∷ os) [] number each opened = absurd (omega (arith, number))
  row_finished (o ∷ os) (n ∷ ns) number each opened =
      let P : Job D L → Type 0 = IsOpened contents path faults known in
      let first = All-head P o os opened in
      let wrote = each 0 o (omega arith) in
      let named : path first.draft ≡ known_with known n.path = first.named ∙ ap (known_with known) (sym wrote.same) in (
        file_finished o.layout n.path first.dock first.draft n.file named first.unfailed (wrote.file first.dock first.draft first.is),
        row_finished os ns (omega (arith, number)) (λ i d within. each (suc i) d (omega (arith, within))) (All-tail P o os opened),
      )

  -- where no draft came back, all were sealed, with the bytes that were to be written
  pub row_sealed : (old new : List (Job D L)) → length new ≡ length old →
      ((i : ℕ) (d : Job D L) → i < length old → Writes contents path faults leaf_contents leaf_path leaf_faults (get_or old i d) (get_or new i d)) →
      All (IsOpened contents path faults known) old → list_any has_failed new ≡ false →
      AllByRecursion (λ job. is_sealed job.file ≡ true) new × (map (job_shown leaf_contents) new ≡ known_files known (map planned old))
  row_sealed [] [] number each opened kept = (tt, refl)
  row_sealed [] (n ∷ ns) number each opened kept = absurd (omega (arith, number))
  row_sealed (o ∷ os) [] number each opened kept = absurd (omega (arith, number))
  row_sealed (o ∷ os) (n ∷ ns) number each opened kept =
      let P : Job D L → Type 0 = IsOpened contents path faults known in
      let first = All-head P o os opened in
      let wrote = each 0 o (omega arith) in
      let none = or_false (has_failed n) (list_any has_failed ns) kept in
      let made = file_sealed o.layout first.dock first.draft n.file first.empty (wrote.file first.dock first.draft first.is) none.0 in
      let rest = row_sealed os ns (omega (arith, number)) (λ i d within. each (suc i) d (omega (arith, within))) (All-tail P o os opened) none.1 in
      let shown_first : job_shown leaf_contents n ≡ entry_shown (known_with known) (planned o) =
      ap (λ p. (p, leaf_shown leaf_contents n.file)) wrote.same
      ∙ ap (λ c. (o.path, c)) (made.1 ∙ sym (ap (λ file. known_with known (planned_bytes o.layout file)) first.is)) in
      ((made.0, rest.0), ap (λ s. s ∷ map (job_shown leaf_contents) ns) shown_first ∙ ap (λ s. entry_shown (known_with known) (planned o) ∷ s) rest.1)

  -- where a draft came back, it has counted a fault
  pub row_failed : (old new : List (Job D L)) → length new ≡ length old →
      ((i : ℕ) (d : Job D L) → i < length old → Writes contents path faults leaf_contents leaf_path leaf_faults (get_or old i d) (get_or new i d)) →
      All (IsOpened contents path faults known) old → list_any has_failed new ≡ true → 0 < sum_by (faults_of faults) new
  row_failed [] [] number each opened failed = let wrong : false ≡ true = failed in absurd (cc)
  row_failed [] (n ∷ ns) number each opened failed = absurd (omega (arith, number))
  row_failed (o ∷ os) [] number each opened failed = absurd (omega (arith, number))
  row_failed (o ∷ os) (n ∷ ns) number each opened failed =
      let P : Job D L → Type 0 = IsOpened contents path faults known in
      let first = All-head P o os opened in
      let wrote = each 0 o (omega arith) in
      let sum = sum_by-cons (faults_of faults) n ns in
      by_test (has_failed n) refl failed
      (file_failed o.layout first.dock first.draft n.file (wrote.file first.dock first.draft first.is))
      (row_failed os ns (omega (arith, number)) (λ i d within. each (suc i) d (omega (arith, within))) (All-tail P o os opened))
    where
      by_test : (b : Bool) → has_failed n ≡ b → (b || list_any has_failed ns) ≡ true → (has_failed n ≡ true → 0 < faults_of faults n) →
          (list_any has_failed ns ≡ true → 0 < sum_by (faults_of faults) ns) → 0 < sum_by (faults_of faults) (n ∷ ns)
      by_test true is some this rest = let here : 0 < faults_of faults n = this is in omega (arith, here, sum_by-cons (faults_of faults) n ns)
      by_test false is some this rest = let there : 0 < sum_by (faults_of faults) ns = rest some in omega (arith, there, sum_by-cons (faults_of faults) n ns)
