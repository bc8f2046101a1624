-- The newest revision of a step that stands is one that stands.
use Rattle.std.proofs.Common.{◌≡◌, ℕ, zero, suc, ◌<◌, ◌↔◌, true, List, Option, Some, None, IfSome, sym, ◌∙◌, subst, arith}
use Rattle.std.specs.Prelude.{Err, IfErr, IfOk, Ok, Result}
use Rattle.std.proofs.lemmas.Option.{same_Some}
use Rattle.idx_outside.specs.Files.{has_folder}
use Rattle.idx_outside.specs.declared.mem_file.MemFile.{MemFile}
use Rattle.idx_header.specs.Header.{HeaderValue, HasTime, at_revision}
use Rattle.idx_header.specs.Names.{step_folder}
use Rattle.idx_header.specs.Revisions.{header_that_stands, last_header, next_revision, stands_at, stands_in}
use Rattle.idx_header.proofs.RevisionLemmas.{next_below}
use Rattle.idx_edition.specs.Loaded.{Counts, IsLoadCause}
use Rattle.idx_edition.specs.Newest.{HasBadTable, IsNewestCause}
use Rattle.idx_edition.specs.Stored.{IsAbsent, Stands, StandsAs, first_bad}
use Rattle.idx_edition.specs.declared.load_fault.LoadFault.{LoadFault}
use Rattle.idx_edition.proofs.SoFarLemmas.{cause_since}

some_none : {A : Type 0} {x : A} → Some x ≡ None → ⊥
some_none e = cc e

in_folder : (folder : Option (List ℕ)) (files : List MemFile) (r : ℕ) → stands_in folder files r ≡ true → IfSome folder (λ f. has_folder f files ≡ true)
in_folder None files r stands = tt
in_folder (Some f) files r stands = stands

-- the last of so many revisions that stand stands
last_stands : (h revised : HeaderValue) (step : ℕ) (files : List MemFile) (n : ℕ) → ((r : ℕ) → r < n → stands_at h step files r ≡ true) → last_header h n ≡ Some revised
    → HasTime h step → Stands revised step files
last_stands h revised step files zero below is has = cc is
last_stands h revised step files (suc r) below is has =
    subst (λ (x : HeaderValue). Stands x step files) (same_Some (at_revision r h) revised is)
    (has, in_folder (step_folder (at_revision r h) step) files r (below r (omega arith)))

-- a step stands at its newest revision
pub newest-stands : (h revised : HeaderValue) (step : ℕ) (files : List MemFile) → StandsAs h step files revised → Stands revised step files
newest-stands h revised step files stands = last_stands h revised step files (next_revision h step files) (next_below h step files) stands.1 stands.0

-- a step stands as one header alone
pub newest-one : (h a b : HeaderValue) (step : ℕ) (files : List MemFile) → StandsAs h step files a → StandsAs h step files b → a ≡ b
newest-one h a b step files first second = same_Some a b (sym first.1 ∙ second.1)

-- a step that stands is not absent
pub newest-not : (h revised : HeaderValue) (step : ℕ) (files : List MemFile) → StandsAs h step files revised → IsAbsent h step files → ⊥
newest-not h revised step files stands absent = some_none (sym stands.1 ∙ absent stands.0)

-- a step that stands was loaded: it is not absent
none_of : {T : Type 0} (h revised : HeaderValue) (step : ℕ) (known now : Option (List MemFile)) (found : Option HeaderValue) (loaded : Option T) → HasTime h step → now ≡ known → found ≡ Some revised
    → IfSome known (λ files. found ≡ header_that_stands h step files) → IfSome now (λ files. (loaded ≡ None) ↔ (¬ Stands revised step files)) → IfSome known (λ files. (loaded ≡ None) ↔ IsAbsent h step files)
none_of h revised step known now found loaded has same is newest none = by known newest (subst (λ (o : Option (List MemFile)). IfSome o (λ files. (loaded ≡ None) ↔ (¬ Stands revised step files))) same none)
  where
    by : (o : Option (List MemFile)) → IfSome o (λ files. found ≡ header_that_stands h step files) → IfSome o (λ files. (loaded ≡ None) ↔ (¬ Stands revised step files))
        → IfSome o (λ files. (loaded ≡ None) ↔ IsAbsent h step files)
    by None newest none = tt
    by (Some files) newest none =
        let stands : StandsAs h step files revised = (has, sym newest ∙ is) in
        (λ lacks. absurd (none.0 lacks (newest-stands h revised step files stands)), λ absent. absurd (newest-not h revised step files stands absent))

pub newest-none : {T E : Type 0} (r : Result (Option T) E) (h revised : HeaderValue) (step : ℕ) (known now : Option (List MemFile)) (found : Option HeaderValue) → HasTime h step → now ≡ known → found ≡ Some revised
    → IfSome known (λ files. found ≡ header_that_stands h step files) → IfOk r (λ loaded. IfSome now (λ files. (loaded ≡ None) ↔ (¬ Stands revised step files)))
    → IfOk r (λ loaded. IfSome known (λ files. (loaded ≡ None) ↔ IsAbsent h step files))
newest-none (Ok loaded) h revised step known now found has same is newest none = none_of h revised step known now found loaded has same is newest none
newest-none (Err fault) h revised step known now found has same is newest none = tt

-- the cause of the newest revision's refusal is the step's
pub newest-cause : {T : Type 0} (r : Result T LoadFault) (h revised : HeaderValue) (step : ℕ) (known now : Option (List MemFile)) (found : Option HeaderValue) (c d : Counts) → HasTime h step → now ≡ known → found ≡ Some revised
    → IfSome known (λ files. found ≡ header_that_stands h step files) → c ≡ d → IfErr r (IsLoadCause revised step now c) → IfErr r (IsNewestCause h step known d)
newest-cause (Ok loaded) h revised step known now found c d has same is newest counted cause = tt
newest-cause (Err fault) h revised step known now found c d has same is newest counted cause =
    cause_since (λ bad. IfSome now (λ files. Stands revised step files × (first_bad revised step files ≡ Some bad))) (λ bad. IfSome known (λ files. HasBadTable h step files bad))
    (λ bad first. of_newest known bad newest (subst (λ (o : Option (List MemFile)). IfSome o (λ files. Stands revised step files × (first_bad revised step files ≡ Some bad))) same first)) c d counted fault cause
  where
    of_newest : (o : Option (List MemFile)) (bad : LoadFault) → IfSome o (λ files. found ≡ header_that_stands h step files) → IfSome o (λ files. Stands revised step files × (first_bad revised step files ≡ Some bad))
        → IfSome o (λ files. HasBadTable h step files bad)
    of_newest None bad stands first = tt
    of_newest (Some files) bad stands first = (revised, ((has, sym stands ∙ is), first.1))
