-- The header at the revision of a step that is written next: no committed file is of its folder.
use Rattle.std.proofs.Common.{◌≡◌, ℕ, ◌<◌, Bool, true, false, List, Option, Some, None, refl, sym, ap, ◌∙◌, subst, true≢false}
use Rattle.std.proofs.lemmas.Bool.{ltb-true}
use Rattle.std.specs.Prelude.{IfSome, IsSome, if◌then◌else◌, nat_lt, option_map}
use Rattle.std.specs.Option.{ForSome}
use Rattle.idx_outside.specs.Files.{HasStep, has_folder}
use Rattle.idx_outside.specs.declared.mem_file.MemFile.{MemFile}
use Rattle.idx_names.specs.Path as paths
use Rattle.idx_header.specs.Header.{HeaderValue, at_revision}
use Rattle.idx_header.specs.declared.steps.Steps.{Steps}
use Rattle.idx_header.specs.Names.{step_folder}
use Rattle.idx_header.specs.Revisions.{header_at, header_to_write, next_revision, stands_in}
use Rattle.idx_header.proofs.RevisionLemmas.{next_stops}
use Rattle.idx_convert.specs.Convert.{IsNext}

-- a header at a revision that there is
here : (h : HeaderValue) (n : ℕ) (written : HeaderValue) → header_at h n ≡ Some written → (n < 256) × (at_revision n h ≡ written)
here h n written e = by (nat_lt n 256) refl e
  where
    by : (b : Bool) → nat_lt n 256 ≡ b → (if b then Some (at_revision n h) else None) ≡ Some written → (n < 256) × (at_revision n h ≡ written)
    by true less is = (ltb-true n 256 less, cc)
    by false less is = absurd (cc)

-- what is written next does not stand
next_stands_not : (h : HeaderValue) (step : ℕ) (files : List MemFile) (written : HeaderValue) (folder : List ℕ) →
    header_to_write h step files ≡ Some written → step_folder written step ≡ Some folder → ¬ HasStep folder files
next_stands_not h step files written folder next at stands =
    let n : ℕ = next_revision h step files in
    let found : (n < 256) × (at_revision n h ≡ written) = here h n written next in
    let same : step_folder (at_revision n h) step ≡ Some folder = ap (λ w. step_folder w step) found.1 ∙ at in
    let none : has_folder folder files ≡ false = sym (ap (λ (o : Option (List ℕ)). stands_in o files n) same) ∙ next_stops h step files found.0 in
    true≢false (sym stands ∙ none)

pub next_new : (h : HeaderValue) (step : ℕ) (known now : Option (List MemFile)) (written : HeaderValue) → now ≡ known → IsNext h step known written →
    ForSome (step_folder written step) (λ folder. ForSome now (λ files. ¬ HasStep folder files))
next_new h step known now written same next =
    λ folder at files is. next_stands_not h step files written folder (subst (λ (o : Option (List MemFile)). IsNext h step o written) (sym same ∙ is) next) at

-- something is written next
pub next_some : (h : HeaderValue) (step : ℕ) (known now : Option (List MemFile)) (written : HeaderValue) → now ≡ known → IsNext h step now written →
    IfSome known (λ files. IsSome (header_to_write h step files))
next_some h step known now written same next = some known (subst (λ (o : Option (List MemFile)). IsNext h step o written) same next)
  where
    some : (o : Option (List MemFile)) → IsNext h step o written → IfSome o (λ files. IsSome (header_to_write h step files))
    some None next = tt
    some (Some files) next = subst IsSome (sym next) refl

-- a header with a time has a folder for each step
pub folder_exists : (h : HeaderValue) (step : ℕ) → IsSome h.steps → step_folder h step ≡ None → ⊥
unfolding step_folder
folder_exists h step timed none = by_steps h.steps timed none
  where
    by_steps : (steps : Option Steps) → IsSome steps → option_map (λ (s : Steps). paths.step_folder h.template s.template step h.revision) steps ≡ None → ⊥
    by_steps None some e = let wrong : false ≡ true = some in cc
    by_steps (Some steps) some e = let wrong : ◌≡◌ {A = Option (List ℕ)} (Some (paths.step_folder h.template steps.template step h.revision)) None = e in cc
