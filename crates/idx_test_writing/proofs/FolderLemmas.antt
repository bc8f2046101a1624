-- What may be written where a step is begun.
use Rattle.std.proofs.Common.{◌≡◌, ℕ, List, Option, IsSome, sym, subst, ◌∙◌}
use Rattle.std.specs.Option.{MatchOption}
use Rattle.idx_outside.specs.Files.{LiesIn}
use Rattle.idx_header.specs.Header.{HeaderValue}
use Rattle.idx_header.specs.Names.{file_name, step_folder}
use Rattle.idx_gather.proofs.GatherLemmas.{admits_files}

-- a path lies in the folder that was begun
abbrev pub MayBe : Option (List ℕ) → List ℕ → Type 0
MayBe begun path = MatchOption begun ⊥ (λ folder. LiesIn folder path)

-- every file of a step that was begun may be written
pub admits_begun : (h : HeaderValue) (step : ℕ) (begun : Option (List ℕ)) → IsSome h.steps → begun ≡ step_folder h step → (file : ℕ) → MayBe begun (file_name h step file)
admits_begun h step begun timed same =
    admits_files (MayBe begun) h step timed
    (λ folder is path lies. subst (λ o. MayBe o path) (sym (same ∙ is)) lies)
