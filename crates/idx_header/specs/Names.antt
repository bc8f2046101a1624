-- The paths of a dataset's files and of its steps' folders, at the header's revision.
use Rattle.std.specs.Prelude.{ℕ, List, Option, Some, None, option_map}
use Rattle.idx_names.specs.Path as paths
use Rattle.idx_header.specs.declared.steps.Steps.{Steps}
use Rattle.idx_header.specs.Header.{HeaderValue}

-- the path of a file of a step; without a time, no folder stands in it
abbrev pub name_with : HeaderValue → Option Steps → ℕ → ℕ → List ℕ
name_with h None step file = paths.file_path h.template None file
name_with h (Some steps) step file = paths.file_path h.template (Some (steps.template, step, h.revision)) file

unfoldable pub file_name : HeaderValue → ℕ → ℕ → List ℕ
file_name h step file = name_with h h.steps step file

-- the path of a step's folder, if the header has a time
unfoldable pub step_folder : HeaderValue → ℕ → Option (List ℕ)
step_folder h step = option_map (λ steps. paths.step_folder h.template steps.template step h.revision) h.steps
