-- The steps of a dataset: the first, the last, and the template of their folders' names.
use Rattle.std.specs.Prelude.{ℕ, ◌+◌, ◌-◌, ◌^◌, ◌&&◌, nat_le, List, [], ◌∷◌, Option, Some, None, option_and_then, if◌then◌else◌}
use Rattle.idx_text.specs.Number.{number_of}
use Rattle.idx_text.specs.Numbers.{runs}
use Rattle.idx_header.specs.declared.steps.Steps.{Steps}
use Rattle.idx_names.specs.TimeTemplate.{TimeTemplateValue, time_template_of}

-- the steps from one number to another, if the first is not above the last and the last is at most 2^31 - 1
abbrev pub steps_with : ℕ → ℕ → TimeTemplateValue → Option Steps
steps_with first last template =
    if nat_le first last && nat_le last (2 ^ 31 - 1) then Some (record { first = first; last = last; template = template }) else None

-- the steps of these words: `from to template`
abbrev pub steps_of_words : List (List ℕ) → Option Steps
steps_of_words (first ∷ last ∷ template ∷ []) =
    option_and_then (λ f. option_and_then (λ l. option_and_then (steps_with f l) (time_template_of template)) (number_of last)) (number_of first)
steps_of_words words = None

-- the steps that a text spells, if it spells any
unfoldable pub steps_of : List ℕ → Option Steps
steps_of text = steps_of_words (runs text)

-- how many steps there are
abbrev pub step_count : Steps → ℕ
step_count steps = steps.last - steps.first + 1
