-- A text without the blanks at its two ends. A blank is a space or a tab.
use Rattle.std.specs.Prelude.{ℕ, List, [], ◌∷◌, if◌then◌else◌}
use Rattle.idx_text.specs.Numbers.{is_blank}

-- the text from its first byte on that is no blank
abbrev pub from_first_word : List ℕ → List ℕ
from_first_word [] = []
from_first_word (b ∷ bs) = if is_blank b then from_first_word bs else b ∷ bs

-- a byte before what is left of the text behind it: a blank goes where nothing is left
abbrev pub before_rest : ℕ → List ℕ → List ℕ
before_rest b [] = if is_blank b then [] else b ∷ []
before_rest b (c ∷ cs) = b ∷ c ∷ cs

-- the text up to its last byte that is no blank
abbrev pub to_last_word : List ℕ → List ℕ
to_last_word [] = []
to_last_word (b ∷ bs) = before_rest b (to_last_word bs)

abbrev pub trimmed : List ℕ → List ℕ
trimmed text = to_last_word (from_first_word text)
