-- What `cut` writes of a raw volume.
use Rattle.std.specs.Prelude.{ℕ, List}
use Rattle.idx_raw.specs.declared.asked.Cut.{Cut}
use Rattle.idx_raw.specs.Cut as cuts
use Rattle.idx_words.specs.declared.cut_words.CutWords.{CutWords}

-- what the values of the words ask to be cut
abbrev pub cut_of : CutWords → Cut
cut_of c = record { size = c.size; extent = c.extent; mask = c.mask; region = c.region; lo = c.lo; hi = c.hi }

-- what is cut of the raw volume under the box, the mask, the region and the levels of the words
abbrev pub cut_output : CutWords → List ℕ → List ℕ
cut_output c raw = cuts.cut_output (cut_of c) raw
