-- What is said of a step whose files are the writer's.
use Rattle.std.specs.Prelude.{ℕ, List, [], ◌∷◌, ◌++◌, codes}
use Rattle.std.specs.Fmt.{decimal}

-- the line: how many files there are, and how many bytes they have in all; 10 is the line feed
abbrev pub same_line : ℕ → ℕ → List ℕ
same_line files bytes = codes "same files " ++ decimal files ++ codes " bytes " ++ decimal bytes ++ 10 ∷ []
