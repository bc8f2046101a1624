-- What a server says of itself when it ends.
use Rattle.std.specs.Prelude.{ℕ, List, [], ◌∷◌, ◌++◌, codes}
use Rattle.std.specs.Fmt.{decimal}

-- the line: how many links were accepted, and how many heads were answered on them; 10 is the line feed
abbrev pub totals : ℕ → ℕ → List ℕ
totals links replies = codes "links " ++ decimal links ++ codes " replies " ++ decimal replies ++ 10 ∷ []
