-- What a look has found: the step, for each key the block or nothing, and for how many keys there is room.
use Rattle.std.specs.Prelude.{ℕ, List, [], Option, Some, None}

pub record LookedValue (E : Type 0) : Type 0 where
  pub edition : Option E
  pub found : List (Option (List ℕ))
  pub room : ℕ

-- nothing was looked for yet
abbrev pub not_looked : {E : Type 0} → ℕ → LookedValue E
not_looked room = record { edition = None; found = []; room = room }

-- an edition, the blocks that were found, and as much room as before
abbrev pub looked_up : {E : Type 0} → E → List (Option (List ℕ)) → ℕ → LookedValue E
looked_up edition found room = record { edition = Some edition; found = found; room = room }
