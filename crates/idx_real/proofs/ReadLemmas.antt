-- A read that was made again after reads that took nothing.
use Rattle.std.specs.Prelude.{ℕ, List, take, Option, Some, None, Result, Ok, Err}
use Rattle.std.proofs.Common.{sym, ◌∙◌}
use Rattle.std.proofs.KnownBytes.{Keeps-trans}
use Rattle.std.specs.Io.KnownBytes.{Consumes, Keeps, ReadConsumes}

Consumes-again : (a b c : Option (List ℕ)) (bs : List ℕ) → Keeps a b → Consumes b c bs → Consumes a c bs
Consumes-again None b c bs kept read = tt
Consumes-again (Some x) None c bs kept read = absurd kept
Consumes-again (Some x) (Some y) None bs kept read = absurd read
Consumes-again (Some x) (Some y) (Some z) bs kept read = sym kept ∙ read

-- What it consumed of what was left at the first of them.
pub ReadConsumes-again : {E : Type 0} → (a b c : Option (List ℕ)) (result : Result ℕ E) (into : List ℕ) → Keeps a b → ReadConsumes b c result into → ReadConsumes a c result into
ReadConsumes-again a b c (Ok n) into kept read = (Consumes-again a b c (take n into) kept read.0, read.1)
ReadConsumes-again a b c (Err e) into kept read = Keeps-trans a b c kept read
