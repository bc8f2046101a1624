-- The values that the words of the command `serve` stand for.
use Rattle.std.specs.Prelude.{ℕ, List, Option}

-- the number of the step that is published, and the path of its raw volume as it was given
pub record IngestValue : Type 0 where
  pub step : ℕ
  pub raw : List ℕ

-- the header's path and the address as they were given, how many blocks the cache keeps at most, how many workers serve, after how
-- many links the server ends, if it ends, and the step that is published meanwhile, if one is
pub record ServeValue : Type 0 where
  pub dataset : List ℕ
  pub address : List ℕ
  pub cache : ℕ
  pub workers : ℕ
  pub links : Option ℕ
  pub ingest : Option IngestValue
