-- A small dataset, for worked values: one field of a byte, four addresses in two files of one block each, and two pieces.
use Rattle.std.specs.Prelude.{ℕ, nat_eq, true, List, [], ◌∷◌, ◌++◌, length, get_or, map, drop, Option}
use Rattle.std.specs.List.{flat_map}
use Rattle.std.specs.Option.{option_map_or}
use Rattle.std.specs.Map.{lookup}
use Rattle.idx_plan.specs.declared.ask.Ask.{Ask}
use Rattle.idx_events.specs.Setting.{Setting}
use Rattle.idx_events.specs.World.{World, Query}
use Rattle.idx_events.specs.Start.{new_world}
use Rattle.idx_events.specs.declared.event.Event.{Event}
use Rattle.idx_events.specs.declared.event.Event.TheVariants.{Give, Ship, Write, Publish, Look, Read, Fill, Evict, Answer}

-- the bytes of a held block
abbrev pub held_at : List (ℕ × List ℕ) → ℕ → List ℕ
held_at held block = option_map_or (λ bytes. bytes) (lookup (nat_eq block) held) []

abbrev pub numbers : ℕ → ℕ → List ℕ
numbers a b = a ∷ b ∷ []

abbrev pub tiny : Setting
tiny = record {
  files = numbers 0 1;
  addresses = λ file. get_or (numbers 0 1 ∷ numbers 2 3 ∷ []) file [];
  pieces_in = λ file. get_or (numbers 0 1 ∷ (1 ∷ []) ∷ []) file [];
  ranks = λ piece. get_or ((0 ∷ []) ∷ numbers 0 1 ∷ []) piece [];
  piece_at = λ address. get_or (0 ∷ 1 ∷ 1 ∷ 1 ∷ []) address 0;
  fields = 1;
  zero = λ field. 0 ∷ [];
  sample = λ raw field address. get_or raw address 0 ∷ [];
  name = λ time revision file. time ∷ numbers revision file;
  lay = λ file dock. 99 ∷ flat_map (λ row. flat_map (λ sample. sample) row) dock;
  has_blocks = λ time revision files. map (λ file. true) files ∷ [];
  stored = λ time revision files. map (λ file. drop 1 file.1) files ∷ [];
  shape = record { blocks = 2; lengths = 2 ∷ [] };
  rounds = λ ask. (0 ∷ []) ∷ (1 ∷ []) ∷ [];
  put_together = λ ask held. held_at held 0 ++ held_at held 1;
  answer = λ raw ask. get_or raw 0 0 ∷ get_or raw 1 0 ∷ get_or raw 2 0 ∷ get_or raw 3 0 ∷ [];
  valid_step = λ time revision. true;
  valid_raw = λ raw. nat_eq (length raw) 3;
  valid_ask = λ ask. nat_eq ask.field 0;
}

abbrev pub tiny_ask : Ask
tiny_ask = record { time = 5; field = 0; region = []; lo = 0; hi = 0 }

-- two revisions of the timestep 5, two questions of it, and a cache of one block
abbrev pub tiny_world : World
tiny_world = new_world tiny ((5, 10 ∷ numbers 20 30) ∷ (5, 40 ∷ numbers 50 60) ∷ []) (tiny_ask ∷ tiny_ask ∷ []) 1

-- a revision is given, shipped and written, its files out of order, and published
abbrev pub written : ℕ → List Event
written revision =
    Give 5 revision 0 0 ∷ Give 5 revision 0 1 ∷ Give 5 revision 1 1 ∷ Ship 5 revision 1 1 ∷ Write 5 revision 1 ∷
    Ship 5 revision 1 0 ∷ Ship 5 revision 0 0 ∷ Write 5 revision 0 ∷ Publish 5 revision ∷ []

-- a round of a question that finds nothing
abbrev pub round_of : ℕ → ℕ → List Event
round_of query block = Look query ∷ Read query block ∷ Fill query ∷ []

-- The first question looks and reads, the second revision is published, and the first question goes on; then the second
-- question is asked. Blocks go in between.
abbrev pub tiny_events : List Event
tiny_events =
    written 0 ++ (Look 0 ∷ Read 0 0 ∷ Evict 1 ∷ []) ++ written 1 ++ (Fill 0 ∷ []) ++ round_of 0 1 ++ (Answer 0 ∷ []) ++ round_of 1 0 ++
    round_of 1 1 ++ (Answer 1 ∷ [])

-- the answers, in order
abbrev pub answers_of : List Query → List (Option (List ℕ))
answers_of queries = map (λ x. x.answer) queries

-- how many blocks are cached
abbrev pub cached_blocks : World → ℕ
cached_blocks w = length w.hall.cache.pairs
