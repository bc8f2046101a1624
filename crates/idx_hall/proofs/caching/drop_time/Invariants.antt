use Rattle.std.proofs.Common.{◌≡◌, ◌+◌, length}
use Rattle.idx_cache.specs.Cached.{raise_all}
use Rattle.idx_hall.specs.Hall.{name_eq}
use Rattle.idx_hall.proofs.DropLemmas.{of_time_below, others_below}
use Rattle.idx_hall.proofs.caching.drop_time.Given as goal

-- the looks that are left lead to where all of them lead, and the names of the time are counted so far
abbrev pub invariant-loop-place : goal.invariant-loop-place
invariant-loop-place l = record {
  order : raise_all name_eq (others_below l.time l.place l.names) l.cache.pairs ≡ raise_all name_eq (others_below l.time (length l.names) l.names) l.initial.cache.pairs;
  gone : l.gone + of_time_below l.time l.place l.names ≡ of_time_below l.time (length l.names) l.names;
  room : l.cache.cap ≡ l.initial.cache.cap;
}
