use Rattle.std.proofs.Common.{◌≡◌, drop}
use Rattle.idx_hall.proofs.caching.copied.Given as goal

-- the copy has the pairs from the place on
abbrev pub invariant-loop-place : goal.invariant-loop-place
invariant-loop-place l = record {
  pairs : l.copy.pairs ≡ drop l.place l.cache.pairs;
  room : l.copy.cap ≡ l.cache.cap;
}
