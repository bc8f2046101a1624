use Rattle.std.proofs.Common.{◌≡◌, drop}
use Rattle.idx_cache.specs.Cached.{raise_all}
use Rattle.idx_hall.specs.Hall.{name_eq, named}
use Rattle.idx_hall.proofs.caching.touch_all.Given as goal

-- the looks that are left lead to where all of them lead
abbrev pub invariant-loop-key : goal.invariant-loop-key
invariant-loop-key l = record {
  order : raise_all name_eq (named l.post (drop l.key-index l.keys)) l.cache.pairs ≡ raise_all name_eq (named l.post l.keys) l.initial.cache.pairs;
  room : l.cache.cap ≡ l.initial.cache.cap;
}
