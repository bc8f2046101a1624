use Rattle.std.proofs.Common.{◌≡◌}
use Rattle.idx_cache.specs.Cached.{put_all}
use Rattle.idx_hall.specs.Hall.{name_eq, named_pairs}
use Rattle.idx_hall.specs.Calls.{pairs_of}
use Rattle.idx_hall.proofs.caching.put_blocks.Given as goal

-- the puts that are left lead to where all of them lead
abbrev pub invariant-loop-key : goal.invariant-loop-key
invariant-loop-key l = record {
  room : l.cache.cap ≡ l.initial.cache.cap;
  order : put_all name_eq l.cache.cap (named_pairs l.post (pairs_of l.key-iterator.rest.items)) l.cache.pairs
      ≡ put_all name_eq l.initial.cache.cap (named_pairs l.post (pairs_of l.initial.key-iterator.rest.items)) l.initial.cache.pairs;
}
