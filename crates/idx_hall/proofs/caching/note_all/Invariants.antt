use Rattle.std.proofs.Common.{◌≡◌, ◌≤◌, ◌++◌, map, take}
use Rattle.std.specs.Prelude.{vec_capacity}
use Rattle.idx_cache.specs.Cached.{found}
use Rattle.idx_hall.specs.Hall.{name_eq, name_of}
use Rattle.idx_hall.proofs.caching.note_all.Given as goal

-- what is cached of the keys so far was appended
abbrev pub invariant-loop-key : goal.invariant-loop-key
invariant-loop-key l = record {
  found : l.into.items ≡ l.initial.into.items ++ map (λ key. found name_eq (name_of l.post key) l.cache.pairs) (take l.key-index l.keys);
  room : vec_capacity l.initial.into ≤ vec_capacity l.into;
}
