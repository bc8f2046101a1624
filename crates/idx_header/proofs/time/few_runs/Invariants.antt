use Rattle.std.proofs.Common.{◌≡◌, length, map, take, filter}
use Rattle.std.specs.List.{slice_split}
use Rattle.idx_text.specs.Numbers.{is_blank, has_bytes}
use Rattle.idx_header.proofs.time.few_runs.Given as goal

abbrev pub invariant-loop-run : goal.invariant-loop-run
invariant-loop-run l =
    map (λ r. r.now) l.found.items ≡ take 4 (filter has_bytes (take (length l.yielded) (slice_split is_blank l.text)))
