use Rattle.std.proofs.Common.{◌≡◌, All, vec_len}
use Rattle.idx_drill.proofs.writing.copies.Given as goal

abbrev pub invariant-loop : goal.invariant-loop
invariant-loop l = (vec_len l.raws ≡ l.counter) × All (λ raw. raw.bytes ≡ l.volume) l.raws.items
