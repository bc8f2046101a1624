use Rattle.std.proofs.Common.{◌≡◌, ◌-◌, ◌^◌, take, min}
use Rattle.idx_gather.specs.Streams.{open_bytes}
use Rattle.idx_gather.proofs.begun.open_bytes.Given as goal

-- the bytes of the docks before
abbrev pub invariant-loop-i : goal.invariant-loop-i
invariant-loop-i l = l.bytes ≡ min (2 ^ 64 - 1) (open_bytes l.header (take l.i l.docks) l.id)
