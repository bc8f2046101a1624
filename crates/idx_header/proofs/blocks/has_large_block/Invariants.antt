use Rattle.std.proofs.Common.{◌≡◌, ◌*◌, ◌^◌, false, take, nat_lt}
use Rattle.std.specs.List.{list_any}
use Rattle.idx_fields.specs.Field.{sample_bytes}
use Rattle.idx_header.proofs.blocks.has_large_block.Given as goal

abbrev pub invariant-loop-i : goal.invariant-loop-i
invariant-loop-i l = list_any (λ f. nat_lt (2 ^ 24) (sample_bytes f * 2 ^ l.bits)) (take l.i l.fields) ≡ false
