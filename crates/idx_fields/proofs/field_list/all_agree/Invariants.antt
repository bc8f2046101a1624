use Rattle.std.proofs.Common.{take}
use Rattle.idx_fields.specs.Fields.{Agree}
use Rattle.idx_fields.proofs.field_list.all_agree.Given as goal

abbrev pub invariant-loop-i : goal.invariant-loop-i
invariant-loop-i l = Agree (take l.i l.these) (take l.i l.those)
