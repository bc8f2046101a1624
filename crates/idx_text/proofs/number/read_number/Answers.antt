use Rattle.std.proofs.Common.{arith}
use Rattle.idx_text.proofs.NumberLemmas.{one_more_digit}
use Rattle.idx_text.proofs.number.read_number.Goals as goal

pub overflow_mul-value : goal.overflow_mul-value
overflow_mul-value c =
    omega (arith, one_more_digit c.loop-byte.value c.loop-byte.byte-index (omega arith) (omega arith))

pub overflow_add-value : goal.overflow_add-value
overflow_add-value c =
    omega (arith, one_more_digit c.loop-byte.value c.loop-byte.byte-index (omega arith) (omega arith))
