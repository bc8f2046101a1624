use Rattle.std.proofs.Common.{◌≡◌, ◌+◌, ◌-◌, ◌≤◌, ◌==◌, drop, length}
use Rattle.std.specs.List.{position_or_len}
use Rattle.idx_text.proofs.line.line_end.Given as goal

abbrev pub invariant-loop-end : goal.invariant-loop-end
invariant-loop-end l =
    (l.end ≤ length l.text) × (position_or_len (λ b. b == 10) l.text ≡ l.end + position_or_len (λ b. b == 10) (drop l.end l.text))

abbrev pub decreases-loop-end : goal.decreases-loop-end
decreases-loop-end l = length l.text - l.end
