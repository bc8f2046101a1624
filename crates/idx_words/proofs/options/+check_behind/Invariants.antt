use Rattle.std.proofs.Common.{length, ◌-◌}
use Rattle.idx_words.proofs.options.+check_behind.Given as goal

abbrev pub decreases-check_behind : goal.decreases-check_behind
decreases-check_behind l = length l.words.now - l.read
