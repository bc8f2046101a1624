use Rattle.std.proofs.Common.{length}
use Rattle.idx_words.proofs.settings.+given.Given as goal

abbrev pub decreases-given : goal.decreases-given
decreases-given l = length l.words.now
