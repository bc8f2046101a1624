use Rattle.std.proofs.Common.{◌∙◌, arith}
use Rattle.idx_text.proofs.TrimLemmas.{blank_dropped, word_kept}
use Rattle.idx_text.proofs.trim.trim_end.Goals as goal

pub loop-rest-preserved : goal.loop-rest-preserved
loop-rest-preserved c =
    blank_dropped c.loop-rest.rest.now c.in-len1-up.len_at_least (grind arith) ∙ c.loop-rest.invariant

pub returns-then-not-is_blank : goal.returns-then-not-is_blank
returns-then-not-is_blank c =
    word_kept c.loop-rest.rest.now c.in-len1-up.len_at_least (grind arith) ∙ c.loop-rest.invariant
