use Rattle.std.proofs.Common.{arith}
use Rattle.std.proofs.lemmas.Grind.{common_steps}
use Rattle.http1.proofs.TextLemmas.{flat_map-take_more}
use Rattle.idx_http.proofs.reply.write_fields.Goals as goal

pub loop-field-preserved : goal.loop-field-preserved
loop-field-preserved c = grind (arith, common_steps, flat_map-take_more)
