use Rattle.std.proofs.Common.{◌<◌, length, arith}
use Rattle.idx_serve.proofs.AskLemmas.{field_within, same_axes}
use Rattle.idx_serve.proofs.question.question_of.Goals as goal

pub prove-unreachable-requires : goal.prove-unreachable-requires
prove-unreachable-requires c =
    let there : c.in-Ok.ask.field < length c.args.site.now.header.fields =
    field_within c.args.site.now.header c.as_slice-2.result.now c.as_slice.result.now c.in-Ok.ask (omega (arith, c.field_count.ensures.some, c.field_count.ensures.count)) c.in-Ok.ensures in
    omega (arith, there, c.if-prove.true, c.field_count.ensures.count)

pub returns-in-Ok-clause-axes : goal.returns-in-Ok-clause-axes
returns-in-Ok-clause-axes c = same_axes c.args.site.now.header c.as_slice-2.result.now c.as_slice.result.now c.in-Ok.ask c.in-Ok.ensures
