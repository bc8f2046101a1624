use Rattle.std.proofs.Common.{◌≡◌, length, ap, ◌∙◌, arith}
use Rattle.idx_header.specs.Header.{HeaderValue}
use Rattle.idx_drill.proofs.ReplayLemmas.{replayed}
use Rattle.idx_drill.proofs.WorldLemmas.{never_others, value_is}
use Rattle.idx_drill.proofs.drilling.drill.Goals as goal

pub unreachable-requires : goal.unreachable-requires
unreachable-requires g c =
    never_others c.args.number c.in_ok-world.world.world.queries c.in_ok-run.run'.answers.items c.has_answers.result c.has_answers.ensures c.if-not-has_answers.true
    c.in_ok-world.ensures.answers c.in_ok-run.ensures.answers

pub returns-clause-value : goal.returns-clause-value
returns-clause-value g c =
    let many : c.len.result ≡ length c.in_ok-events.events.items = omega (arith, c.len.ensures, c.in_ok-events.events.ok) in
    value_is c.args.number _ (c.region.ensures.value ∙ ap (λ (h : HeaderValue). h.box) c.in_ok-header.ensures) c.in_ok-levels_of.ensures c.in_ok-step.ensures.ranks c.in_ok-step.ensures.files
    c.in_ok-step.ensures.bytes c.in_ok-run.ensures.reads (many ∙ ap length c.in_ok-events.ensures) c.in_ok-world.ensures.world

pub returns-clause-replayed : goal.returns-clause-replayed
returns-clause-replayed g c = replayed c.args.number c.requires.some c.requires.few
