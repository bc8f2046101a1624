use Rattle.std.proofs.Common.{◌≡◌, ◌+◌, ap, length, map, ◌∙◌, arith}
use Rattle.std.specs.List.{range_with_len}
use Rattle.idx_header.specs.Header.{HeaderValue}
use Rattle.idx_drill_model.specs.Drill.{drill_ask, drill_depth}
use Rattle.idx_drill_model.proofs.BoxLemmas.{length-mask}
use Rattle.idx_drill.proofs.AskLemmas.{asks-next}
use Rattle.idx_drill.proofs.questions.drill_asks.Goals as goal

pub loop-level-preserved : goal.loop-level-preserved
loop-level-preserved c =
    c.in_ok-push.ensures.items
    ∙ asks-next c.args.number c.loop-level.level c.loop-level.asks.items c.region.result c.loop-level.invariant (c.region.ensures.value ∙ ap (λ (h : HeaderValue). h.box) c.requires.header)

pub returns : goal.returns
returns c =
    let many = ap (λ (h : HeaderValue). length h.mask) c.requires.header in
    let last : c.loop-level.level ≡ drill_depth c.args.number + 1 = omega (arith, many, length-mask c.args.number, c.max_level-level-end.ensures.value) in
    c.loop-level.invariant ∙ ap (λ l. map (drill_ask c.args.number) (range_with_len 0 l)) last
