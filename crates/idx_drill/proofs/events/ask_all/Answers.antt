use Rattle.std.proofs.Common.{◌≡◌, ◌+◌, ap, ◌∙◌, ◌++◌, arith, length, map}
use Rattle.std.specs.List.{range_with_len}
use Rattle.idx_header.specs.Header.{HeaderValue}
use Rattle.idx_drill_events.specs.Lists.{all_asked, asked}
use Rattle.idx_drill_model.specs.Blocks.{new_blocks}
use Rattle.idx_drill_model.specs.Drill.{drill_depth}
use Rattle.idx_drill_model.proofs.BoxLemmas.{length-mask}
use Rattle.idx_drill.specs.Drilled.{drill_asking}
use Rattle.idx_drill.proofs.EventLemmas.{levels-more}
use Rattle.idx_drill.proofs.events.ask_all.Goals as goal

pub ask_level-requires-clause-level : goal.ask_level-requires-clause-level
ask_level-requires-clause-level c =
    let depth : length c.args.header.now.mask ≡ drill_depth c.args.number = ap (λ (h : HeaderValue). length h.mask) c.requires.header ∙ length-mask c.args.number in
    omega (arith, depth, c.max_level-level-end.ensures.value, c.loop-level-test.true)

pub loop-level-preserved : goal.loop-level-preserved
loop-level-preserved c =
    c.in_ok-ask_level.ensures ∙ ap (λ l. l ++ asked c.loop-level.level (new_blocks c.args.number c.loop-level.level)) c.loop-level.invariant
    ∙ levels-more c.args.number c.loop-level.level c.args.events.now.items

pub returns : goal.returns
returns c =
    let depth : length c.args.header.now.mask ≡ drill_depth c.args.number = ap (λ (h : HeaderValue). length h.mask) c.requires.header ∙ length-mask c.args.number in
    let end : c.loop-level.level ≡ drill_depth c.args.number + 1 = omega (arith, depth, c.max_level-level-end.ensures.value) in
    c.loop-level.invariant ∙ ap (λ k. c.args.events.now.items ++ all_asked 0 (map (drill_asking c.args.number) (range_with_len 0 k))) end
