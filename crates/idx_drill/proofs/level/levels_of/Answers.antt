use Rattle.std.proofs.Common.{◌≡◌, ◌+◌, ap, arith, length, map, ◌∙◌}
use Rattle.std.specs.List.{range_with_len}
use Rattle.idx_header.specs.Header.{HeaderValue}
use Rattle.idx_drill_model.specs.Drill.{drill_depth}
use Rattle.idx_drill_model.proofs.BoxLemmas.{length-mask}
use Rattle.idx_drill.specs.Drilled.{drill_level}
use Rattle.idx_drill.proofs.FewLemmas.{level-more}
use Rattle.idx_drill.proofs.level.levels_of.Goals as goal

pub level_at-requires-clause-level : goal.level_at-requires-clause-level
level_at-requires-clause-level c =
    let many = ap (λ (h : HeaderValue). length h.mask) c.requires.header in
    omega (arith, many, length-mask c.args.number, c.max_level-level-end.ensures.value)

pub loop-level-preserved : goal.loop-level-preserved
loop-level-preserved c =
    level-more c.args.number c.loop-level.level c.level_at.result c.loop-level.levels.items c.push.new.self.items
    c.level_at.ensures c.loop-level.invariant c.in_ok-push.ensures.items

pub returns : goal.returns
returns c =
    let many = ap (λ (h : HeaderValue). length h.mask) c.requires.header in
    let last : c.loop-level.level ≡ drill_depth c.args.number + 1 = omega (arith, many, length-mask c.args.number, c.max_level-level-end.ensures.value) in
    c.loop-level.invariant ∙ ap (λ l. map (drill_level c.args.number) (range_with_len 0 l)) last
