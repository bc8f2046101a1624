use Rattle.std.proofs.Common.{◌≡◌, ◌^◌, map, ap, ◌∙◌, arith}
use Rattle.std.specs.List.{range_with_len}
use Rattle.idx_drill_model.specs.Drill.{drill_byte, drill_depth}
use Rattle.idx_drill.proofs.DatasetLemmas.{byte_pushed, word_points}
use Rattle.idx_drill.proofs.dataset.drill_volume.Goals as goal

pub loop-place-preserved : goal.loop-place-preserved
loop-place-preserved c =
    byte_pushed c.args.number c.from.result c.loop-place.place c.loop-place.volume c.push.new.self c.from.ensures c.loop-place.invariant c.in_ok-push.ensures.ok

pub returns : goal.returns
returns c =
    let end : c.loop-place.place ≡ 2 ^ drill_depth c.args.number = omega (arith, word_points c.args.number c.requires.few) in
    c.loop-place.invariant ∙ ap (λ k. map (drill_byte c.args.number) (range_with_len 0 k)) end
