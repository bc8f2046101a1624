use Rattle.std.proofs.Common.{◌≡◌, ap, arith, drop, length, ◌∙◌}
use Rattle.std.proofs.lemmas.List.{take_rest}
use Rattle.std.specs.Path.{rfind_below, slash}
use Rattle.idx_commands.proofs.SiteNameLemmas.{part_from, part_is}
use Rattle.idx_commands.proofs.site_name.last_part.Goals as goal

pub returns : goal.returns
returns c =
    let path = c.args.path.now in
    let whole : c.loop-i.i ≡ length path = omega (arith, c.loop-i-test.false, c.loop-i.auto.i-end) in
    let from : c.loop-i.from ≡ part_from (rfind_below slash path (length path)) =
    c.loop-i.invariant.0 ∙ ap (λ n. part_from (rfind_below slash path n)) whole in
    take_rest path c.loop-i.from ∙ ap (λ n. drop n path) from ∙ part_is path
