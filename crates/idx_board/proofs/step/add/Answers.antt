use Rattle.std.proofs.Common.{None, subst, sym}
use Rattle.std.specs.Arc.{arc_value}
use Rattle.idx_hall.specs.Calls.{IsRefused}
use Rattle.idx_hall.specs.Posts.{Lacks, newest}
use Rattle.idx_hall.specs.declared.publish_refusal.PublishRefusal.TheVariants.{AlreadyPublished}
use Rattle.idx_hall.proofs.NewestLemmas.{newest-none}
use Rattle.idx_board.proofs.StepLemmas.{not_some}
use Rattle.idx_board.proofs.step.add.Goals as goal

pub unreachable-requires : goal.unreachable-requires
unreachable-requires g c =
    let board = c.args.hall.now.board in
    let time = g.E.Blocks.time (arc_value c.in-Ok.shared) in
    let r = c.in-Err-default-AlreadyPublished in
    let refused : IsRefused board time None (AlreadyPublished r.field-0-1-0) = subst (IsRefused board time None) r.field-0-1-is r.ensures.cause.1 in
    let lacks : Lacks time board = subst (λ edition. Lacks (g.E.Blocks.time edition) board) (sym c.in-Ok.ensures.ok) c.requires.lacks in
    not_some (newest board time) r.field-0-1-0 (newest-none board time lacks) refused.0
