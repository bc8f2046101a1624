use Rattle.std.proofs.Common.{◌≡◌, ◌++◌, [], ◌∷◌, ap, ◌∙◌}
use Rattle.std.specs.Option.{option_map}
use Rattle.std.specs.Prelude.{option_copied}
use Rattle.std.specs.Arc.{arc_value}
use Rattle.idx_core_asks.proofs.FoundLemmas.{hit-next, hit-none}
use Rattle.idx_core_asks.proofs.progress.append_hits.Goals as goal
use Rattle.idx_core_asks.proofs.progress.append_hits.Goals.{in-Some+in_ok-try_clone+in_ok-push, in_default}

pub loop-i-preserved : goal.loop-i-preserved
loop-i-preserved g c = elim c.match-found.branch [
  | in-Some+in_ok-try_clone+in_ok-push w ↦
      hit-next c.args.keys.now c.args.looked.now.found c.loop-i.i _ c.requires c.loop-i-test.true c.found.ensures c.args.to.now.items c.loop-i.to.items c.match-found.to.items
      (arc_value w.in-Some.bytes.now) (arc_value w.in_ok-try_clone.field-0)
      (ap (λ r. option_map (λ bytes. arc_value bytes) (option_copied r)) w.in-Some.is) w.in_ok-try_clone.ensures c.loop-i.invariant
      (ap (λ v. v.items) w.to-is ∙ w.in_ok-push.ensures.items ∙ ap (λ p. c.loop-i.to.items ++ p ∷ []) w.new.ensures)
  | in_default w ↦
      ap (λ v. v.items) w.to-is
      ∙ hit-none c.args.keys.now c.args.looked.now.found c.loop-i.i _ c.requires c.loop-i-test.true c.found.ensures c.args.to.now.items c.loop-i.to.items
      (ap (λ r. option_map (λ bytes. arc_value bytes) (option_copied r)) w.in_default.is) c.loop-i.invariant
]
