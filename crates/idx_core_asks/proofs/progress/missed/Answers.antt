use Rattle.std.proofs.Common.{◌≡◌, Bool, false, true, not, Some, None, is_some, ap, ◌∙◌, refl}
use Rattle.std.specs.Option.{option_map}
use Rattle.std.specs.Prelude.{option_copied}
use Rattle.std.specs.Arc.{arc_value}
use Rattle.idx_core_asks.proofs.FoundLemmas.{miss-next, miss-none}
use Rattle.idx_core_asks.proofs.progress.missed.Goals as goal
use Rattle.idx_core_asks.proofs.progress.missed.Goals.{then-is_none+in_ok-push, else-is_none}

pub loop-i-preserved : goal.loop-i-preserved
loop-i-preserved g c = elim c.if-is_none.branch [
  | then-is_none+in_ok-push w ↦
      miss-next c.args.keys.now c.args.looked.now.found c.loop-i.i _ c.requires c.loop-i-test.true c.found.ensures c.loop-i.missing.items c.if-is_none.missing.items
      ((elim c.found.result as (λ r. is_some r ≡ false → is_some (option_map (λ bytes. arc_value bytes) (option_copied r)) ≡ false) [ None ↦ λ e. e | Some x ↦ λ e. e ]) (c.is_none.ensures ∙ ap not w.if-is_none.true))
      c.loop-i.invariant (ap (λ v. v.items) w.missing-is ∙ w.in_ok-push.ensures.items)
  | else-is_none w ↦
      ap (λ v. v.items) w.missing-is
      ∙ miss-none c.args.keys.now c.args.looked.now.found c.loop-i.i _ c.requires c.loop-i-test.true c.found.ensures c.loop-i.missing.items
      ((elim c.found.result as (λ r. is_some r ≡ true → is_some (option_map (λ bytes. arc_value bytes) (option_copied r)) ≡ true) [ None ↦ λ e. e | Some x ↦ λ e. e ]) (c.is_none.ensures ∙ ap not w.if-is_none.false))
      c.loop-i.invariant
]
