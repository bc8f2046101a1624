use Rattle.std.proofs.Common.{◌≡◌, arith, sym, ap, ◌∙◌, true, false}
use Rattle.std.specs.Prelude.{is_some, option_copied, option_map}
use Rattle.std.specs.Arc.{arc_value}
use Rattle.std.proofs.lemmas.List.{take_all}
use Rattle.idx_query.proofs.MissLemmas.{length-missed, nones, nones-of, told-some}
use Rattle.idx_query.proofs.rounds.count_missed.Goals as goal
use Rattle.idx_query.proofs.rounds.count_missed.Goals.{then-is_none, else-is_none}

pub loop-i-preserved : goal.loop-i-preserved
loop-i-preserved g c =
    let some : is_some (option_map (λ bytes. arc_value bytes) (option_copied c.found.result)) ≡ is_some c.found.result = told-some (λ bytes. arc_value bytes) (λ x. x.now) c.found.result in
    elim c.if-is_none.branch [
      | then-is_none w ↦ record {
        count = nones-of c.args.looked.now.found c.loop-i.i c.loop-i.count c.if-is_none.count _ false (sym c.found.ensures) (some ∙ w.if-is_none.ensures) c.loop-i.invariant.count w.count-is;
        few = omega (arith, w.count-is, c.loop-i.invariant.few);
      }
      | else-is_none w ↦ record {
        count = nones-of c.args.looked.now.found c.loop-i.i c.loop-i.count c.if-is_none.count _ true (sym c.found.ensures) (some ∙ w.if-is_none.ensures) c.loop-i.invariant.count (w.count-is ∙ omega arith);
        few = omega (arith, w.count-is, c.loop-i.invariant.few);
      }
    ]

pub returns : goal.returns
returns g c = λ keys same.
    c.loop-i.invariant.count
    ∙ ap nones (take_all c.loop-i.i c.args.looked.now.found (omega (arith, c.loop-i-test.false, c.len-i-end.ensures)))
    ∙ sym (length-missed keys c.args.looked.now.found same)
