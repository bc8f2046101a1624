use Rattle.std.proofs.Common.{◌≡◌, ◌+◌, ◌≤◌, ap, arith}
use Rattle.std.proofs.lemmas.List.Elements.{All-weaker}
use Rattle.idx_stride.specs.Strides.{Walk, offsets_of, reach}
use Rattle.idx_stride.proofs.BoundLemmas.{IsAmong, offsets-among}
use Rattle.idx_stride.proofs.strides.Strides.end.Goals as goal

pub returns-clause-highest : goal.returns-clause-highest
returns-clause-highest c =
    let w : Walk = c.args.self.now in
    let end : w.base + reach w.axes + w.size ≡ c.first.result + c.reach.result + c.size.result =
    omega (arith, c.first.ensures.base, c.size.ensures.bytes, c.reach.ensures, ap reach c.axes.ensures.axes) in
    All-weaker (IsAmong w.base (w.base + reach w.axes)) (λ o. o + w.size ≤ c.first.result + c.reach.result + c.size.result)
    (λ o h. omega (arith, end, h.1)) (offsets_of w) (offsets-among w.base w.coarse w.axes)
