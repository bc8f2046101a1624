use Rattle.std.proofs.Common.{◌≡◌, ◌+◌, ◌≤◌, ap, arith}
use Rattle.std.proofs.lemmas.List.Elements.{All-weaker}
use Rattle.idx_stride.specs.Strides.{Walk, offsets_of, reach}
use Rattle.idx_stride.proofs.BoundLemmas.{IsAmong, offsets-among}
use Rattle.idx_stride.proofs.strides.Strides.first.Goals as goal

pub returns-clause-lowest : goal.returns-clause-lowest
returns-clause-lowest c =
    let w : Walk = c.args.self.now in
    let base : c.self.inside.base ≡ w.base = ap (λ (v : Walk). v.base) c.self.view_is in
    All-weaker (IsAmong w.base (w.base + reach w.axes)) (λ o. c.self.inside.base ≤ o) (λ o h. omega (arith, base, h.0)) (offsets_of w) (offsets-among w.base w.coarse w.axes)
