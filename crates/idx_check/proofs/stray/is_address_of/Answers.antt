use Rattle.std.proofs.Common.{sym, ◌∙◌}
use Rattle.idx_hz.proofs.RegionLemmas.{HasAddress-from_end}
use Rattle.idx_check.proofs.AddressLemmas.{address-tested}
use Rattle.idx_check.proofs.stray.is_address_of.Goals as goal

pub returns : goal.returns
returns c =
    address-tested c.args.mask.now c.args.region.now c.args.address c.point_of_hz.result c.contains.result
    (λ q inside. HasAddress-from_end c.args.mask.now c.args.region.now q c.requires.address inside)
    (λ q size has at. c.point_of_hz.ensures.only q (size ∙ sym c.axes.ensures.count) has at)
    c.point_of_hz.ensures.address c.contains.ensures
