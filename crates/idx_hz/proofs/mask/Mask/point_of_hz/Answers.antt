use Rattle.std.proofs.Common.{length, ◌∙◌, sym, ap}
use Rattle.idx_hz.specs.Address.{hz_at}
use Rattle.idx_hz.proofs.AddressLaws.{hz_address-injective}
use Rattle.idx_hz.proofs.mask.Mask.point_of_hz.Goals as goal

pub returns-clause-only : goal.returns-clause-only
returns-clause-only c p size has address =
    hz_address-injective c.args.self.now p c.point_of_z.result has c.point_of_z.ensures.below (size ∙ sym c.point_of_z.ensures.count) (address ∙ sym (ap (hz_at (length c.args.self.now)) c.point_of_z.ensures.address ∙ c.z_at.ensures.inverse))
