-- The law is proved over lists of digits and coordinates.
use Rattle.idx_hz.proofs.AddressLaws.{hz_address-lt, hz_address-injective, hz_address-onto, level_iff_range}
use Rattle.idx_hz.proofs.laws.addresses_are_one_to_one.Goals as goal

pub returns-clause-within : goal.returns-clause-within
returns-clause-within c mask p has = hz_address-lt mask p

pub returns-clause-apart : goal.returns-clause-apart
returns-clause-apart c = hz_address-injective

pub returns-clause-onto : goal.returns-clause-onto
returns-clause-onto c = hz_address-onto

pub returns-clause-level_range : goal.returns-clause-level_range
returns-clause-level_range c mask p h has = level_iff_range mask p h
