use Rattle.idx_fields.proofs.ListingLemmas.{listed_are_fields}
use Rattle.idx_fields.proofs.laws.listed_fields_are_fields.Goals as goal

pub returns : goal.returns
returns c = listed_are_fields
