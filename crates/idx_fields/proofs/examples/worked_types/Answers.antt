use Rattle.std.proofs.Common.{refl}
use Rattle.std.specs.Fmt.{digits}
use Rattle.idx_fields.specs.FieldType.{canonical_type}
use Rattle.idx_fields.proofs.examples.worked_types.Goals as goal

pub returns-clause-more : goal.returns-clause-more
unfolding canonical_type digits
returns-clause-more c = refl
