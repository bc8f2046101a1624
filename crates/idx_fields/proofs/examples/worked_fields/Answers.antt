use Rattle.std.proofs.Common.{refl}
use Rattle.std.specs.Fmt.{digits}
use Rattle.idx_fields.specs.FieldType.{canonical_type}
use Rattle.idx_fields.specs.Field.{field_text}
use Rattle.idx_fields.proofs.examples.worked_fields.Goals as goal

pub returns-clause-text : goal.returns-clause-text
unfolding canonical_type digits field_text
returns-clause-text c = refl

pub returns-clause-row : goal.returns-clause-row
unfolding canonical_type digits field_text
returns-clause-row c = refl
