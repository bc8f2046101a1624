use Rattle.std.proofs.Common.{◌≡◌, ◌<◌, ◌∙◌, subst, true, List, length}
use Rattle.idx_fields.specs.Field.{Field, field_at}
use Rattle.idx_fields.specs.Fields.{are_distinct, names_of}
use Rattle.idx_fields.proofs.AgreeLemmas.{only_one}
use Rattle.idx_fields.proofs.fields.Fields.find.Goals as goal

pub returns-in-Some-clause-some : goal.returns-in-Some-clause-some
returns-in-Some-clause-some c =
    let fields = c.args.self.now in
    let is = c.deref.ensures.value ∙ c.self.view_is in
    let at : (c.in-Some.i < length fields) × ((field_at fields c.in-Some.i).name ≡ c.args.name.now) =
    subst (λ (fs : List Field). (c.in-Some.i < length fs) × ((field_at fs c.in-Some.i).name ≡ c.args.name.now)) is c.in-Some.ensures.some in
    let apart : are_distinct (names_of fields) ≡ true =
    subst (λ (fs : List Field). are_distinct (names_of fs) ≡ true) c.self.view_is c.self.invariant.distinct in
    only_one fields c.args.name.now c.in-Some.i apart at.0 at.1
