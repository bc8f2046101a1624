use Rattle.std.proofs.Common.{◌≡◌, ◌↔◌, ◌<◌, List, Some, length, ap, subst}
use Rattle.idx_fields.specs.Field.{Field, field_at}
use Rattle.idx_header.specs.Header.{HeaderValue}
use Rattle.idx_header.proofs.header.Header.find_field.Goals as goal

pub returns-clause-some : goal.returns-clause-some
returns-clause-some c = λ i.
    let fields = ap (λ (h : HeaderValue). h.fields) c.self.view_is in
    let P : List Field → Type 0 =
    λ fs. (c.find.result ≡ Some i) ↔ ((i < length fs) × ((field_at fs i).name ≡ c.args.name.now)) in
    subst P fields (c.find.ensures.some i)
