use Rattle.std.proofs.Common.{◌≡◌}
use Rattle.std.proofs.lemmas.Slice.Eq.{slice_eq-Decides}
use Rattle.std.proofs.lemmas.Bool.Decides.{Decides-eqb}
use Rattle.idx_names.proofs.PieceLemmas.{equal_pieces}
use Rattle.idx_names.proofs.ValueLemmas.{same_template}
use Rattle.idx_names.proofs.template.Template.equals.Goals as goal

pub returns-then-eq-clause-same : goal.returns-then-eq-clause-same
returns-then-eq-clause-same c =
    let above : c.self.inside.above ≡ c.other.inside.above =
    (slice_eq-Decides Decides-eqb c.self.inside.above c.other.inside.above c.eq.result c.eq.ensures).0 c.if-eq.true in
    let same = slice_eq-Decides equal_pieces c.self.inside.pieces.items c.other.inside.pieces.items c.eq-then-eq.result c.eq-then-eq.ensures in
    same_template c.eq-then-eq.result _ _ c.self.inside.pieces.items c.other.inside.pieces.items _ _ above same c.self.view_is c.other.view_is
