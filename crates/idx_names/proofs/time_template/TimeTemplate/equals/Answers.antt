use Rattle.std.proofs.lemmas.Slice.Eq.{slice_eq-Decides}
use Rattle.idx_names.proofs.PieceLemmas.{equal_pieces}
use Rattle.idx_names.proofs.ValueLemmas.{same_time}
use Rattle.idx_names.proofs.time_template.TimeTemplate.equals.Goals as goal

pub returns-clause-same : goal.returns-clause-same
returns-clause-same c =
    let same = slice_eq-Decides equal_pieces c.self.inside.pieces.items c.other.inside.pieces.items c.eq.result c.eq.ensures in
    same_time c.eq.result c.self.inside.pieces.items c.other.inside.pieces.items _ _ same c.self.view_is c.other.view_is
