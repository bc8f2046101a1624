use Rattle.std.proofs.Common.{ℕ, List, sym, subst, arith}
use Rattle.std.proofs.lemmas.Option.{slice_get_within}
use Rattle.idx_geom.specs.Region.{LiesIn, points}
use Rattle.idx_geom.proofs.LiesInLemmas.{LiesIn-upper_ends}
use Rattle.idx_pieces.proofs.filling.Filling.later.Goals as goal

pub rank_of-requires : goal.rank_of-requires
rank_of-requires c =
    let region : List (ℕ × ℕ) = c.args.self.now.parcel.region in
    c.requires.ready.cursor.part.inside c.hi.result
    (subst (LiesIn region) (sym c.hi.ensures) (LiesIn-upper_ends region c.requires.ready.cursor.part.valid.ordered))

pub overflow_add-rank_of : goal.overflow_add-rank_of
overflow_add-rank_of c =
    omega (arith, slice_get_within (points c.args.extent.now) c.rank_of.result c.hi.result c.rank_of.ensures.found, c.requires.ready.cursor.part.valid_box.few)

pub returns-clause-within : goal.returns-clause-within
returns-clause-within c = λ le.
    omega (arith, slice_get_within (points c.args.extent.now) c.rank_of.result c.hi.result c.rank_of.ensures.found, le, c.max.ensures)
