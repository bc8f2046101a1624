use Rattle.std.proofs.Common.{◌≡◌, ℕ, ◌+◌, ◌*◌, ◌<◌, ◌≤◌, [], sym, ap, ◌∙◌, subst}
use Rattle.idx_scatter.specs.Legs.{leg_of, place_by, tally_at}
use Rattle.idx_scatter.specs.declared.tally.Tally.{Tally}
use Rattle.idx_scatter.proofs.MoveLemmas.{apart-moved, spots-there, spots-wanted}
use Rattle.idx_scatter.proofs.PaceLemmas.{row-places}
use Rattle.idx_scatter.proofs.walk.row.Goals as goal
use Rattle.idx_scatter.proofs.walk.row.Goals.{After-place-first}

pub more_each-requires : goal.more_each-requires
more_each-requires g c = (c.requires.fits 0 c.requires.counted).0

pub at-requires : goal.at-requires
at-requires g c = (c.requires.fits 0 c.requires.counted).0

pub place-first-requires : goal.place-first-requires
place-first-requires g c = subst (λ (t : Tally). t.coarse.count ≤ t.fine.count) (sym c.at.ensures) (c.requires.within 0 c.requires.counted).ordered

-- the places of its points
even : (g : _) (c : goal.After-place-first g) (k : ℕ) → k < c.args.lane.now.count → place_by (tally_at (leg_of c.args.legs.now []) c.args.rows.now k) ≡ c.place-first.result + k * c.in-Some.more
even g c k lt =
    row-places (leg_of c.args.legs.now []) c.args.rows.now c.in-Some.more k (c.in-Some.ensures k) (c.requires.within 0 c.requires.counted).ordered
    ∙ ap (λ n. n + k * c.in-Some.more) (sym (c.place-first.ensures ∙ ap place_by c.at.ensures))

pub even_row-requires-clause-within : goal.even_row-requires-clause-within
even_row-requires-clause-within g c =
    spots-there (g.S.Sample.bytes c.args.sample) c.args.samples.now c.args.into.now c.args.legs.now c.args.lane.now c.args.place c.args.rows.now c.place-first.result c.in-Some.more
    (even g (goal.at.even_row-requires-clause-within g c).After-place-first) c.requires.within

pub returns-in-Some : goal.returns-in-Some
returns-in-Some g c = λ want right.
    let evenly = even g (goal.at.returns-in-Some g c).After-place-first in
    apart-moved want (g.S.Sample.bytes c.args.sample) c.args.legs.now c.args.lane.now c.args.place c.args.rows.now c.place-first.result c.in-Some.more c.args.into.now c.even_row.new.into evenly
    (c.even_row.ensures want
    (spots-wanted want (g.S.Sample.bytes c.args.sample) c.args.samples.now c.args.legs.now c.args.lane.now c.args.place c.args.rows.now c.place-first.result c.in-Some.more evenly right))
