use Rattle.std.proofs.Common.{◌≡◌, List, ◌∷◌, sym, ap, subst, arith}
use Rattle.std.specs.Prelude.{All}
use Rattle.idx_scatter.specs.declared.side.Side.{Side}
use Rattle.idx_scatter.specs.declared.side.Earlier.{Earlier}
use Rattle.idx_scatter.specs.Sides.{AreSides, IsBefore, IsSane}
use Rattle.idx_scatter.proofs.SideLemmas.{before-none, before-some, first_of, in_row-few, no_side-is, rest_of, sides-are}
use Rattle.std.proofs.lemmas.List.Elements.{All-head}
use Rattle.idx_scatter.proofs.side.+before.Goals as goal

pub returns-in-empty-clause-value : goal.returns-in-empty-clause-value
returns-in-empty-clause-value t c = λ s k bs are within.
    before-none s k bs c.args.place (subst (λ (l : List Side). AreSides s k bs l) (sym (no_side-is c.args.sides.now c.in-empty.len_below)) are) within

pub returns-in-len1-up-clause-few : goal.returns-in-len1-up-clause-few
returns-in-len1-up-clause-few t c =
    let sides : List Side = c.args.sides.now in
    let whole : first_of sides ∷ rest_of sides ≡ sides = sides-are sides (omega (arith, c.in-len1-up.len_at_least)) in
    let sane : IsSane (first_of sides) = All-head IsSane (first_of sides) (rest_of sides) (subst (λ (l : List Side). All IsSane l) (sym whole) c.requires) in
    omega (arith, ap (λ (e : Earlier). e.count) c.before_in_row.ensures, in_row-few (first_of sides) c.before-rows.result c.args.place sane c.before-rows.ensures.few)

pub returns-in-len1-up-clause-value : goal.returns-in-len1-up-clause-value
returns-in-len1-up-clause-value t c = λ s k bs are within.
    let sides : List Side = c.args.sides.now in
    let whole : first_of sides ∷ rest_of sides ≡ sides = sides-are sides (omega (arith, c.in-len1-up.len_at_least)) in
    subst (λ (e : Earlier). IsBefore s k bs c.args.place e.count e.lies) (sym c.before_in_row.ensures)
    (before-some s k bs (first_of sides) (rest_of sides) c.args.place c.before-rows.result (subst (λ (l : List Side). AreSides s k bs l) (sym whole) are) within c.before-rows.ensures.value)
