use Rattle.std.proofs.Common.{◌↔◌, ◌-◌, List, ℕ, length, sym, subst}
use Rattle.idx_geom.specs.Region.{LiesIn}
use Rattle.idx_grid.specs.Block.{HasPrefix}
use Rattle.idx_hz.specs.Mask.{NamesAxes}
use Rattle.idx_pieces.proofs.PieceLemmas.{IsCovered, id_is, piece_found}
use Rattle.idx_pieces.proofs.piece_ids.piece_region.Goals as goal

pub prefix_box-requires-clause-named : goal.prefix_box-requires-clause-named
prefix_box-requires-clause-named c =
    let mask = c.args.mask.now in
    let covered : IsCovered mask c.args.region.now c.args.e c.args.id = record { has = c.requires.address; digits = c.requires.digits; small = c.requires.small } in
    subst (λ (n : ℕ). NamesAxes mask n) (sym c.axes.ensures.count) (id_is mask c.args.region.now c.args.e c.args.id covered).named

pub returns : goal.returns
returns c =
    let mask = c.args.mask.now in
    let box = c.args.region.now in
    let covered : IsCovered mask box c.args.e c.args.id = record { has = c.requires.address; digits = c.requires.digits; small = c.requires.small } in
    let front = c.prefix_box.result in
    let sized : (p : List ℕ) → LiesIn front p ↔ HasPrefix mask (length box) (c.len.result - c.args.e) c.args.id p =
    subst (λ (n : ℕ). (p : List ℕ) → LiesIn front p ↔ HasPrefix mask n (c.len.result - c.args.e) c.args.id p) c.axes.ensures.count c.prefix_box.ensures.points in
    let points : (p : List ℕ) → LiesIn front p ↔ HasPrefix mask (length box) (length mask - c.args.e) c.args.id p =
    subst (λ (n : ℕ). (p : List ℕ) → LiesIn front p ↔ HasPrefix mask (length box) (n - c.args.e) c.args.id p) c.len.ensures.count sized in
    piece_found mask box front c.args.e c.args.id c.meet.result covered points c.meet.ensures.bounds
