use Rattle.std.proofs.Common.{◌≡◌, ℕ, ◌+◌, ◌-◌, ◌<◌, ◌++◌, ◌∷◌, List, length, length-drop, get_or, take, drop, refl, ap, ◌∙◌, arith}
use Rattle.std.proofs.lemmas.List.{drop-set-add, get_or-drop}
use Rattle.idx_lanes.specs.declared.lane.Lane.{Lane}
use Rattle.idx_lanes.proofs.CopyLemmas.{no_lane}
use Rattle.idx_block.proofs.TilesLemmas.{lanes-with}
use Rattle.idx_block.proofs.tiles.cut.Goals as goal

pub returns-clause-cut : goal.returns-clause-cut
returns-clause-cut c =
    let lanes : List Lane = c.args.lanes.now.lanes in
    let unused : ℕ = 5 - c.args.lanes.now.axes in
    let at : ℕ = c.in_ok-at.field-0 in
    let used : List Lane = drop unused lanes in
    let lane : Lane = get_or lanes (unused + at) no_lane in
    let half : Lane = c.in_ok-half.half in
    let read : get_or used at no_lane ≡ lane = get_or-drop unused lanes at no_lane in
    let within : at < length used = omega (arith, length-drop unused lanes, c.in_ok-at.ensures.bound, c.iter.ensures.len) in
    let parts = lanes-with used at no_lane half within in
    record {
      slower = take at used;
      lane = lane;
      faster = drop (at + 1) used;
      before = parts.0 ∙ ap (λ x. take at used ++ (x ∷ drop (at + 1) used)) read;
      after = drop-set-add unused lanes at half ∙ parts.1 ∙ ap (λ x. take at used ++ (x ∷ drop (at + 1) used)) c.in_ok-half.ensures.half;
      split = c.in_ok-half.ensures.split;
      apart = refl;
    }
