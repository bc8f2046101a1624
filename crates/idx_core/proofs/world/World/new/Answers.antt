use Rattle.std.proofs.Common.{◌∙◌, [], ap, map, subst}
use Rattle.idx_cache.specs.Cached.{cached}
use Rattle.idx_hall.specs.Hall.{hall}
use Rattle.idx_layout.specs.Shape.{shape_of}
use Rattle.idx_pieces.specs.Digits.{piece_digits}
use Rattle.idx_events.specs.Start.{new_query, new_volumes}
use Rattle.idx_core_layers.specs.Division.{DivisionValue, layers_of}
use Rattle.idx_core.specs.NewWorld.{AreAsks, AreRight, IsAskRefusal}
use Rattle.idx_core.proofs.NewLemmas.{IsMade, made-core, made-new, made-taken, refused-new, starved-new}
use Rattle.idx_core.proofs.world.World.new.Goals as goal

made : (c : goal.In_ok-hall) → IsMade c.args.header.now c.args.ranks c.args.capacity c.args.volumes.now.items c.args.asks.now.items c.in_ok-below.below c.in_ok-steps.steps.items c.in_ok-hall.hall c.in_ok-asked.asked.items
made c = record {
  layers = c.in_ok-below.ensures
      ∙ ap (λ n. let d : DivisionValue = record { header = c.args.header.now; digits = n; ranks = c.args.ranks } in d) (c.piece_digits-digits.ensures.digits ∙ ap (piece_digits c.args.header.now) c.gather_room.ensures);
  divided = c.header.ensures.valid;
  right = subst (AreRight c.args.header.now) c.deref.ensures.value c.in_default.ensures;
  volumes_are = c.in_ok-steps.ensures.volumes ∙ ap (new_volumes (layers_of c.in_ok-below.below) []) c.deref-3.ensures.value;
  slots = c.in_ok-steps.ensures.slots;
  can = subst (AreAsks c.in_ok-below.below.header) c.deref-2.ensures.value c.in_ok-asked.ensures.can;
  queries = c.in_ok-asked.ensures.queries ∙ ap (map new_query) c.deref-2.ensures.value;
  planned = c.in_ok-asked.ensures.planned;
  hall_is = c.in_ok-hall.ensures ∙ ap (λ h. hall (shape_of h) [] (cached [] c.args.capacity)) c.header.ensures.value;
}

pub invariant_of-result : goal.invariant_of-result
invariant_of-result c =
    made-core c.args.header.now c.args.ranks c.args.capacity c.args.volumes.now.items c.args.asks.now.items c.in_ok-below.below c.in_ok-steps.steps.items c.in_ok-hall.hall c.in_ok-asked.asked.items
    c.requires.some (made c)

pub returns : goal.returns
returns c =
    let m = made c in (
      made-taken c.args.header.now c.args.ranks c.args.capacity c.args.volumes.now.items c.args.asks.now.items c.in_ok-below.below c.in_ok-steps.steps.items c.in_ok-hall.hall c.in_ok-asked.asked.items m,
      m.layers,
      made-new c.args.header.now c.args.ranks c.args.capacity c.args.volumes.now.items c.args.asks.now.items c.in_ok-below.below c.in_ok-steps.steps.items c.in_ok-hall.hall c.in_ok-asked.asked.items m,
    )

pub returns-in_err-below : goal.returns-in_err-below
returns-in_err-below c =
    let right = subst (AreRight c.args.header.now) c.deref.ensures.value c.in_default.ensures in
    starved-new c.args.header.now c.args.ranks c.args.capacity c.args.volumes.now.items c.args.asks.now.items right c.from_residual.result c.from_residual.ensures.1

pub returns-in_err-asked : goal.returns-in_err-asked
returns-in_err-asked c =
    let right = subst (AreRight c.args.header.now) c.deref.ensures.value c.in_default.ensures in
    let same = ap (λ (d : DivisionValue). d.header) c.in_ok-below.ensures in
    refused-new c.args.header.now c.args.ranks c.args.capacity c.args.volumes.now.items c.args.asks.now.items right c.from_residual-in_err-asked.result c.in_err-asked.field-0.0 c.from_residual-in_err-asked.ensures.1
    (subst (λ h. IsAskRefusal h c.args.asks.now.items c.in_err-asked.field-0.0) same
    (subst (λ l. IsAskRefusal c.in_ok-below.below.header l c.in_err-asked.field-0.0) c.deref-2.ensures.value c.in_err-asked.ensures.refused))

pub returns-in_err-steps : goal.returns-in_err-steps
returns-in_err-steps c =
    let right = subst (AreRight c.args.header.now) c.deref.ensures.value c.in_default.ensures in
    starved-new c.args.header.now c.args.ranks c.args.capacity c.args.volumes.now.items c.args.asks.now.items right c.from_residual-in_err-steps.result c.from_residual-in_err-steps.ensures.1

pub returns-in_err-hall : goal.returns-in_err-hall
returns-in_err-hall c =
    let right = subst (AreRight c.args.header.now) c.deref.ensures.value c.in_default.ensures in
    starved-new c.args.header.now c.args.ranks c.args.capacity c.args.volumes.now.items c.args.asks.now.items right c.from_residual-in_err-hall.result c.from_residual-in_err-hall.ensures.1
