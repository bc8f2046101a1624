use Rattle.std.proofs.Common.{◌≡◌, ℕ, ◌<◌, List, length, get_or, sym, subst, arith}
use Rattle.idx_pieces.specs.Reading.{EndsBelow, IsReady}
use Rattle.idx_pieces.specs.declared.filling.Filling.{Filling}
use Rattle.idx_pieces.proofs.ReadingLemmas.{AllWithin-reach}
use Rattle.idx_pieces.proofs.begun.end_place.Goals as goal

pub later-end-requires : goal.later-end-requires
later-end-requires c =
    let items : List Filling = c.args.parts.now.items in
    let i : ℕ = c.parts.i in
    let x : Filling = c.index.result.now in
    let inside : i < length items = omega (arith, c.parts-test.true, c.parts.auto.i-end, c.len-i-end.ensures) in
    record { ready = subst (IsReady c.args.extent.now 0) (sym c.index.ensures) (c.requires i x inside) }

pub parts-preserved : goal.parts-preserved
parts-preserved c =
    let items : List Filling = c.args.parts.now.items in
    let i : ℕ = c.parts.i in
    let x : Filling = c.index.result.now in
    let at : x ≡ get_or items i x = c.index.ensures in
    let inside : i < length items = omega (arith, c.parts-test.true, c.parts.auto.i-end, c.len-i-end.ensures) in
    record {
      ends = AllWithin-reach (EndsBelow c.args.extent.now c.later-end.result) items i x inside at
          (λ k d low high. omega (arith, c.parts.invariant.ends k d low high, c.later-end.ensures.later)) c.later-end.ensures.ends;
      least = λ end all. c.later-end.ensures.least end (c.parts.invariant.least end all) (subst (EndsBelow c.args.extent.now end) (sym at) (all i x inside));
      within = c.later-end.ensures.within c.parts.invariant.within;
    }
