use Rattle.std.proofs.Common.{◌≡◌, ℕ, ◌<◌, List, length, get_or, sym, subst, arith}
use Rattle.idx_pieces.specs.Reading.{IsFrom}
use Rattle.idx_pieces.specs.declared.filling.Filling.{Filling}
use Rattle.idx_pieces.proofs.ReadingLemmas.{AllWithin-reach}
use Rattle.idx_pieces.proofs.filling.next_place.Goals as goal

pub parts-preserved : goal.parts-preserved
parts-preserved c =
    let items : List Filling = c.args.parts.now.items in
    let i : ℕ = c.parts.i in
    let x : Filling = c.index.result.now in
    let at : x ≡ get_or items i x = c.index.ensures in
    let inside : i < length items = omega (arith, c.parts-test.true, c.parts.auto.i-end, c.len-i-end.ensures) in
    record {
      from = AllWithin-reach (IsFrom c.sooner-next.result) items i x inside at
          (λ k d low high undone. omega (arith, c.parts.invariant.from k d low high undone, c.sooner-next.ensures.sooner)) c.sooner-next.ensures.from;
      within = omega (arith, c.parts.invariant.within, c.sooner-next.ensures.sooner);
      least = λ low le all. c.sooner-next.ensures.least low (c.parts.invariant.least low le all) (subst (IsFrom low) (sym at) (all i x inside));
    }
