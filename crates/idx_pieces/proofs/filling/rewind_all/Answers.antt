use Rattle.std.proofs.Common.{◌≡◌, ℕ, ◌<◌, List, length, get_or, ap, ◌∙◌, arith}
use Rattle.std.proofs.lemmas.List.{length-set}
use Rattle.std.proofs.lemmas.List.Elements.{All-set, AllWithin-more_set}
use Rattle.std.proofs.Math.Seq.{map-set_same}
use Rattle.idx_pieces.specs.Reading.{IsReady}
use Rattle.idx_pieces.specs.declared.filling.Filling.{Filling}
use Rattle.idx_pieces.specs.declared.parcel.Parcel.{Parcel}
use Rattle.idx_pieces.proofs.filling.rewind_all.Goals as goal

pub parts-preserved : goal.parts-preserved
parts-preserved c =
    let items : List Filling = c.parts.parts.items in
    let i : ℕ = c.parts.i in
    let old : Filling = c.index_mut.result.now in
    let new : Filling = c.rewind.new.self in
    let parcel : Filling → Parcel = λ f. f.parcel in
    let at : old ≡ get_or items i old = c.index_mut.ensures.value in
    let inside : i < length items = omega (arith, c.parts-test.true, c.parts.auto.i-end, c.len-i-end.ensures, c.parts.invariant.count) in
    record {
      count = length-set items i new ∙ c.parts.invariant.count;
      ready = All-set (IsReady c.args.extent.now 0) items i new c.rewind.ensures.ready c.parts.invariant.ready;
      first = AllWithin-more_set items i new inside (λ (f : Filling). f.cursor.done ≡ 0) c.parts.invariant.first c.rewind.ensures.first;
      parcels = map-set_same parcel items i new old (c.rewind.ensures.parcel ∙ ap parcel at) ∙ c.parts.invariant.parcels;
    }
