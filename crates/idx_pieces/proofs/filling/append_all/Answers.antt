use Rattle.std.proofs.Common.{◌≡◌, ℕ, ◌<◌, List, length, get_or, All, sym, ap, ◌∙◌, subst, arith}
use Rattle.std.proofs.lemmas.List.{length-set}
use Rattle.std.proofs.lemmas.List.Elements.{All-set, AllWithin-more_set}
use Rattle.std.proofs.Math.Seq.{map-set_same}
use Rattle.idx_pieces.specs.Filling.{Appends}
use Rattle.idx_pieces.specs.Reading.{HoldsUpTo, IsReady, heading}
use Rattle.idx_pieces.specs.declared.filling.Filling.{Filling}
use Rattle.idx_pieces.proofs.ReadingLemmas.{AllWithin-behind, HoldsUpTo-more}
use Rattle.idx_pieces.proofs.filling.append_all.Goals as goal

pub parts-preserved : goal.parts-preserved
parts-preserved c =
    let h = c.args.header.now in
    let items : List Filling = c.parts.parts.items in
    let i : ℕ = c.parts.i in
    let old : Filling = c.index_mut.result.now in
    let new : Filling = c.append.new.self in
    let at : old ≡ get_or items i old = c.index_mut.ensures.value in
    let inside : i < length items = omega (arith, c.parts-test.true, c.parts.auto.i-end, c.len-i-end.ensures, c.parts.invariant.count) in
    record {
      count = length-set items i new ∙ c.parts.invariant.count;
      todo = AllWithin-behind (IsReady h.box c.args.from) items i new c.parts.invariant.todo;
      ready = AllWithin-more_set items i new inside (IsReady h.box c.args.to) c.parts.invariant.ready
          (subst (λ (b : List (ℕ × ℕ)). IsReady b c.args.to new) c.region-extent.ensures.value c.in_ok-append.ensures.ready);
      headings = map-set_same heading items i new old (c.in_ok-append.ensures.heading ∙ ap heading at) ∙ c.parts.invariant.headings;
      held = λ told window before.
          let all : All (HoldsUpTo h told c.args.field) items = c.parts.invariant.held told window before in
          let here : HoldsUpTo h told c.args.field old = subst (HoldsUpTo h told c.args.field) (sym at) (all i old inside) in
          All-set (HoldsUpTo h told c.args.field) items i new
          (HoldsUpTo-more h told c.args.field c.args.from c.args.window.now old new
          (subst (λ (s : ℕ). Appends s c.args.from c.args.window.now h.box old.parcel.region old.parcel.bytes new.parcel.bytes old.cursor.done new.cursor.done) c.sample_bytes-size.ensures.value
          (subst (λ (b : List (ℕ × ℕ)). Appends c.sample_bytes-size.result c.args.from c.args.window.now b old.parcel.region old.parcel.bytes new.parcel.bytes old.cursor.done new.cursor.done) c.region-extent.ensures.value
          c.in_ok-append.ensures.appends))
          c.in_ok-append.ensures.heading window here)
          all;
    }
