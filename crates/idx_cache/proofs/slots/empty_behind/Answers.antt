use Rattle.std.proofs.Common.{◌≡◌, ◌<◌, List, Option, None, Some, false, is_some, option_copied, refl, length, arith, ap, ◌∙◌, sym, subst}
use Rattle.std.specs.Borrow.{Bor}
use Rattle.idx_cache.specs.Slotted.{placed, contents_emptied, content_at}
use Rattle.idx_cache.proofs.Placed.{emptied_placed, length_contents}
use Rattle.idx_cache.proofs.Evictions.{Emptying, emptying_skip, emptying_next, emptying_end}
use Rattle.idx_cache.proofs.slots.empty_behind.Goals as goal

none_copied : {X : Type 0} (o : Option (Bor X)) → is_some o ≡ false → option_copied o ≡ None
none_copied None h = refl
none_copied (Some x) h = cc

pub index_mut-requires : goal.index_mut-requires
index_mut-requires g c =
    let t = (subst (λ l. Emptying g.row.K.Denot g.row.V.Denot (Unit {0}) c.loop-slot.left l c.loop-slot.contents.items (contents_emptied c.args.kept c.args.order.now.entries c.args.contents.now.items)) c.in-Some.ensures.steps c.loop-slot.invariant) in
    let lt : c.in-Some.slot.now < length c.loop-slot.contents.items = t.within.0 in
    omega (arith, lt, c.loop-slot.contents.ok)

pub loop-slot-preserved-then-left-gt0 : goal.loop-slot-preserved-then-left-gt0
loop-slot-preserved-then-left-gt0 g c = emptying_skip c.loop-slot.left (c.in-Some.slot.now, tt) c.next.new.self c.loop-slot.contents.items (contents_emptied c.args.kept c.args.order.now.entries c.args.contents.now.items) (subst (λ l. Emptying g.row.K.Denot g.row.V.Denot (Unit {0}) c.loop-slot.left l c.loop-slot.contents.items (contents_emptied c.args.kept c.args.order.now.entries c.args.contents.now.items)) c.in-Some.ensures.steps c.loop-slot.invariant) c.if-left-gt0.true

pub loop-slot-preserved-else-is_none : goal.loop-slot-preserved-else-is_none
loop-slot-preserved-else-is_none g c = emptying_next c.loop-slot.left (c.in-Some.slot.now, tt) c.next.new.self c.loop-slot.contents.items (contents_emptied c.args.kept c.args.order.now.entries c.args.contents.now.items) (subst (λ l. Emptying g.row.K.Denot g.row.V.Denot (Unit {0}) c.loop-slot.left l c.loop-slot.contents.items (contents_emptied c.args.kept c.args.order.now.entries c.args.contents.now.items)) c.in-Some.ensures.steps c.loop-slot.invariant) c.if-left-gt0.false

pub loop-slot-preserved : goal.loop-slot-preserved
loop-slot-preserved g c = emptying_next c.loop-slot.left (c.in-Some.slot.now, tt) c.next.new.self c.loop-slot.contents.items (contents_emptied c.args.kept c.args.order.now.entries c.args.contents.now.items) (subst (λ l. Emptying g.row.K.Denot g.row.V.Denot (Unit {0}) c.loop-slot.left l c.loop-slot.contents.items (contents_emptied c.args.kept c.args.order.now.entries c.args.contents.now.items)) c.in-Some.ensures.steps c.loop-slot.invariant) c.if-left-gt0.false

pub returns-in-None-clause-rest : goal.returns-in-None-clause-rest
returns-in-None-clause-rest g c =
    let t = (subst (λ l. Emptying g.row.K.Denot g.row.V.Denot (Unit {0}) c.loop-slot.left l c.loop-slot.contents.items (contents_emptied c.args.kept c.args.order.now.entries c.args.contents.now.items)) c.in-None.ensures.steps.0 c.loop-slot.invariant) in
    ap (λ (l : List (Option (g.row.K.Denot × g.row.V.Denot))). placed l c.args.order.now.entries) t.same ∙ emptied_placed c.args.kept c.args.order.now.entries c.args.contents.now.items c.len-valid.ensures.valid.0

pub returns-in-None-clause-len : goal.returns-in-None-clause-len
returns-in-None-clause-len g c =
    let t = (subst (λ l. Emptying g.row.K.Denot g.row.V.Denot (Unit {0}) c.loop-slot.left l c.loop-slot.contents.items (contents_emptied c.args.kept c.args.order.now.entries c.args.contents.now.items)) c.in-None.ensures.steps.0 c.loop-slot.invariant) in
    ap (λ (l : List (Option (g.row.K.Denot × g.row.V.Denot))). length l) t.same ∙ length_contents c.args.kept c.args.order.now.entries c.args.contents.now.items

pub returns-then-is_none-clause-rest : goal.returns-then-is_none-clause-rest
returns-then-is_none-clause-rest g c =
    let empty : content_at c.loop-slot.contents.items c.in-Some.slot.now ≡ None =
    ap (λ (l : List (Option (g.row.K.Denot × g.row.V.Denot))). content_at l c.in-Some.slot.now) (sym c.deref.ensures.value) ∙ sym c.content_of.ensures ∙ none_copied c.content_of.result c.if-is_none.ensures in
    let last = emptying_end c.loop-slot.left (c.in-Some.slot.now, tt) c.next.new.self c.loop-slot.contents.items (contents_emptied c.args.kept c.args.order.now.entries c.args.contents.now.items) (subst (λ l. Emptying g.row.K.Denot g.row.V.Denot (Unit {0}) c.loop-slot.left l c.loop-slot.contents.items (contents_emptied c.args.kept c.args.order.now.entries c.args.contents.now.items)) c.in-Some.ensures.steps c.loop-slot.invariant) c.if-left-gt0.false empty in
    ap (λ (l : List (Option (g.row.K.Denot × g.row.V.Denot))). placed l c.args.order.now.entries) last ∙ emptied_placed c.args.kept c.args.order.now.entries c.args.contents.now.items c.len-valid.ensures.valid.0

pub returns-then-is_none-clause-len : goal.returns-then-is_none-clause-len
returns-then-is_none-clause-len g c =
    let empty : content_at c.loop-slot.contents.items c.in-Some.slot.now ≡ None =
    ap (λ (l : List (Option (g.row.K.Denot × g.row.V.Denot))). content_at l c.in-Some.slot.now) (sym c.deref.ensures.value) ∙ sym c.content_of.ensures ∙ none_copied c.content_of.result c.if-is_none.ensures in
    let last = emptying_end c.loop-slot.left (c.in-Some.slot.now, tt) c.next.new.self c.loop-slot.contents.items (contents_emptied c.args.kept c.args.order.now.entries c.args.contents.now.items) (subst (λ l. Emptying g.row.K.Denot g.row.V.Denot (Unit {0}) c.loop-slot.left l c.loop-slot.contents.items (contents_emptied c.args.kept c.args.order.now.entries c.args.contents.now.items)) c.in-Some.ensures.steps c.loop-slot.invariant) c.if-left-gt0.false empty in
    ap (λ (l : List (Option (g.row.K.Denot × g.row.V.Denot))). length l) last ∙ length_contents c.args.kept c.args.order.now.entries c.args.contents.now.items
