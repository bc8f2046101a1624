use Rattle.std.proofs.Common.{◌≡◌, List, length, sym, ap, ◌∙◌, subst, Some}
use Rattle.std.specs.Prelude.{IfSome, Option, slice_get}
use Rattle.idx_outside.specs.Shape.{Shape}
use Rattle.idx_hall.specs.Posts.{IsNewestOf, Post}
use Rattle.idx_hall.specs.Hall.{HallValue}
use Rattle.idx_hall.specs.Looked.{LookedValue}
use Rattle.idx_hall.specs.Calls.{AreBlocksOf, IsStepOf}
use Rattle.idx_hall.proofs.HallLemmas.{length-noted_keys}
use Rattle.idx_query.specs.Steps.{HasLooked, IsEditionOf}
use Rattle.idx_query.proofs.TakeLemmas.{edition-of, given-back, holding}
use Rattle.idx_query.proofs.taking.look_up.Goals as goal

pub give-requires : goal.give-requires
give-requires g c =
    given-back _ _ c.take-held.result c.look-found.new.self c.take-held.ensures.given
    (c.look-found.ensures.shape ∙ ap (λ (h : HallValue). h.shape) c.get_mut.ensures.value)
    (c.look-found.ensures.capacity ∙ ap (λ (h : HallValue). h.cache.cap) c.get_mut.ensures.value)
    (c.look-found.ensures.board ∙ ap (λ (h : HallValue). h.board) c.get_mut.ensures.value)

pub returns-in-Some-clause-newest : goal.returns-in-Some-clause-newest
returns-in-Some-clause-newest g c =
    let h : HallValue = c.get_mut.result.now in
    let there = holding _ c.in_ok-post.field-0 c.in-Some.post c.in_ok-post.ensures.post c.in-Some.is in
    let seen : h.board ≡ g.T.Turn.seen c.give.new.self = sym c.look-found.ensures.board ∙ sym c.give.ensures.seen in (
      there.0,
      subst (λ (b : List Post). IsNewestOf b c.args.time c.in-Some.post there.0) seen there.1,
    )

pub returns-in-Some-clause-looked : goal.returns-in-Some-clause-looked
returns-in-Some-clause-looked g c =
    let h : HallValue = c.get_mut.result.now in
    let there = holding _ c.in_ok-post.field-0 c.in-Some.post c.in_ok-post.ensures.post c.in-Some.is in
    let noted_is = holding _ c.in_ok-post.field-0 c.in-Some.post c.in_ok-post.ensures.noted c.in-Some.is in
    let edition : c.look-found.new.looked.edition ≡ Some noted_is.0 = ap (λ (l : LookedValue g.row.E.Denot). l.edition) noted_is.1 in
    let seen : h.board ≡ g.T.Turn.seen c.give.new.self = sym c.look-found.ensures.board ∙ sym c.give.ensures.seen in
    let shape : h.shape ≡ g.T.Turn.shape c.args.turn.now = ap (λ (x : HallValue). x.shape) c.get_mut.ensures.value ∙ c.take-held.ensures.value_shape in
    let step : IsStepOf g.E.Blocks.time g.E.Blocks.shape g.E.Blocks.has g.E.Blocks.stored h c.in-Some.post noted_is.0 =
    subst (λ (o : Option g.row.E.Denot). IfSome o (IsStepOf g.E.Blocks.time g.E.Blocks.shape g.E.Blocks.has g.E.Blocks.stored h c.in-Some.post)) edition (holding _ c.in_ok-post.field-0 c.in-Some.post c.in_ok-post.ensures.step c.in-Some.is) in
    subst (λ (l : LookedValue g.row.E.Denot). HasLooked g.E.Blocks.time g.E.Blocks.shape g.E.Blocks.has g.E.Blocks.stored (g.T.Turn.shape c.args.turn.now) (g.T.Turn.seen c.give.new.self) c.args.time c.in-Some.post c.args.keys.now l) (sym c.take_spare.ensures) (record {
      post = there.0;
      at = record { at = subst (λ (b : List Post). slice_get b c.in-Some.post ≡ Some there.0) seen there.1.at; time = there.1.time };
      blocks = subst (λ (s : Shape). AreBlocksOf s there.0 c.args.keys.now c.look-found.new.looked.found) shape there.2;
      many = ap (λ (l : LookedValue g.row.E.Denot). length l.found) noted_is.1 ∙ length-noted_keys c.in-Some.post c.args.keys.now h.cache.pairs;
      edition = noted_is.0;
      here = edition;
      is = subst (λ (s : Shape). IsEditionOf g.E.Blocks.time g.E.Blocks.shape g.E.Blocks.has g.E.Blocks.stored s there.0 noted_is.0) shape
          (edition-of g.E.Blocks.time g.E.Blocks.shape g.E.Blocks.has g.E.Blocks.stored h c.in-Some.post there.0 noted_is.0 there.1.at step);
    })
