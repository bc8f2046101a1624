use Rattle.std.proofs.Common.{◌≡◌, List, length, sym, ap, ◌∙◌, subst, Some}
use Rattle.std.specs.Prelude.{All, IfSome, Option, slice_get}
use Rattle.idx_outside.specs.Shape.{Shape}
use Rattle.idx_hall.specs.declared.key.Key.{Key}
use Rattle.idx_hall.specs.Posts.{Post}
use Rattle.idx_hall.specs.Hall.{HallValue}
use Rattle.idx_hall.specs.Looked.{LookedValue}
use Rattle.idx_hall.specs.Calls.{AreBlocksOf, IsStepOf}
use Rattle.idx_hall.proofs.HallLemmas.{length-noted_keys}
use Rattle.idx_turn.proofs.BeginsLemmas.{begins_at}
use Rattle.idx_query.specs.Steps.{HasLooked, IsEditionOf}
use Rattle.idx_query.proofs.TakeLemmas.{edition-of, given-back}
use Rattle.idx_query.proofs.taking.look_again.Goals as goal

pub look_at-found-requires-clause-post : goal.look_at-found-requires-clause-post
look_at-found-requires-clause-post g c =
    let post : Post = c.requires.post.0 in (
      post,
      ap (λ (h : HallValue). slice_get h.board c.args.post) c.get_mut.ensures.value ∙ begins_at c.args.post post c.requires.post.1.at c.take-held.ensures.begins,
      subst (λ t. All (λ (key : Key). key.time ≡ t) c.args.keys.now) (sym c.requires.post.1.time) c.requires.keys,
    )

pub give-requires : goal.give-requires
give-requires g c =
    given-back _ _ c.take-held.result c.look_at-found.new.self c.take-held.ensures.given
    (c.look_at-found.ensures.shape ∙ ap (λ (h : HallValue). h.shape) c.get_mut.ensures.value)
    (c.look_at-found.ensures.capacity ∙ ap (λ (h : HallValue). h.cache.cap) c.get_mut.ensures.value)
    (c.look_at-found.ensures.board ∙ ap (λ (h : HallValue). h.board) c.get_mut.ensures.value)

pub returns-clause-looked : goal.returns-clause-looked
returns-clause-looked g c =
    let h : HallValue = c.get_mut.result.now in
    let post : Post = c.requires.post.0 in
    let on : slice_get h.board c.args.post ≡ Some post =
    ap (λ (h : HallValue). slice_get h.board c.args.post) c.get_mut.ensures.value ∙ begins_at c.args.post post c.requires.post.1.at c.take-held.ensures.begins in
    let noted_is = c.in_ok-found.ensures.noted in
    let edition : c.look_at-found.new.looked.edition ≡ Some noted_is.0 = ap (λ (l : LookedValue g.row.E.Denot). l.edition) noted_is.1 in
    let seen : h.board ≡ g.T.Turn.seen c.give.new.self = sym c.look_at-found.ensures.board ∙ sym c.give.ensures.seen in
    let shape : h.shape ≡ g.T.Turn.shape c.args.turn.now = ap (λ (x : HallValue). x.shape) c.get_mut.ensures.value ∙ c.take-held.ensures.value_shape in
    let step : IsStepOf g.E.Blocks.time g.E.Blocks.shape g.E.Blocks.has g.E.Blocks.stored h c.args.post noted_is.0 =
    subst (λ (o : Option g.row.E.Denot). IfSome o (IsStepOf g.E.Blocks.time g.E.Blocks.shape g.E.Blocks.has g.E.Blocks.stored h c.args.post)) edition c.in_ok-found.ensures.step in
    subst (λ (l : LookedValue g.row.E.Denot). HasLooked g.E.Blocks.time g.E.Blocks.shape g.E.Blocks.has g.E.Blocks.stored (g.T.Turn.shape c.args.turn.now) (g.T.Turn.seen c.give.new.self) c.args.time c.args.post c.args.keys.now l) (sym c.take_spare.ensures) (record {
      post = post;
      at = record { at = subst (λ (b : List Post). slice_get b c.args.post ≡ Some post) seen on; time = c.requires.post.1.time };
      blocks = subst (λ (s : Shape). AreBlocksOf s post c.args.keys.now c.look_at-found.new.looked.found) shape (c.in_ok-found.ensures.blocks post on);
      many = ap (λ (l : LookedValue g.row.E.Denot). length l.found) noted_is.1 ∙ length-noted_keys c.args.post c.args.keys.now h.cache.pairs;
      edition = noted_is.0;
      here = edition;
      is = subst (λ (s : Shape). IsEditionOf g.E.Blocks.time g.E.Blocks.shape g.E.Blocks.has g.E.Blocks.stored s post noted_is.0) shape
          (edition-of g.E.Blocks.time g.E.Blocks.shape g.E.Blocks.has g.E.Blocks.stored h c.args.post post noted_is.0 on step);
    })
