use Rattle.std.proofs.Common.{◌≡◌, false, length, rules, sym, ap, ◌∙◌, subst, Some}
use Rattle.std.specs.Prelude.{◌==◌, All, slice_get}
use Rattle.std.proofs.lemmas.List.{length-map}
use Rattle.idx_outside.specs.Shape.{Shape}
use Rattle.idx_hall.specs.Posts.{Post}
use Rattle.idx_hall.specs.Hall.{HallValue, IsBlockOf}
use Rattle.idx_hall.specs.Calls.{pairs_of}
use Rattle.idx_turn.specs.Stands.{MadeHolds}
use Rattle.idx_turn.proofs.BeginsLemmas.{begins_at}
use Rattle.idx_query.specs.Steps.{held_for}
use Rattle.idx_query.proofs.TakeLemmas.{filled-board, filled-cap, filled-shape, given-back, held-some}
use Rattle.idx_query.proofs.taking.fill_cache.Goals as goal

pub fill-stale-requires : goal.fill-stale-requires
fill-stale-requires g c =
    let post : Post = c.requires.blocks.0 in
    subst (λ (h : HallValue). record { blocks : (x : Post) × ((slice_get h.board c.args.post ≡ Some x) × All (IsBlockOf h.shape x) (pairs_of c.args.loaded.items)) }) (sym c.get_mut.ensures.value)
    (record {
      blocks = (
        post,
        (
          begins_at c.args.post post c.requires.blocks.1 c.take-held.ensures.begins,
          subst (λ (s : Shape). All (IsBlockOf s post) (pairs_of c.args.loaded.items)) (sym c.take-held.ensures.value_shape) c.requires.blocks.2,
        ),
      );
    })

pub give-requires : goal.give-requires
give-requires g c =
    let pairs = pairs_of c.args.loaded.items in
    given-back _ _ c.take-held.result c.fill-stale.new.self c.take-held.ensures.given
    (ap (λ (h : HallValue). h.shape) c.fill-stale.ensures.filled ∙ filled-shape c.args.post pairs c.get_mut.result.now ∙ ap (λ (h : HallValue). h.shape) c.get_mut.ensures.value)
    (ap (λ (h : HallValue). h.cache.cap) c.fill-stale.ensures.filled ∙ filled-cap c.args.post pairs c.get_mut.result.now ∙ ap (λ (h : HallValue). h.cache.cap) c.get_mut.ensures.value)
    (ap (λ (h : HallValue). h.board) c.fill-stale.ensures.filled ∙ filled-board c.args.post pairs c.get_mut.result.now ∙ ap (λ (h : HallValue). h.board) c.get_mut.ensures.value)

pub returns-clause-held : goal.returns-clause-held
returns-clause-held g c =
    let pairs = pairs_of c.args.loaded.items in
    let some : (length c.args.loaded.items == 0) ≡ false = search rules in
    let once : held_for pairs ≡ 1 = held-some pairs (ap (λ n. n == 0) (length-map c.args.loaded.items _) ∙ some) in
    subst (λ n. MadeHolds (g.T.Turn.holds c.args.turn.now) (g.T.Turn.holds c.give.new.self) n) (sym once)
    (subst (λ n. MadeHolds (g.T.Turn.holds c.args.turn.now) n 1) (sym c.give.ensures.holds) c.take-held.ensures.held)
