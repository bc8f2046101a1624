use Rattle.std.proofs.Common.{◌≡◌, ℕ, ◌≤◌, List, map, sym, ap, ◌∙◌, subst, Some}
use Rattle.std.specs.Prelude.{IfSome, Option, slice_get}
use Rattle.std.proofs.lemmas.Option.{get_or_from_slice_get}
use Rattle.idx_cache.specs.Cached.{Cached, found}
use Rattle.idx_hall.specs.declared.block_name.BlockName.{BlockName}
use Rattle.idx_outside.specs.Shape.{Shape}
use Rattle.idx_hall.specs.Posts.{post_of}
use Rattle.idx_hall.specs.Hall.{HallOk, HallValue, name_eq, name_of, named, noted}
use Rattle.idx_hall.specs.Looked.{LookedValue, looked_up}
use Rattle.idx_hall.specs.Calls.{AreBlocksOf, IsStepOf}
use Rattle.idx_hall.proofs.HallLemmas.{found-blocks, look-holds, noted-map, step-holds}
use Rattle.idx_hall.proofs.NewestLemmas.{step_at}
use Rattle.idx_hall.proofs.hall.Hall.look_at.Goals as goal

pub invariant_of-self : goal.invariant_of-self
invariant_of-self g c = c.self.invariant

pub invariant_of-self-2 : goal.invariant_of-self-2
invariant_of-self-2 g c = (look-holds _ _ _ _ c.self.invariant.0 c.args.post c.args.keys.now c.touch_all.ensures, c.self.invariant.1, subst (λ (x : Cached BlockName (List ℕ)). x.cap ≤ 65536) (sym c.touch_all.ensures) c.self.invariant.2)

pub returns-clause-blocks : goal.returns-clause-blocks
returns-clause-blocks g c = λ p at.
    let ok : HallOk c.args.self.now = subst HallOk c.self.view_is c.self.invariant.0 in
    subst (λ (f : List (Option (List ℕ))). AreBlocksOf c.args.self.now.shape p c.args.keys.now f)
    (sym (ap (λ (l : LookedValue g.row.E.Denot). l.found) c.in_ok-note.ensures.found
    ∙ ap (λ (h : HallValue). map (λ key. found name_eq (name_of c.args.post key) h.cache.pairs) c.args.keys.now) c.self.view_is))
    (found-blocks c.args.self.now ok c.args.post p at c.args.keys.now)

pub returns-clause-step : goal.returns-clause-step
returns-clause-step g c =
    let shape : Shape = record { blocks = c.self.inside.blocks; lengths = c.self.inside.lengths.items } in
    let n : ℕ = c.args.post in
    let now : g.row.E.Denot = c.index.result.now in
    let step = step_at (λ e. post_of shape (g.E.Blocks.time e) (g.E.Blocks.has e) (g.E.Blocks.stored e)) c.self.inside.board.items n c.requires.post.0
    (subst (λ (h : HallValue). slice_get h.board n ≡ Some c.requires.post.0) (sym c.self.view_is) c.requires.post.1) in
    let at : slice_get c.self.inside.board.items n ≡ Some now =
    step.1.0 ∙ ap Some (sym (c.index.ensures ∙ get_or_from_slice_get c.self.inside.board.items n step.0 now step.1.0)) in
    subst (λ (l : LookedValue g.row.E.Denot). IfSome l.edition (IsStepOf g.E.Blocks.time g.E.Blocks.shape g.E.Blocks.has g.E.Blocks.stored c.args.self.now n)) (sym c.in_ok-note.ensures.found)
    (step-holds g.E.Blocks.time g.E.Blocks.shape g.E.Blocks.has g.E.Blocks.stored shape c.self.inside.board.items c.self.inside.cache c.args.self.now c.self.view_is c.self.invariant.1 n now at)

pub returns-clause-noted : goal.returns-clause-noted
returns-clause-noted g c = (
  c.index.result.now,
  c.in_ok-note.ensures.found
      ∙ ap (λ (f : List (Option (List ℕ))). looked_up c.index.result.now f c.args.looked.now.room)
      (sym (noted-map c.args.post c.args.keys.now c.self.inside.cache.pairs) ∙ ap (λ (h : HallValue). noted (named c.args.post c.args.keys.now) h.cache.pairs) c.self.view_is),
)
