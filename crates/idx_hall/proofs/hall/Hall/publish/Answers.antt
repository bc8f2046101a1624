use Rattle.std.proofs.Common.{◌≡◌, ℕ, ◌≤◌, List, [], ◌∷◌, sym, ap, ◌∙◌, subst}
use Rattle.std.specs.Prelude.{All}
use Rattle.std.proofs.lemmas.List.Elements.{All-append, All-cons, All-nil}
use Rattle.std.specs.Arc.{arc_value}
use Rattle.idx_cache.specs.Cached.{Cached, cached}
use Rattle.idx_hall.specs.declared.block_name.BlockName.{BlockName}
use Rattle.idx_outside.specs.Shape.{Shape}
use Rattle.idx_hall.specs.Posts.{post_of}
use Rattle.idx_hall.specs.Hall.{HallValue, of_other_times}
use Rattle.idx_hall.proofs.HallLemmas.{publish-holds}
use Rattle.idx_hall.proofs.hall.Hall.publish.Goals as goal

pub invariant_of-self : goal.invariant_of-self
invariant_of-self g c =
    let shape : Shape = record { blocks = c.self.inside.blocks; lengths = c.self.inside.lengths.items } in
    let time_is = c.time-time.ensures ∙ ap g.E.Blocks.time c.deref.ensures in (
      publish-holds (λ e. post_of shape (g.E.Blocks.time e) (g.E.Blocks.has e) (g.E.Blocks.stored e)) shape c.self.inside.cache c.self.inside.board.items c.append.new.board.items c.self.invariant.0
          (arc_value c.args.edition) c.drop_time.new.cache c.in-Ok-append.ensures.added
          (c.drop_time.ensures ∙ ap (λ t. cached (of_other_times t c.self.inside.cache.pairs) c.self.inside.cache.cap) time_is),
      subst (λ es. All (λ e. g.E.Blocks.shape e ≡ shape) es) (sym c.in-Ok-append.ensures.added)
          (All-append (λ e. g.E.Blocks.shape e ≡ shape) c.self.inside.board.items (arc_value c.args.edition ∷ []) c.self.invariant.1
          (All-cons (λ e. g.E.Blocks.shape e ≡ shape) (arc_value c.args.edition) [] (c.requires.shape ∙ sym (ap (λ (h : HallValue). h.shape) c.self.view_is)) (All-nil (λ e. g.E.Blocks.shape e ≡ shape)))),
      subst (λ (x : Cached BlockName (List ℕ)). x.cap ≤ 65536) (sym c.drop_time.ensures) c.self.invariant.2,
    )
