use Rattle.std.proofs.Common.{◌≡◌, ◌≤◌, ℕ, List, arith, sym, subst}
use Rattle.idx_cache.specs.Cached.{Cached}
use Rattle.idx_hall.specs.declared.block_name.BlockName.{BlockName}
use Rattle.std.specs.Prelude.{All}
use Rattle.std.proofs.lemmas.List.Elements.{All-nil}
use Rattle.idx_outside.specs.Shape.{Shape}
use Rattle.idx_hall.specs.Posts.{post_of}
use Rattle.idx_hall.proofs.HallLemmas.{new-holds}
use Rattle.idx_hall.proofs.hall.Hall.new.Goals as goal

pub invariant_of-result : goal.invariant_of-result
invariant_of-result g c =
    let shape : Shape = record { blocks = c.args.blocks; lengths = c.args.lengths.items } in (
      new-holds (λ e. post_of shape (g.E.Blocks.time e) (g.E.Blocks.has e) (g.E.Blocks.stored e)) shape c.in_ok-cache.cache c.args.capacity c.new-2.result.items c.new-2.ensures.items c.in_ok-cache.ensures (omega (arith, c.requires.some)),
      subst (λ es. All (λ e. g.E.Blocks.shape e ≡ shape) es) (sym c.new-2.ensures.items) (All-nil _),
      subst (λ (x : Cached BlockName (List ℕ)). x.cap ≤ 65536) (sym c.in_ok-cache.ensures) c.requires.few,
    )
