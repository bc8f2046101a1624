use Rattle.std.proofs.Common.{◌≡◌, ℕ, Bool, List, Option, filter, is_some, ap, ◌∙◌, sym, subst}
use Rattle.std.specs.List.{AllByRecursion}
use Rattle.idx_cache.specs.Slotted.{Slotted, placed, emptied, content_at, IsTied, IsWithin}
use Rattle.idx_cache.proofs.Placed.{filled_placed}
use Rattle.idx_cache.proofs.Evictions.{emptied_tied}
use Rattle.idx_cache.proofs.slots.Slots.keep.Goals as goal

pub invariant_of-self : goal.invariant_of-self
invariant_of-self g c =
    let left = c.empty_behind.new.contents.items in
    let test : ℕ → Bool = λ s. is_some (content_at left s) in
    let entries : c.keep_filled.new.self.entries ≡ filter (λ e. test e.1) c.self.inside.index.entries =
    c.keep_filled.ensures.entries ∙ ap (λ (l : List (Option (g.row.K.Denot × g.row.V.Denot))). filter (λ (e : g.row.K.Denot × ℕ). is_some (content_at l e.1)) c.self.inside.index.entries) c.deref.ensures.value in
    let filled : AllByRecursion (λ e. test e.0 ≡ is_some e.1) (emptied c.args.kept (placed c.self.inside.contents.items c.self.inside.order.entries)) = subst (λ (l : Slotted g.row.K.Denot g.row.V.Denot). AllByRecursion (λ e. test e.0 ≡ is_some e.1) l) c.empty_behind.ensures.rest (filled_placed left c.self.inside.order.entries) in (
      subst (λ (l : Slotted g.row.K.Denot g.row.V.Denot). IsTied g.K.PartialEq.eq l c.keep_filled.new.self) (sym c.empty_behind.ensures.rest)
          (emptied_tied g.met.K.Eq.laws test c.args.kept (placed c.self.inside.contents.items c.self.inside.order.entries) c.self.inside.index c.keep_filled.new.self c.self.invariant.0 c.keep_filled.ensures.keys_apart filled entries c.keep_filled.ensures.room),
      subst (λ n. IsWithin n c.self.inside.order.entries) (sym c.empty_behind.ensures.len) c.self.invariant.1,
    )

pub returns : goal.returns
returns g c = c.empty_behind.ensures.rest ∙ ap (λ (l : Slotted g.row.K.Denot g.row.V.Denot). emptied c.args.kept l) c.self.view_is
