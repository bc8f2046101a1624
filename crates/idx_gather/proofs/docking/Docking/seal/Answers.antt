use Rattle.std.proofs.Common.{◌≡◌, ◌<◌, length, map, rules, sym, subst}
use Rattle.std.proofs.Math.Logic.{∥∥₁_map}
use Rattle.std.specs.Prelude.{All}
use Rattle.std.proofs.lemmas.List.Elements.{All-append}
use Rattle.idx_outside.specs.Files.{AllNamed, IsNamed}
use Rattle.idx_dock.specs.Dock.{IsDock}
use Rattle.idx_gather.specs.States.{IsOpening}
use Rattle.idx_gather.proofs.FirstLemmas.{so_far_next}
use Rattle.idx_gather.proofs.SealLemmas.{more_leaves, next_opening}
use Rattle.idx_gather.proofs.docking.Docking.seal.Goals as goal

pub invariant_of-opening : goal.invariant_of-opening
invariant_of-opening g c =
    let o = c.args.self.opening in
    let same : c.deref.result.now ≡ c.args.self.docks.items = search rules in
    let docks : All IsDock c.args.self.docks.items = subst (All IsDock) same c.look_over.ensures in
    record {
      valid = subst (λ xs. IsOpening o.header o.step o.ranks o.room o.pieces.items o.files.items (map (λ leaf. leaf.0) xs)) (sym c.in-Ok-append.ensures.items)
          (next_opening o.layout g.L.Leaf.contents o.header o.step o.room o.pieces.items o.files.items o.leaves.items c.in-Ok.leaves.items (g.B.Bay.files c.args.bay.now)
          c.args.self.docks.items c.args.self.done c.args.self.left.items o.ranks o.valid c.args.self.valid c.in-Ok.ensures.leaves);
      so_far = ∥∥₁_map o.so_far (so_far_next o.layout g.L.Leaf.contents o.header o.step o.ranks o.room o.pieces.items o.files.items o.leaves.items c.in-Ok.leaves.items c.append.new.self.items
          c.args.self.docks.items c.args.self.done c.args.self.left.items (g.B.Bay.files c.args.bay.now) o.valid c.args.self.valid docks c.requires.full c.in-Ok-append.ensures.items
          c.in-Ok.ensures.leaves);
      named = subst (AllNamed g.L.Leaf.path) (sym c.in-Ok-append.ensures.items)
          (All-append (IsNamed g.L.Leaf.path) o.leaves.items c.in-Ok.leaves.items o.named c.in-Ok.ensures.named);
    }

pub returns-in-Ok-append-clause-more : goal.returns-in-Ok-append-clause-more
returns-in-Ok-append-clause-more g c =
    let o = c.args.self.opening in
    subst (λ xs. length o.leaves.items < length xs) (sym c.in-Ok-append.ensures.items)
    (more_leaves o.layout g.L.Leaf.contents o.header o.step o.room o.pieces.items o.files.items o.leaves.items c.in-Ok.leaves.items (g.B.Bay.files c.args.bay.now)
    c.args.self.docks.items c.args.self.done c.args.self.left.items c.args.self.valid c.in-Ok.ensures.leaves)
