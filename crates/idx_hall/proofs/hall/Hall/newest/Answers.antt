use Rattle.std.proofs.Common.{◌≡◌, ◌≢◌, ◌<◌, ℕ, subst, sym, Some}
use Rattle.std.specs.Prelude.{slice_get}
use Rattle.idx_outside.specs.Shape.{Shape}
use Rattle.idx_hall.specs.Posts.{Lacks, newest, post_of}
use Rattle.idx_hall.specs.Hall.{HallValue}
use Rattle.idx_hall.proofs.NewestLemmas.{Lacks-map, newest-map, newest-none}
use Rattle.idx_hall.proofs.hall.Hall.newest.Goals as goal

pub returns-in-Some : goal.returns-in-Some
returns-in-Some g c =
    let shape : Shape = record { blocks = c.self.inside.blocks; lengths = c.self.inside.lengths.items } in
    let n : ℕ = c.in-Some.number in
    let e : g.row.E.Denot = c.in-Some.ensures.some.0 in
    sym (subst (λ (h : HallValue). newest h.board c.args.time ≡ Some n) c.self.view_is
    (newest-map (λ e. post_of shape (g.E.Blocks.time e) (g.E.Blocks.has e) (g.E.Blocks.stored e)) c.self.inside.board.items c.args.time n e
    (subst (λ es. slice_get es n ≡ Some e) c.deref.ensures.value c.in-Some.ensures.some.1.0) c.in-Some.ensures.some.1.1
    (subst (λ es. (m : ℕ) (x : g.row.E.Denot) → n < m → slice_get es m ≡ Some x → g.E.Blocks.time x ≢ c.args.time) c.deref.ensures.value c.in-Some.ensures.last)))

pub returns-in-None : goal.returns-in-None
returns-in-None g c =
    let shape : Shape = record { blocks = c.self.inside.blocks; lengths = c.self.inside.lengths.items } in
    let lacks : Lacks c.args.time c.args.self.now.board = subst (λ (h : HallValue). Lacks c.args.time h.board) c.self.view_is
    (Lacks-map (λ e. post_of shape (g.E.Blocks.time e) (g.E.Blocks.has e) (g.E.Blocks.stored e)) c.self.inside.board.items c.args.time
    (subst (λ es. (n : ℕ) (e : g.row.E.Denot) → slice_get es n ≡ Some e → g.E.Blocks.time e ≢ c.args.time) c.deref.ensures.value c.in-None.ensures.none)) in
    sym (newest-none c.args.self.now.board c.args.time lacks)
