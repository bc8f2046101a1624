use Rattle.std.proofs.Common.{◌≡◌, refl, subst, sym}
use Rattle.idx_outside.specs.Files.{shown}
use Rattle.idx_hall.specs.Posts.{Lacks}
use Rattle.idx_edition.specs.Tables.{has_in_tables, shape_in, stored_in}
use Rattle.idx_board.proofs.StepLemmas.{facts, published}
use Rattle.idx_board.proofs.step.publish_step.Goals as goal

pub returns-clause-added : goal.returns-clause-added
returns-clause-added g c =
    let e = c.in-Some.edition in
    let h = c.args.header.now in
    let loaded = c.in_ok-edition.ensures in
    let time : e.time ≡ c.args.time = rw c.in-Some.is at loaded.time in
    published (λ (x : _). x.time) (λ x. has_in_tables x.tables) (λ x. stored_in x.tables (shown g.B.Leaf.Leaf.contents x.leaves.items)) h c.args.time (g.B.Bay.files c.args.bay.now) c.args.hall.now.board c.add.new.hall.board
    c.add.result c.args.hall.now.shape _ e refl time c.requires.shape
    (facts h e.tables.header c.args.time e.time (g.B.Bay.files c.args.bay.now) (shape_in e.tables) (has_in_tables e.tables) (stored_in e.tables (shown g.B.Leaf.Leaf.contents e.leaves.items)) (shown g.B.Leaf.Leaf.contents e.leaves.items)
    time (rw c.in-Some.is at loaded.shape) (rw c.in-Some.is at loaded.newest) (rw c.in-Some.is at loaded.holds)) c.add.ensures.added

pub add-requires-clause-lacks : goal.add-requires-clause-lacks
add-requires-clause-lacks g c =
    let loaded = c.in_ok-edition.ensures in
    let time : c.in-Some.edition.time ≡ c.args.time = rw c.in-Some.is at loaded.time in
    subst (λ t. Lacks t c.args.hall.now.board) (sym time) c.requires.lacks
