use Rattle.std.proofs.Common.{◌≡◌, ◌≤◌, ℕ, List, map, sym, ap, ◌∙◌, subst}
use Rattle.std.specs.Prelude.{All}
use Rattle.idx_outside.specs.Shape.{Shape}
use Rattle.idx_cache.specs.Cached.{Cached}
use Rattle.idx_hall.specs.Posts.{post_of}
use Rattle.idx_hall.specs.Hall.{HallOk, hall}
use Rattle.idx_hall.specs.declared.block_name.BlockName.{BlockName}
use Rattle.idx_hall.proofs.hall.Hall.copy.Goals as goal

-- the copies are equal to what was copied
abbrev shape_with : ℕ → List ℕ → Shape
shape_with blocks lengths = record { blocks = blocks; lengths = lengths }

pub invariant_of-result : goal.invariant_of-result
invariant_of-result g c =
    let lengths : c.in_ok-lengths.lengths.items ≡ c.self.inside.lengths.items = c.in_ok-lengths.ensures.items ∙ c.deref.ensures.value in
    let board : c.in_ok-board.board.items ≡ c.self.inside.board.items = c.in_ok-board.ensures ∙ c.deref-2.ensures.value in
    let ok : (l : List ℕ) → l ≡ c.self.inside.lengths.items → (es : List g.row.E.Denot) → es ≡ c.self.inside.board.items → (k : Cached BlockName (List ℕ)) → k ≡ c.self.inside.cache →
    HallOk (hall (shape_with c.self.inside.blocks l) (map (λ e. post_of (shape_with c.self.inside.blocks l) (g.E.Blocks.time e) (g.E.Blocks.has e) (g.E.Blocks.stored e)) es) k)
    × All (λ e. g.E.Blocks.shape e ≡ shape_with c.self.inside.blocks l) es × (k.cap ≤ 65536) = λ l l_is es es_is k k_is.
    subst (λ (m : List ℕ). HallOk (hall (shape_with c.self.inside.blocks m) (map (λ e. post_of (shape_with c.self.inside.blocks m) (g.E.Blocks.time e) (g.E.Blocks.has e) (g.E.Blocks.stored e)) es) k)
    × All (λ e. g.E.Blocks.shape e ≡ shape_with c.self.inside.blocks m) es × (k.cap ≤ 65536)) (sym l_is)
    (subst (λ fs. HallOk (hall (shape_with c.self.inside.blocks c.self.inside.lengths.items) (map (λ e. post_of (shape_with c.self.inside.blocks c.self.inside.lengths.items) (g.E.Blocks.time e) (g.E.Blocks.has e) (g.E.Blocks.stored e)) fs) k)
    × All (λ e. g.E.Blocks.shape e ≡ shape_with c.self.inside.blocks c.self.inside.lengths.items) fs × (k.cap ≤ 65536)) (sym es_is)
    (subst (λ (z : Cached BlockName (List ℕ)). HallOk (hall (shape_with c.self.inside.blocks c.self.inside.lengths.items) (map (λ e. post_of (shape_with c.self.inside.blocks c.self.inside.lengths.items) (g.E.Blocks.time e) (g.E.Blocks.has e) (g.E.Blocks.stored e)) c.self.inside.board.items) z)
    × All (λ e. g.E.Blocks.shape e ≡ shape_with c.self.inside.blocks c.self.inside.lengths.items) c.self.inside.board.items × (z.cap ≤ 65536)) (sym k_is) c.self.invariant)) in
    ok c.in_ok-lengths.lengths.items lengths c.in_ok-board.board.items board c.in_ok-cache.cache c.in_ok-cache.ensures

pub returns : goal.returns
returns g c =
    let lengths : c.in_ok-lengths.lengths.items ≡ c.self.inside.lengths.items = c.in_ok-lengths.ensures.items ∙ c.deref.ensures.value in
    let board : c.in_ok-board.board.items ≡ c.self.inside.board.items = c.in_ok-board.ensures ∙ c.deref-2.ensures.value in
    ap (λ (l : List ℕ). hall (shape_with c.self.inside.blocks l) (map (λ e. post_of (shape_with c.self.inside.blocks l) (g.E.Blocks.time e) (g.E.Blocks.has e) (g.E.Blocks.stored e)) c.in_ok-board.board.items) c.in_ok-cache.cache) lengths
    ∙ ap (λ es. hall (shape_with c.self.inside.blocks c.self.inside.lengths.items) (map (λ e. post_of (shape_with c.self.inside.blocks c.self.inside.lengths.items) (g.E.Blocks.time e) (g.E.Blocks.has e) (g.E.Blocks.stored e)) es) c.in_ok-cache.cache) board
    ∙ ap (λ (k : Cached BlockName (List ℕ)). hall (shape_with c.self.inside.blocks c.self.inside.lengths.items) (map (λ e. post_of (shape_with c.self.inside.blocks c.self.inside.lengths.items) (g.E.Blocks.time e) (g.E.Blocks.has e) (g.E.Blocks.stored e)) c.self.inside.board.items) k) c.in_ok-cache.ensures
    ∙ c.self.view_is
