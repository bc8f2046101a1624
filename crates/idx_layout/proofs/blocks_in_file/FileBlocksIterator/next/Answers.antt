use Rattle.std.proofs.Common.{◌≡◌, ◌+◌, ◌-◌, ◌∷◌, length, sym, ap, ◌∙◌, arith, rules}
use Rattle.std.specs.Prelude.{filter}
use Rattle.std.specs.List.{range_with_len}
use Rattle.idx_layout.specs.Placing.{has_point_in}
use Rattle.idx_layout.proofs.FilesLemmas.{blocks_end, blocks_past, blocks_step}
use Rattle.idx_layout.proofs.blocks_in_file.FileBlocksIterator.next.Goals as goal

pub returns-in_default-clause-steps : goal.returns-in_default-clause-steps
returns-in_default-clause-steps c =
    let inside = c.self.inside in
    let none = blocks_end inside.mask inside.region inside.bits inside.next inside.end c.self.invariant.1 (sym c.in_default.ensures.value) in
    (sym c.self.view_is ∙ none, sym c.self.view_is ∙ none)

pub returns-then-block-self-clause-steps : goal.returns-then-block-self-clause-steps
returns-then-block-self-clause-steps c =
    let inside = c.self.inside in
    let none = blocks_past inside.mask inside.region inside.bits inside.next inside.end c.in-Some.block (sym c.in-Some.ensures.value) (omega (arith, c.if-block-self.true)) in
    (sym c.self.view_is ∙ none, sym c.self.view_is ∙ none)

pub returns-clause-steps : goal.returns-clause-steps
returns-clause-steps c =
    let inside = c.self.inside in
    sym c.self.view_is ∙ blocks_step inside.mask inside.region inside.bits inside.next inside.end c.in-Some.block (sym c.in-Some.ensures.value) (omega (arith, c.if-block-self.false))

pub returns-clause-goes : goal.returns-clause-goes
returns-clause-goes c =
    let inside = c.self.inside in
    let block = c.in-Some.block in
    let steps : c.args.self.now ≡ block ∷ filter (has_point_in inside.mask inside.region inside.bits) (range_with_len (block + 1) (inside.end - (block + 1))) =
    sym c.self.view_is ∙ blocks_step inside.mask inside.region inside.bits inside.next inside.end block (sym c.in-Some.ensures.value) (omega (arith, c.if-block-self.false)) in
    let shorter = ap length steps in search rules
