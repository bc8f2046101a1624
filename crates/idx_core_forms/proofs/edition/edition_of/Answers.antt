use Rattle.idx_edition.specs.Tables.{has_in_tables, shape_in, stored_in}
use Rattle.idx_core_forms.proofs.StepLemmas.{step_posted, step_written, told}
use Rattle.idx_core_forms.proofs.edition.edition_of.Goals as goal

pub of_leaves-requires : goal.of_leaves-requires
of_leaves-requires c = record { written = step_written c.args.header.now c.args.time c.args.leaves.items c.requires.written }

pub returns-clause-post : goal.returns-clause-post
returns-clause-post c =
    let edition = c.in_ok-edition.edition in
    let made = c.in_ok-edition.ensures in
    step_posted c.args.header.now c.args.time edition.time c.args.leaves.items (shape_in edition.tables) (has_in_tables edition.tables)
    (stored_in edition.tables (told edition.leaves.items)) (told edition.leaves.items) made.valid c.requires.timed made.time made.shape c.requires.written made.holds
