use Rattle.std.proofs.Common.{◌≡◌, sym, subst}
use Rattle.std.specs.Option.{ForSome}
use Rattle.std.proofs.Math.Logic.{∥∥₁_elim}
use Rattle.idx_outside.specs.Files.{shown}
use Rattle.idx_layout.specs.Placing.{is_present}
use Rattle.idx_layout.specs.OfHeader.{placing_of}
use Rattle.idx_layout.specs.Shape.{shape_of}
use Rattle.idx_edition.specs.Tables.{AreTablesOf, TablesValue, has_in_tables, shape_in, stored_in, written_tables}
use Rattle.idx_edition.specs.Loaded.{HoldsStored, IsWrittenBlock, OfBlocks}
use Rattle.idx_edition.proofs.LeavesLemmas.{leaves_fit, leaves_have, leaves_stored, tables_fact}
use Rattle.idx_edition.proofs.StoredLemmas.{written_held}
use Rattle.idx_edition.proofs.edition.Edition.of_leaves_as.Goals as goal

pub invariant_of-result : goal.invariant_of-result
invariant_of-result g c =
    let h = c.args.header.now in
    let leaves = shown g.L.Leaf.contents c.args.leaves.items in
    record {
      fits = subst (λ (t : TablesValue). AreTablesOf t.tables leaves) (sym c.in_ok-tables.ensures.tables)
          (∥∥₁_elim c.requires.written (tables_fact (written_tables c.args.layout h).tables leaves)
          (λ written. leaves_fit c.args.layout h c.args.time c.in_ok-tables.ensures.valid written.0 leaves written.1));
    }

pub returns-clause-has : goal.returns-clause-has
returns-clause-has g c =
    let h = c.args.header.now in
    subst (λ (t : TablesValue). OfBlocks (shape_of h) (λ field block. has_in_tables t field block ≡ is_present (placing_of h) block)) (sym c.in_ok-tables.ensures.tables)
    (leaves_have c.args.layout h c.in_ok-tables.ensures.valid)

pub returns-clause-stored : goal.returns-clause-stored
returns-clause-stored g c = λ volume written.
    let h = c.args.header.now in
    let leaves = shown g.L.Leaf.contents c.args.leaves.items in
    subst (λ (t : TablesValue). ForSome (stored_in t leaves) (λ stored. OfBlocks (shape_of h) (λ field block. IsWrittenBlock h volume field block (stored field block)))) (sym c.in_ok-tables.ensures.tables)
    (leaves_stored c.args.layout h c.args.time c.in_ok-tables.ensures.valid volume leaves written)

pub returns-clause-holds : goal.returns-clause-holds
returns-clause-holds g c = λ volume files fills has same.
    let h = c.args.header.now in
    let leaves = shown g.L.Leaf.contents c.args.leaves.items in
    subst (λ (t : TablesValue). HoldsStored h c.args.time files (shape_in t) (has_in_tables t) (stored_in t leaves) leaves) (sym c.in_ok-tables.ensures.tables)
    (written_held c.args.layout h c.args.time volume files leaves c.in_ok-tables.ensures.valid fills has same)
