use Rattle.std.proofs.Common.{ℕ, sym, subst}
use Rattle.idx_rowmajor.specs.Tables.{AreApart, AreEntries}
use Rattle.idx_rowmajor.proofs.TableLemmas.{AreApart-low, AreApart-high, Carries-tables}
use Rattle.idx_rowmajor.proofs.bit_tables.BitTables.of_places.Goals as goal

pub entries-requires-clause-places : goal.entries-requires-clause-places
entries-requires-clause-places c = subst (AreApart c.args.places.now 0) (sym c.min.ensures) (AreApart-low c.args.bits c.args.places.now c.requires.bits c.requires.places)

pub entries-requires-2-clause-places : goal.entries-requires-2-clause-places
entries-requires-2-clause-places c = subst (AreApart c.args.places.now 10) (sym c.saturating_sub.ensures) (AreApart-high c.args.bits c.args.places.now c.requires.bits c.requires.places)

pub returns : goal.returns
returns c from small =
    Carries-tables c.args.bits from c.args.places.now c.entries.result c.entries-2.result c.requires.places small
    (subst (λ (n : ℕ). AreEntries c.args.places.now 0 n c.entries.result) c.min.ensures c.entries.ensures.value)
    (subst (λ (n : ℕ). AreEntries c.args.places.now 10 n c.entries-2.result) c.saturating_sub.ensures c.entries-2.ensures.value)
