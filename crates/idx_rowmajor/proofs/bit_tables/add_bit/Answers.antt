use Rattle.std.proofs.Common.{refl}
use Rattle.idx_rowmajor.proofs.TableLemmas.{IsAdding-none, IsAdding-more}
use Rattle.idx_rowmajor.proofs.bit_tables.add_bit.Goals as goal

pub loop-entry-init : goal.loop-entry-init
loop-entry-init c = IsAdding-none c.args.half c.args.bit c.args.entries.now c.told-entries

pub loop-entry-preserved : goal.loop-entry-preserved
loop-entry-preserved c = IsAdding-more c.args.half c.args.bit c.loop-entry.entry _ c.args.entries.now c.loop-entry.entries c.requires c.loop-entry-test.true refl c.loop-entry.invariant
