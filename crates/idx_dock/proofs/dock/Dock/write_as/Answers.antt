use Rattle.std.proofs.Common.{List, sym, subst}
use Rattle.idx_dock.specs.declared.awaited.Awaited.{Awaited}
use Rattle.idx_dock.specs.Dock.{dock_of}
use Rattle.idx_dock.specs.Next.{AreWritable}
use Rattle.idx_dock.proofs.ApartLemmas.{dock_writable}
use Rattle.idx_dock.proofs.dock.Dock.write_as.Goals as goal

pub write_file-requires-clause-writable : goal.write_file-requires-clause-writable
write_file-requires-clause-writable g c =
    subst (λ (awaited : List Awaited). AreWritable c.self.inside.header c.self.inside.file awaited) (sym c.deref.ensures.value)
    (dock_writable (dock_of c.self.inside.header c.self.inside.file c.self.inside.awaited.items) c.self.invariant.0)
