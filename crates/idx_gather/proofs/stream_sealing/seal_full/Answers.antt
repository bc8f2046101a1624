use Rattle.std.proofs.Common.{List, sym, subst}
use Rattle.std.specs.Prelude.{All}
use Rattle.idx_dock.specs.Dock.{DockValue, IsDock}
use Rattle.idx_gather.specs.States.{AreFull}
use Rattle.idx_gather.proofs.StreamLemmas.{full_are}
use Rattle.idx_gather.proofs.stream_sealing.seal_full.Goals as goal

pub seal_more-requires-clause-full : goal.seal_more-requires-clause-full
seal_more-requires-clause-full g c κs within = subst (λ (ds : List DockValue). AreFull ds) (sym c.in_ok-full.ensures.full) (full_are c.args.stream.docks.items)

pub invariant_of-result : goal.invariant_of-result
invariant_of-result g c = record { named = c.in_ok-seal_more.ensures.named c.args.stream.named }

pub returns-clause-valid : goal.returns-clause-valid
returns-clause-valid g c = subst (λ (ds : List DockValue). All IsDock ds) c.deref.ensures.value c.look_over.ensures
