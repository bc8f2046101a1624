use Rattle.std.proofs.Common.{◌≡◌, length, map, refl, sym, ◌∙◌}
use Rattle.idx_outside.specs.Objects.{contents_at}
use Rattle.idx_pieces.specs.Pieces.{IsPiece}
use Rattle.idx_pieces.specs.Samples.{raw_sample}
use Rattle.idx_aggregate.specs.Docks.{Gains, pieces_in}
use Rattle.idx_gather.specs.Gather.{IsCaused}
use Rattle.idx_gather.proofs.BatchLemmas.{all_of_ranks, all_pieces}
use Rattle.idx_gather.proofs.FitLemmas.{raw_are}
use Rattle.idx_gather.proofs.SealAllLemmas.{on_fault}
use Rattle.idx_gather.proofs.ShipLemmas.{keep_samples}
use Rattle.idx_gather.proofs.StreamLemmas.{all_among, open_shipped, ready_for}
use Rattle.idx_gather.proofs.ToldLemmas.{zip_count}
use Rattle.idx_gather.proofs.streaming.deliver.Goals as goal

pub read_batch-requires-clause-pieces : goal.read_batch-requires-clause-pieces
read_batch-requires-clause-pieces g c κs within =
    let o = c.args.stream.opening in
    all_among (IsPiece o.header) o.pieces.items c.args.stream.left.items c.requires.state.among
    (all_pieces o.header o.step o.ranks o.room o.pieces.items o.files.items (map (λ leaf. leaf.0) o.leaves.items) o.valid)

pub read_batch-requires-clause-ranks : goal.read_batch-requires-clause-ranks
read_batch-requires-clause-ranks g c κs within = λ k d inside.
    let o = c.args.stream.opening in
    all_among (λ piece. piece.of_ranks ≡ o.ranks) o.pieces.items c.args.stream.left.items c.requires.state.among
    (all_of_ranks o.header o.step o.ranks o.room o.pieces.items o.files.items (map (λ leaf. leaf.0) o.leaves.items) o.valid) k d inside
    ∙ sym c.requires.ranks

pub returns-in_err-batch-clause-cause : goal.returns-in_err-batch-clause-cause
returns-in_err-batch-clause-cause g c = λ count.
    on_fault c.from_residual.result c.in_err-batch.field-0.0
    (IsCaused c.args.stream.opening.header (contents_at g.V.Source.contents c.args.raws.now.items 0) (map g.V.Source.faults c.args.raws.now.items) (map g.V.Source.faults c.read_batch.new.raws.items) count count)
    c.from_residual.ensures.1 (c.in_err-batch.ensures.cause count)

pub ship-requires-clause-ready : goal.ship-requires-clause-ready
ship-requires-clause-ready g c κs within =
    let s = c.args.stream in
    let o = s.opening in
    ready_for o.header o.step o.ranks o.room o.pieces.items o.files.items (map (λ leaf. leaf.0) o.leaves.items) o.valid (length o.leaves.items) (map (λ entry. entry.0) s.sealed.items) s.left.items s.docks.items
    c.requires.state (pieces_in c.in_ok-batch.batch.loads.items) c.in_ok-batch.rest.items c.in_ok-batch.ensures.left

pub returns-clause-state : goal.returns-clause-state
returns-clause-state g c =
    let s = c.args.stream in
    let o = s.opening in
    open_shipped o.header o.step o.ranks o.room o.pieces.items o.files.items (map (λ leaf. leaf.0) o.leaves.items) o.valid (length o.leaves.items) (map (λ entry. entry.0) s.sealed.items) s.left.items s.docks.items
    c.requires.state (pieces_in c.in_ok-batch.batch.loads.items) c.in_ok-batch.rest.items c.in_ok-batch.ensures.left c.in_ok-batch.batch.loads.items c.in_ok-docks.docks.items refl c.in_ok-docks.ensures

pub returns-clause-many : goal.returns-clause-many
returns-clause-many g c = zip_count (Gains c.args.stream.opening.header c.in_ok-batch.batch.loads.items) c.args.stream.docks.items c.in_ok-docks.docks.items c.in_ok-docks.ensures

pub returns-clause-samples : goal.returns-clause-samples
returns-clause-samples g c = λ bytes is whole have.
    let o = c.args.stream.opening in
    keep_samples o.header c.in_ok-batch.batch.loads.items c.args.stream.docks.items c.in_ok-docks.docks.items c.axes-axes.ensures.valid c.in_ok-batch.ensures.loads c.in_ok-docks.ensures
    (raw_sample o.header bytes) (raw_are o.header bytes whole) (c.in_ok-batch.ensures.samples bytes is) have
