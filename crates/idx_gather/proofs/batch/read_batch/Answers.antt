use Rattle.std.proofs.Common.{rules, ◌≡◌, ℕ, List, ◌++◌, length, map, take, drop, ap, subst, ◌∙◌}
use Rattle.std.specs.Prelude.{vec_len}
use Rattle.idx_outside.specs.Counts.{NoneFell}
use Rattle.idx_outside.specs.Objects.{contents_at}
use Rattle.std.proofs.lemmas.List.Elements.{All-weaker}
use Rattle.idx_pieces.specs.Pieces.{IsPiece}
use Rattle.idx_pieces.specs.Ranks.{rank_count}
use Rattle.idx_pieces.specs.Samples.{region_bytes}
use Rattle.idx_pieces.specs.declared.piece.Piece.{Piece}
use Rattle.idx_ranks.specs.Loads.{IsLoad}
use Rattle.idx_aggregate.specs.Docks.{pieces_in}
use Rattle.idx_ranks.specs.Faults.{IsRefusedBy}
use Rattle.idx_gather.specs.Gather.{IsCaused}
use Rattle.idx_gather.specs.Causes.{fault_of_ranks}
use Rattle.idx_gather.specs.Windows.{run_count}
use Rattle.idx_gather.proofs.BatchLemmas.{all_volumes, are_loads, batch_moves, first_is, joined, some_rank}
use Rattle.idx_gather.proofs.LoadLemmas.{batch_fits}
use Rattle.idx_gather.proofs.CauseLemmas.{ranks_caused}
use Rattle.idx_gather.proofs.SealAllLemmas.{each_again, on_fault}
use Rattle.idx_gather.proofs.batch.read_batch.Goals as goal

pub returns-in_err-check_length-clause-cause : goal.returns-in_err-check_length-clause-cause
returns-in_err-check_length-clause-cause g c = λ count.
    on_fault c.from_residual.result c.in_err-check_length.field-0.0
    (IsCaused c.args.header.now (contents_at g.V.Source.contents c.args.raws.now.items 0) (map g.V.Source.faults c.args.raws.now.items)
    (map g.V.Source.faults c.check_length.new.raws.items) count count)
    c.from_residual.ensures.1 (c.in_err-check_length.ensures.cause count)

pub returns-in_err-check_length-clause-idle : goal.returns-in_err-check_length-clause-idle
returns-in_err-check_length-clause-idle g c =
    c.check_length.ensures.idle (rank_count c.args.header.now.box (vec_len c.args.raws.now)) (some_rank c.args.header.now (vec_len c.args.raws.now) c.axes-axes.ensures.valid c.requires.some)

pub returns-in-Err-clause-idle : goal.returns-in-Err-clause-idle
returns-in-Err-clause-idle g c =
    c.check_length.ensures.idle (rank_count c.args.header.now.box (vec_len c.args.raws.now)) (some_rank c.args.header.now (vec_len c.args.raws.now) c.axes-axes.ensures.valid c.requires.some)

pub read_loads-requires-clause-volume : goal.read_loads-requires-clause-volume
read_loads-requires-clause-volume g c κs within =
    all_volumes c.args.header.now g.V.Source.contents c.args.raws.now.items c.check_length.new.raws.items c.check_length.ensures.same c.requires.alike c.in_ok-check_length.ensures.right

pub returns-in_err-loads-clause-idle : goal.returns-in_err-loads-clause-idle
returns-in_err-loads-clause-idle g c =
    let header = c.args.header.now in
    let behind = subst (λ (n : ℕ). drop (rank_count header.box n) c.read_loads.new.raws.items ≡ drop (rank_count header.box n) c.check_length.new.raws.items)
    c.check_length.ensures.number c.read_loads.ensures.idle in
    behind ∙ c.check_length.ensures.idle (rank_count header.box (vec_len c.args.raws.now)) (some_rank header (vec_len c.args.raws.now) c.axes-axes.ensures.valid c.requires.some)

pub returns-in_err-loads-clause-raw_count : goal.returns-in_err-loads-clause-raw_count
returns-in_err-loads-clause-raw_count g c =
    let falls : NoneFell (map g.V.Source.faults c.args.raws.now.items) (map g.V.Source.faults c.read_loads.new.raws.items) =
    subst (λ (before : List ℕ). NoneFell before (map g.V.Source.faults c.read_loads.new.raws.items)) c.in_ok-check_length.ensures.quiet c.read_loads.ensures.count in
    (falls.same_number, λ i within. falls.each i)

pub returns-in_err-loads-clause-cause : goal.returns-in_err-loads-clause-cause
returns-in_err-loads-clause-cause g c = λ count.
    let before = map g.V.Source.faults c.args.raws.now.items in
    let after = map g.V.Source.faults c.read_loads.new.raws.items in
    on_fault c.from_residual-in_err-loads.result (fault_of_ranks c.in_err-loads.field-0.0)
    (IsCaused c.args.header.now (contents_at g.V.Source.contents c.args.raws.now.items 0) before after count count)
    (search rules)
    (ranks_caused c.args.header.now (contents_at g.V.Source.contents c.args.raws.now.items 0) before after count c.in_err-loads.field-0.0
    c.in_ok-check_length.ensures.right (c.read_loads.ensures.count.same_number ∙ ap length c.in_ok-check_length.ensures.quiet)
    (subst (λ (counts : List ℕ). IsRefusedBy counts after c.in_err-loads.field-0.0) c.in_ok-check_length.ensures.quiet c.in_err-loads.ensures.refused))

pub returns-clause-moves : goal.returns-clause-moves
returns-clause-moves g c =
    let size : Piece → ℕ = λ piece. region_bytes c.args.header.now piece.region in
    let count : c.batch_count-count.result ≡ run_count size c.args.room c.args.left.items = c.batch_count-count.ensures.count ∙ ap (run_count size c.args.room) c.deref.ensures.value in
    batch_moves size c.args.room c.args.left.items c.in-Ok.rest.items (c.in-Ok.ensures.tail ∙ ap (λ (n : ℕ). drop n c.args.left.items) count)

pub returns-clause-samples : goal.returns-clause-samples
returns-clause-samples g c = λ bytes is.
    c.in_ok-loads.ensures.samples bytes (first_is g.V.Source.contents c.args.raws.now.items c.check_length.new.raws.items bytes c.check_length.ensures.same c.requires.alike is)

pub returns-clause-idle : goal.returns-clause-idle
returns-clause-idle g c =
    let header = c.args.header.now in
    let behind = subst (λ (n : ℕ). drop (rank_count header.box n) c.read_loads.new.raws.items ≡ drop (rank_count header.box n) c.check_length.new.raws.items)
    c.check_length.ensures.number c.read_loads.ensures.idle in
    behind ∙ c.check_length.ensures.idle (rank_count header.box (vec_len c.args.raws.now)) (some_rank header (vec_len c.args.raws.now) c.axes-axes.ensures.valid c.requires.some)

pub returns-in_err-loads-clause-raw_once : goal.returns-in_err-loads-clause-raw_once
returns-in_err-loads-clause-raw_once g c =
    each_again (map g.V.Source.faults c.args.raws.now.items) (map g.V.Source.faults c.check_length.new.raws.items) (map g.V.Source.faults c.read_loads.new.raws.items)
    c.in_ok-check_length.ensures.quiet c.read_loads.ensures.once

pub returns-clause-raw_once : goal.returns-clause-raw_once
returns-clause-raw_once g c =
    each_again (map g.V.Source.faults c.args.raws.now.items) (map g.V.Source.faults c.check_length.new.raws.items) (map g.V.Source.faults c.read_loads.new.raws.items)
    c.in_ok-check_length.ensures.quiet c.read_loads.ensures.once

pub invariant_of-result : goal.invariant_of-result
invariant_of-result g c =
    let header = c.args.header.now in
    let left = c.args.left.items in
    let size : Piece → ℕ = λ piece. region_bytes header piece.region in
    let count : c.batch_count-count.result ≡ run_count size c.args.room left = c.batch_count-count.ensures.count ∙ ap (run_count size c.args.room) c.deref.ensures.value in
    let batch : pieces_in c.in_ok-loads.loads.items ≡ take c.batch_count-count.result left = c.in_ok-loads.ensures.pieces ∙ c.in-Ok.ensures.items in
    let whole : pieces_in c.in_ok-loads.loads.items ++ c.in-Ok.rest.items ≡ left =
    joined c.batch_count-count.result (pieces_in c.in_ok-loads.loads.items) c.in-Ok.rest.items left batch c.in-Ok.ensures.tail in
    record {
      fits = ∣ batch_fits header c.args.room c.in_ok-loads.loads.items c.in-Ok.rest.items c.axes-axes.ensures.valid
          (All-weaker (IsLoad header) (λ load. IsPiece header load.piece) (λ load is. is.piece) c.in_ok-loads.loads.items c.in_ok-loads.ensures.loads)
          (are_loads header c.args.room c.in_ok-loads.loads.items c.in-Ok.rest.items left (batch ∙ ap (λ (n : ℕ). take n left) count) whole c.in_ok-loads.ensures.loads) ∣₁;
    }
