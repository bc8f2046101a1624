use Rattle.std.proofs.Common.{rules, ◌≡◌, ℕ, ◌<◌, ◌≤◌, List, ◌++◌, length, map, take, drop, sym, ap, subst, ◌∙◌}
use Rattle.std.specs.Prelude.{IfErr, Result, Ok, Err, vec_len}
use Rattle.std.specs.Result.{IsErrAnd}
use Rattle.idx_outside.specs.Counts.{NoneFell}
use Rattle.idx_outside.specs.Objects.{contents_at}
use Rattle.idx_pieces.specs.Pieces.{IsPiece}
use Rattle.idx_pieces.specs.Ranks.{rank_count}
use Rattle.idx_pieces.specs.Samples.{region_bytes}
use Rattle.idx_pieces.specs.declared.piece.Piece.{Piece}
use Rattle.idx_ranks.specs.Faults.{IsRefusedBy}
use Rattle.idx_aggregate.specs.Docks.{pieces_in}
use Rattle.idx_gather.specs.Gather.{IsCaused}
use Rattle.idx_gather.specs.Windows.{run_count}
use Rattle.idx_gather.specs.Causes.{fault_of_ranks}
use Rattle.idx_gather.proofs.CauseLemmas.{ranks_caused}
use Rattle.idx_gather.proofs.BatchLemmas.{all_of_ranks, all_pieces, all_volumes, are_loads, batch_all, docks_stay, first_is, joined, left_all, run_moves, some_left, some_rank}
use Rattle.idx_gather.proofs.docking.Docking.parcel.Goals as goal

err_is : {T E : Type 0} (r : Result T E) (x : E) (P : E → Type 0) → IsErrAnd r (λ y. y ≡ x) → P x → IfErr r P
err_is (Ok v) x P gives holds = absurd gives
err_is (Err y) x P gives holds = subst P (sym gives) holds

pub returns-in_err-check_length-clause-cause : goal.returns-in_err-check_length-clause-cause
returns-in_err-check_length-clause-cause g c = λ count.
    err_is c.from_residual.result c.in_err-check_length.field-0.0
    (IsCaused c.args.self.opening.header (contents_at g.V.Source.contents c.args.raws.now.items 0) (map g.V.Source.faults c.args.raws.now.items)
    (map g.V.Source.faults c.check_length.new.raws.items) count count)
    c.from_residual.ensures.1 (c.in_err-check_length.ensures.cause count)

pub returns-in_err-check_length-clause-idle : goal.returns-in_err-check_length-clause-idle
returns-in_err-check_length-clause-idle g c =
    c.check_length.ensures.idle (rank_count c.args.self.opening.header.box (vec_len c.args.raws.now))
    (some_rank c.args.self.opening.header (vec_len c.args.raws.now) c.axes-axes.ensures.valid (subst (λ n. 1 ≤ n) (sym c.requires.ranks) c.args.self.opening.valid.some_rank))

pub returns-in-Err-clause-idle : goal.returns-in-Err-clause-idle
returns-in-Err-clause-idle g c =
    c.check_length.ensures.idle (rank_count c.args.self.opening.header.box (vec_len c.args.raws.now))
    (some_rank c.args.self.opening.header (vec_len c.args.raws.now) c.axes-axes.ensures.valid (subst (λ n. 1 ≤ n) (sym c.requires.ranks) c.args.self.opening.valid.some_rank))

pub read_loads-requires-clause-pieces : goal.read_loads-requires-clause-pieces
read_loads-requires-clause-pieces g c κs within =
    let s = c.args.self in
    let o = s.opening in
    batch_all (IsPiece o.header) c.batch_count-count.result c.split_off.new.self.items s.left.items c.in-Ok.ensures.items
    (left_all (IsPiece o.header) o.header o.room o.pieces.items (drop (length o.leaves.items) o.files.items) s.done s.left.items s.docks.items s.valid
    (all_pieces o.header o.step o.ranks o.room o.pieces.items o.files.items (map (λ leaf. leaf.0) o.leaves.items) o.valid))

pub read_loads-requires-clause-ranks : goal.read_loads-requires-clause-ranks
read_loads-requires-clause-ranks g c κs within = λ k d inside.
    let s = c.args.self in
    let o = s.opening in
    batch_all (λ piece. piece.of_ranks ≡ o.ranks) c.batch_count-count.result c.split_off.new.self.items s.left.items c.in-Ok.ensures.items
    (left_all (λ piece. piece.of_ranks ≡ o.ranks) o.header o.room o.pieces.items (drop (length o.leaves.items) o.files.items) s.done s.left.items s.docks.items s.valid
    (all_of_ranks o.header o.step o.ranks o.room o.pieces.items o.files.items (map (λ leaf. leaf.0) o.leaves.items) o.valid)) k d inside
    ∙ sym c.requires.ranks ∙ sym c.check_length.ensures.number

pub read_loads-requires-clause-volume : goal.read_loads-requires-clause-volume
read_loads-requires-clause-volume g c κs within =
    all_volumes c.args.self.opening.header g.V.Source.contents c.args.raws.now.items c.check_length.new.raws.items c.check_length.ensures.same c.requires.alike c.in_ok-check_length.ensures.right

pub returns-in_err-loads-clause-idle : goal.returns-in_err-loads-clause-idle
returns-in_err-loads-clause-idle g c =
    let header = c.args.self.opening.header in
    let behind = subst (λ (n : ℕ). drop (rank_count header.box n) c.read_loads.new.raws.items ≡ drop (rank_count header.box n) c.check_length.new.raws.items)
    c.check_length.ensures.number c.read_loads.ensures.idle in
    behind ∙ c.check_length.ensures.idle (rank_count c.args.self.opening.header.box (vec_len c.args.raws.now))
    (some_rank c.args.self.opening.header (vec_len c.args.raws.now) c.axes-axes.ensures.valid (subst (λ n. 1 ≤ n) (sym c.requires.ranks) c.args.self.opening.valid.some_rank))

pub returns-in_err-loads-clause-raw_count : goal.returns-in_err-loads-clause-raw_count
returns-in_err-loads-clause-raw_count g c =
    let falls : NoneFell (map g.V.Source.faults c.args.raws.now.items) (map g.V.Source.faults c.read_loads.new.raws.items) =
    subst (λ (before : List ℕ). NoneFell before (map g.V.Source.faults c.read_loads.new.raws.items)) c.in_ok-check_length.ensures.quiet c.read_loads.ensures.count in
    (falls.same_number, λ i within. falls.each i)

pub returns-in_err-loads-clause-cause : goal.returns-in_err-loads-clause-cause
returns-in_err-loads-clause-cause g c = λ count.
    let before = map g.V.Source.faults c.args.raws.now.items in
    let after = map g.V.Source.faults c.read_loads.new.raws.items in
    err_is c.from_residual-in_err-loads.result (fault_of_ranks c.in_err-loads.field-0.0)
    (IsCaused c.args.self.opening.header (contents_at g.V.Source.contents c.args.raws.now.items 0) before after count count)
    (search rules)
    (ranks_caused c.args.self.opening.header (contents_at g.V.Source.contents c.args.raws.now.items 0) before after count c.in_err-loads.field-0.0
    c.in_ok-check_length.ensures.right (c.read_loads.ensures.count.same_number ∙ ap length c.in_ok-check_length.ensures.quiet)
    (subst (λ (counts : List ℕ). IsRefusedBy counts after c.in_err-loads.field-0.0) c.in_ok-check_length.ensures.quiet c.in_err-loads.ensures.refused))

pub invariant_of-result : goal.invariant_of-result
invariant_of-result g c =
    let s = c.args.self in
    let o = s.opening in
    let size : Piece → ℕ = λ piece. region_bytes o.header piece.region in
    let rest_files : List ℕ = drop (length o.leaves.items) o.files.items in
    let count : c.batch_count-count.result ≡ run_count size o.room s.left.items = c.batch_count-count.ensures.count ∙ ap (run_count size o.room) c.deref.ensures.value in
    let batch : pieces_in c.in_ok-loads.loads.items ≡ take c.batch_count-count.result s.left.items = c.in_ok-loads.ensures.pieces ∙ c.in-Ok.ensures.items in
    let whole : pieces_in c.in_ok-loads.loads.items ++ c.in-Ok.rest.items ≡ s.left.items =
    joined c.batch_count-count.result (pieces_in c.in_ok-loads.loads.items) c.in-Ok.rest.items s.left.items batch c.in-Ok.ensures.tail in
    record {
      docks_valid = docks_stay o.header o.room o.pieces.items rest_files s.done s.left.items (pieces_in c.in_ok-loads.loads.items ++ c.in-Ok.rest.items) s.docks.items whole s.valid;
      loads_valid = are_loads o.header o.room c.in_ok-loads.loads.items c.in-Ok.rest.items s.left.items
          (batch ∙ ap (λ (n : ℕ). take n s.left.items) count) whole c.in_ok-loads.ensures.loads;
    }

pub returns-clause-moves : goal.returns-clause-moves
returns-clause-moves g c =
    let s = c.args.self in
    let o = s.opening in
    let size : Piece → ℕ = λ piece. region_bytes o.header piece.region in
    let rest_files : List ℕ = drop (length o.leaves.items) o.files.items in
    let count : c.batch_count-count.result ≡ run_count size o.room s.left.items = c.batch_count-count.ensures.count ∙ ap (run_count size o.room) c.deref.ensures.value in
    subst (λ (xs : List Piece). length xs < length s.left.items) (sym (c.in-Ok.ensures.tail ∙ ap (λ (n : ℕ). drop n s.left.items) count))
    (run_moves size o.room s.left.items (some_left o.header o.room o.pieces.items rest_files s.done s.left.items s.docks.items s.valid c.requires.unfull))

pub returns-clause-samples : goal.returns-clause-samples
returns-clause-samples g c = λ bytes is.
    c.in_ok-loads.ensures.samples bytes (first_is g.V.Source.contents c.args.raws.now.items c.check_length.new.raws.items bytes c.check_length.ensures.same c.requires.alike is)

pub returns-clause-idle : goal.returns-clause-idle
returns-clause-idle g c =
    let header = c.args.self.opening.header in
    let behind = subst (λ (n : ℕ). drop (rank_count header.box n) c.read_loads.new.raws.items ≡ drop (rank_count header.box n) c.check_length.new.raws.items)
    c.check_length.ensures.number c.read_loads.ensures.idle in
    behind ∙ c.check_length.ensures.idle (rank_count c.args.self.opening.header.box (vec_len c.args.raws.now))
    (some_rank c.args.self.opening.header (vec_len c.args.raws.now) c.axes-axes.ensures.valid (subst (λ n. 1 ≤ n) (sym c.requires.ranks) c.args.self.opening.valid.some_rank))
