use Rattle.std.proofs.Common.{◌≡◌, ℕ, ◌-◌, List, length, drop, ◌∙◌, arith}
use Rattle.std.proofs.lemmas.List.{length-map}
use Rattle.idx_gather.proofs.DockingLemmas.{are_files, are_pieces, division_of, docks_are_new, some_left, window_is}
use Rattle.idx_gather.proofs.opening.Opening.dock.Goals as goal

pub make_window-requires-clause-files : goal.make_window-requires-clause-files
make_window-requires-clause-files g c =
    let xs : List ℕ = c.deref.result.now in
    are_files c.args.self.header xs c.len.result (length xs - c.len.result) c.window_count-count.result (c.deref.ensures.value ∙ c.args.self.valid.files_are)

pub make_window-requires-clause-division : goal.make_window-requires-clause-division
make_window-requires-clause-division g c =
    let self = c.args.self in
    division_of self.header self.room self.ranks self.pieces.items self.valid.some_rank self.valid.pieces_are

pub make_window-requires-clause-pieces : goal.make_window-requires-clause-pieces
make_window-requires-clause-pieces g c =
    let self = c.args.self in
    are_pieces self.header self.pieces.items (division_of self.header self.room self.ranks self.pieces.items self.valid.some_rank self.valid.pieces_are)

pub invariant_of-result : goal.invariant_of-result
invariant_of-result g c =
    let self = c.args.self in
    let done : ℕ = length self.leaves.items in
    let at : c.len.result ≡ done = omega (arith, c.len.ensures, self.leaves.ok.0) in
    let window = window_is self.header self.room c.deref.result.now self.files.items c.len.result done c.window_count-count.result c.deref.ensures.value at c.window_count-count.ensures.count in
    let some = some_left self.files.items done _ (length-map self.leaves.items _) self.valid.few c.requires.unsealed in
    record {
      valid = docks_are_new self.header self.room self.pieces.items (drop done self.files.items) _ self.pieces.items c.in_ok-docks.left.items c.in_ok-docks.docks.items some
          window (λ i. self.pieces.items) c.in_ok-docks.ensures.wanted c.in_ok-docks.ensures.docks;
    }
