use Rattle.std.proofs.Common.{◌≡◌, ℕ, ◌-◌, ◌^◌, List, length, map, take, drop, subst, ◌∙◌, arith}
use Rattle.std.proofs.lemmas.List.{length-map}
use Rattle.idx_pieces.specs.declared.piece.Piece.{Piece}
use Rattle.idx_dock.specs.Dock.{DockValue}
use Rattle.idx_gather.specs.Streams.{OpenAtMost}
use Rattle.idx_gather.proofs.BatchLemmas.{all_pieces, division_of}
use Rattle.idx_gather.proofs.DockingLemmas.{are_files, some_left}
use Rattle.idx_gather.proofs.StreamLemmas.{both_ok, fit_window, rest_among, rest_is, whole_window}
use Rattle.idx_gather.proofs.streaming.next_docks.Goals as goal

pub make_window-requires-clause-files : goal.make_window-requires-clause-files
make_window-requires-clause-files g c =
    let o = c.args.opening.now in
    let xs : List ℕ = c.deref.result.now in
    rest_among o.header xs c.len.result (length xs - c.len.result) (c.deref.ensures.value ∙ o.valid.files_are)

pub make_window-requires-clause-division : goal.make_window-requires-clause-division
make_window-requires-clause-division g c =
    let o = c.args.opening.now in
    division_of o.header o.step o.ranks o.room o.pieces.items o.files.items (map (λ leaf. leaf.0) o.leaves.items) o.valid

pub make_window-requires-clause-pieces : goal.make_window-requires-clause-pieces
make_window-requires-clause-pieces g c =
    let o = c.args.opening.now in
    all_pieces o.header o.step o.ranks o.room o.pieces.items o.files.items (map (λ leaf. leaf.0) o.leaves.items) o.valid

pub returns-then-branch : goal.returns-then-branch
returns-then-branch g c =
    let o = c.args.opening.now in
    let done : ℕ = length o.leaves.items in
    let xs : List ℕ = c.deref.result.now in
    let at : c.len.result ≡ done = omega (arith, c.len.ensures, o.leaves.ok.0) in
    let some = some_left o.files.items done (length (map (λ leaf. leaf.0) o.leaves.items)) (length-map o.leaves.items (λ leaf. leaf.0)) o.valid.few c.requires.unsealed in
    let few : OpenAtMost o.header (2 ^ 30) c.in_ok-docks.left.items c.in_ok-docks.docks.items =
    subst (λ (ds : List DockValue). OpenAtMost o.header (2 ^ 30) c.in_ok-docks.left.items ds) c.deref-then-files-le-MOST_DOCKS-2.ensures.value
    (subst (λ (ps : List Piece). OpenAtMost o.header (2 ^ 30) ps c.deref-then-files-le-MOST_DOCKS-2.result.now) c.deref-then-files-le-MOST_DOCKS.ensures.value
    (c.in_ok-opens_few.ensures c.if-branch.true)) in
    record {
      window = whole_window o.header o.room o.pieces.items (take (length xs - c.len.result) (drop c.len.result xs)) (drop done o.files.items)
          (rest_is xs o.files.items c.len.result done c.deref.ensures.value at) some c.in_ok-docks.docks.items c.in_ok-docks.left.items c.in_ok-docks.ensures.docks c.in_ok-docks.ensures.wanted few;
    }

pub make_window-requires-2-clause-files : goal.make_window-requires-2-clause-files
make_window-requires-2-clause-files g c =
    let o = c.args.opening.now in
    let xs : List ℕ = c.deref.result.now in
    are_files o.header xs c.len.result (length xs - c.len.result) c.window_count-count.result (c.deref.ensures.value ∙ o.valid.files_are)

pub make_window-requires-2-clause-division : goal.make_window-requires-2-clause-division
make_window-requires-2-clause-division g c =
    let o = c.args.opening.now in
    division_of o.header o.step o.ranks o.room o.pieces.items o.files.items (map (λ leaf. leaf.0) o.leaves.items) o.valid

pub make_window-requires-2-clause-pieces : goal.make_window-requires-2-clause-pieces
make_window-requires-2-clause-pieces g c =
    let o = c.args.opening.now in
    all_pieces o.header o.step o.ranks o.room o.pieces.items o.files.items (map (λ leaf. leaf.0) o.leaves.items) o.valid

pub returns : goal.returns
returns g c =
    let o = c.args.opening.now in
    let done : ℕ = length o.leaves.items in
    let xs : List ℕ = c.deref.result.now in
    let at : c.len.result ≡ done = omega (arith, c.len.ensures, o.leaves.ok.0) in
    let some = some_left o.files.items done (length (map (λ leaf. leaf.0) o.leaves.items)) (length-map o.leaves.items (λ leaf. leaf.0)) o.valid.few c.requires.unsealed in
    record {
      window = both_ok c.make_window-2.result _ _ _ c.make_window-2.ensures.docks c.make_window-2.ensures.wanted
          (λ made docks wanted. fit_window o.header o.room o.pieces.items (take (length xs - c.len.result) (drop c.len.result xs)) (drop done o.files.items)
          (rest_is xs o.files.items c.len.result done c.deref.ensures.value at) some c.window_count-count.result c.window_count-count.ensures.count made.0.items made.1.items docks wanted);
    }
