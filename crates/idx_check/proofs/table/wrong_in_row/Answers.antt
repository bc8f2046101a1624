use Rattle.std.proofs.Common.{◌≡◌, ℕ, ◌+◌, ◌-◌, ◌<◌, ◌≤◌, List, take, drop, subst, arith}
use Rattle.std.specs.Prelude.{slice_index}
use Rattle.idx_table.specs.Row.{row_bytes}
use Rattle.idx_check.specs.Piece.{IsOnTheWay}
use Rattle.idx_check.specs.Pieces.{read_to}
use Rattle.idx_check.specs.Stray.{DifferAt}
use Rattle.idx_check.proofs.PiecesLemmas.{reads_wider}
use Rattle.idx_check.proofs.PieceLemmas.{unit_found, unit_right, way_behind}
use Rattle.idx_check.proofs.table.wrong_in_row.Goals as goal

pub returns-in-Some-clause-found : goal.returns-in-Some-clause-found
returns-in-Some-clause-found g c =
    let piece : List ℕ = c.look_ahead.new.self.bytes.items in
    let used : ℕ = c.look_ahead.new.self.used in
    let text : List ℕ = row_bytes c.args.row.now in
    let m : ℕ = used + 40 - used in
    let found : DifferAt (take m (drop used piece)) text 0 40 c.in-Some.place =
    subst (λ (xs : List ℕ). DifferAt (take m (drop used xs)) text 0 40 c.in-Some.place) c.deref.ensures.value c.in-Some.ensures in
    unit_found (g.L.Leaf.contents c.args.leaf.now) piece text used c.args.at 40 m c.in-Some.place (omega arith)
    (omega (arith, c.in_ok-look_ahead.ensures.ahead, c.requires.unit)) c.in_ok-look_ahead.ensures.way.same found

pub returns-in-None-clause-found : goal.returns-in-None-clause-found
returns-in-None-clause-found g c =
    let piece : List ℕ = c.look_ahead.new.self.bytes.items in
    let used : ℕ = c.look_ahead.new.self.used in
    let text : List ℕ = row_bytes c.args.row.now in
    let m : ℕ = used + 40 - used in
    let equal : (i : ℕ) → 0 ≤ i → i < 40 → slice_index (take m (drop used piece)) i ≡ slice_index text i =
    subst (λ (xs : List ℕ). (i : ℕ) → 0 ≤ i → i < 40 → slice_index (take m (drop used xs)) i ≡ slice_index text i) c.deref.ensures.value c.in-None.ensures in
    unit_right (g.L.Leaf.contents c.args.leaf.now) piece text used c.args.at 40 m (omega arith)
    (omega (arith, c.in_ok-look_ahead.ensures.ahead, c.requires.unit)) c.in_ok-look_ahead.ensures.way.same equal

pub returns-in-None-clause-way : goal.returns-in-None-clause-way
returns-in-None-clause-way g c =
    let contents = g.L.Leaf.contents c.args.leaf.now in
    let piece : List ℕ = c.look_ahead.new.self.bytes.items in
    let used : ℕ = c.look_ahead.new.self.used in
    let way : IsOnTheWay contents piece used 40 c.args.at (c.args.stretch.end - c.args.at) =
    subst (λ (n : ℕ). IsOnTheWay contents piece used n c.args.at (c.args.stretch.end - c.args.at)) c.requires.unit c.in_ok-look_ahead.ensures.way in
    way_behind contents piece used 40 c.args.at c.args.stretch.end way (omega (arith, c.in_ok-look_ahead.ensures.ahead, c.requires.unit)) c.requires.more

pub returns-in-Some-clause-ended : goal.returns-in-Some-clause-ended
returns-in-Some-clause-ended g c =
    let reads = g.R.Reader.reads in
    let asked = g.R.Reader.asked in
    let piece : List ℕ = c.look_ahead.new.self.bytes.items in
    let used : ℕ = c.look_ahead.new.self.used in
    let before : ℕ = read_to c.args.at c.args.piece.now.bytes.items c.args.piece.now.used in
    reads_wider (reads c.args.reader.now) (reads c.look_ahead.new.reader) (asked c.args.reader.now) (asked c.look_ahead.new.reader) before (read_to c.args.at piece used) before c.args.stretch.end
    (omega (arith, c.in_ok-look_ahead.ensures.way.few, c.in_ok-look_ahead.ensures.ahead, c.requires.more, c.requires.unit)) c.in_ok-look_ahead.ensures.pieces

pub returns-in-None-clause-pieces : goal.returns-in-None-clause-pieces
returns-in-None-clause-pieces g c =
    let reads = g.R.Reader.reads in
    let asked = g.R.Reader.asked in
    let piece : List ℕ = c.look_ahead.new.self.bytes.items in
    let used : ℕ = c.look_ahead.new.self.used in
    let before : ℕ = read_to c.args.at c.args.piece.now.bytes.items c.args.piece.now.used in
    reads_wider (reads c.args.reader.now) (reads c.look_ahead.new.reader) (asked c.args.reader.now) (asked c.look_ahead.new.reader) before (read_to c.args.at piece used) before (read_to (c.args.at + 40) piece (used + 40))
    (omega (arith, c.in_ok-look_ahead.ensures.way.few, c.in_ok-look_ahead.ensures.ahead, c.requires.more, c.requires.unit)) c.in_ok-look_ahead.ensures.pieces
