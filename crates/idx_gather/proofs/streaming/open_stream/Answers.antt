use Rattle.std.proofs.Common.{length, map, take, drop}
use Rattle.idx_gather.proofs.FirstLemmas.{new_have}
use Rattle.idx_gather.proofs.StreamLemmas.{open_new}
use Rattle.idx_gather.proofs.streaming.open_stream.Goals as goal

pub returns-clause-state : goal.returns-clause-state
returns-clause-state g c =
    let o = c.args.opening in
    let window = c.in_ok-docks.ensures.window in
    open_new o.header o.step o.ranks o.room o.pieces.items o.files.items (map (λ leaf. leaf.0) o.leaves.items) (drop (length o.leaves.items) o.files.items) window.0
    c.in_ok-docks.left.items c.in_ok-docks.docks.items o.valid window.2.docks_are window.2.left_are

pub returns-clause-empty : goal.returns-clause-empty
returns-clause-empty g c = λ h sample.
    let o = c.args.opening in
    let window = c.in_ok-docks.ensures.window in
    new_have h o.header sample o.pieces.items (take window.0 (drop (length o.leaves.items) o.files.items)) c.in_ok-docks.docks.items window.2.docks_are
