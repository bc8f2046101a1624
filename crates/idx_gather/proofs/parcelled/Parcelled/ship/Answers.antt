use Rattle.std.proofs.Common.{◌≡◌, ℕ, ◌+◌, ◌<◌, length, map, drop, arith, sym, subst, ◌∙◌}
use Rattle.idx_gather.specs.States.{AreDocks}
use Rattle.idx_gather.proofs.ShipLemmas.{are_ready, are_shipped, counts_fit, keep_samples, loads_are}
use Rattle.idx_gather.proofs.parcelled.Parcelled.ship.Goals as goal

pub ship_loads-requires-clause-loads : goal.ship_loads-requires-clause-loads
ship_loads-requires-clause-loads g c κs within =
    let s = c.args.self in
    let o = s.opening in
    loads_are o.header o.step o.ranks o.room o.pieces.items o.files.items (map (λ leaf. leaf.0) o.leaves.items) o.valid (length o.leaves.items) s.done s.loads.items s.left.items s.docks.items s.docks_valid s.loads_valid

pub ship_loads-requires-clause-ready : goal.ship_loads-requires-clause-ready
ship_loads-requires-clause-ready g c κs within =
    let s = c.args.self in
    let o = s.opening in
    are_ready o.header o.step o.ranks o.room o.pieces.items o.files.items (map (λ leaf. leaf.0) o.leaves.items) o.valid (length o.leaves.items) s.done s.loads.items s.left.items s.docks.items s.docks_valid

pub overflow_add-result : goal.overflow_add-result
overflow_add-result g c =
    let s = c.args.self in
    let o = s.opening in
    let count : c.len-more.result ≡ length s.loads.items = c.len-more.ensures ∙ s.loads.ok.0 in
    let done : s.done < 18446744073709551616 = omega arith in
    let few : length o.pieces.items < 18446744073709551616 = omega (arith, o.pieces.ok.0, o.pieces.ok.1, o.pieces.small) in
    record {
      fits = subst (λ (n : ℕ). s.done + n < 18446744073709551616) (sym count)
          (counts_fit o.header o.step o.ranks o.room o.pieces.items o.files.items (map (λ leaf. leaf.0) o.leaves.items) o.valid (length o.leaves.items) s.done s.loads.items s.left.items s.docks.items
          s.docks_valid 18446744073709551616 done few);
    }

pub invariant_of-result : goal.invariant_of-result
invariant_of-result g c =
    let s = c.args.self in
    let o = s.opening in
    record {
      valid = subst (λ (n : ℕ). AreDocks o.header o.room o.pieces.items (drop (length o.leaves.items) o.files.items) (s.done + n) s.left.items c.in_ok-docks.docks.items) (sym (c.len-more.ensures ∙ s.loads.ok.0))
          (are_shipped o.header o.step o.ranks o.room o.pieces.items o.files.items (map (λ leaf. leaf.0) o.leaves.items) o.valid (length o.leaves.items) s.done s.loads.items s.left.items s.docks.items s.docks_valid
          c.in_ok-docks.docks.items c.in_ok-docks.ensures);
    }

pub returns-clause-samples : goal.returns-clause-samples
returns-clause-samples g c = λ sample are held have.
    let s = c.args.self in
    let o = s.opening in
    keep_samples o.header s.loads.items s.docks.items c.in_ok-docks.docks.items c.axes-axes.ensures.valid
    (loads_are o.header o.step o.ranks o.room o.pieces.items o.files.items (map (λ leaf. leaf.0) o.leaves.items) o.valid (length o.leaves.items) s.done s.loads.items s.left.items s.docks.items s.docks_valid s.loads_valid)
    c.in_ok-docks.ensures sample are held have
