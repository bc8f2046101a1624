use Rattle.std.proofs.Common.{ℕ, ◌+◌, ◌<◌, ◌≤◌, length, sym, subst, arith}
use Rattle.idx_geom.specs.Region.{points}
use Rattle.idx_pieces.specs.Filling.{Appends}
use Rattle.idx_pieces.specs.declared.cursor.Cursor.{Cursor}
use Rattle.idx_pieces.proofs.FillingLemmas.{Appends-none, Appends-row, run-fits}
use Rattle.idx_pieces.proofs.append.append_window.Goals as goal

pub rows-init : goal.rows-init
rows-init c = record {
  cursor = c.requires.cursor;
  next = c.requires.next;
  appends = Appends-none c.args.size c.args.from c.args.window.now c.args.extent.now c.args.region.now c.args.bytes.now c.args.cursor.done;
}

pub append_row-requires : goal.append_row-requires
append_row-requires c =
    let here : Cursor = c.rows.cursor in
    let some : here.done < length (points c.args.region.now) = omega (arith, c.rows-test.true, c.count-total.ensures.count) in
    let high : here.place + c.min-count.result ≤ c.args.to = omega (arith, c.min-count.ensures, c.if-cursor-to.true) in
    run-fits here.place c.args.from c.args.to c.min-count.result c.args.size (length c.args.window.now) (c.rows.invariant.next some) high c.requires.window

pub rows-preserved : goal.rows-preserved
rows-preserved c =
    let here : Cursor = c.rows.cursor in
    let some : here.done < length (points c.args.region.now) = omega (arith, c.rows-test.true, c.count-total.ensures.count) in
    let low : c.args.from ≤ here.place = c.rows.invariant.next some in
    let left : c.min-count.result ≤ here.left = omega (arith, c.min-count.ensures) in
    let high : here.place + c.min-count.result ≤ c.args.to = omega (arith, c.min-count.ensures, c.if-cursor-to.true) in
    let room = run-fits here.place c.args.from c.args.to c.min-count.result c.args.size (length c.args.window.now) low high c.requires.window in
    let more : Appends c.args.size c.args.from c.args.window.now c.args.extent.now c.args.region.now c.args.bytes.now c.append_row.new.bytes c.args.cursor.done (here.done + c.min-count.result) =
    Appends-row c.args.size c.args.from c.args.window.now c.args.extent.now c.args.region.now c.args.bytes.now c.rows.bytes c.append_row.new.bytes c.args.cursor.done c.min-count.result here
    c.rows.invariant.appends c.rows.invariant.cursor some low left room c.in_ok-append_row.ensures in
    record {
      cursor = c.advanced-cursor.ensures.cursor;
      next = λ lt. omega (arith, c.advanced-cursor.ensures.rises lt, low);
      appends = subst (λ (n : ℕ). Appends c.args.size c.args.from c.args.window.now c.args.extent.now c.args.region.now c.args.bytes.now c.append_row.new.bytes c.args.cursor.done n)
          (sym c.advanced-cursor.ensures.number) more;
    }
