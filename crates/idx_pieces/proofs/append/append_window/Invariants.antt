use Rattle.std.proofs.Common.{◌<◌, ◌≤◌, ◌-◌, length}
use Rattle.idx_geom.specs.Region.{points}
use Rattle.idx_pieces.specs.Cursor.{IsCursor}
use Rattle.idx_pieces.specs.Filling.{Appends}
use Rattle.idx_pieces.proofs.append.append_window.Given as goal

abbrev pub invariant-rows : goal.invariant-rows
invariant-rows l = record {
  cursor : IsCursor l.extent l.region l.cursor;
  next : l.cursor.done < length (points l.region) → l.from ≤ l.cursor.place;
  appends : Appends l.size l.from l.window l.extent l.region l.initial.bytes l.bytes l.fn.cursor.done l.cursor.done;
}

abbrev pub decreases-rows : goal.decreases-rows
decreases-rows l = length (points l.region) - l.cursor.done
