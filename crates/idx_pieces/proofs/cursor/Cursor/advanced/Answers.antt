use Rattle.std.proofs.Common.{◌+◌, ap, arith}
use Rattle.idx_pieces.specs.Cursor.{StandsAt, IsCursor, place_at}
use Rattle.idx_pieces.proofs.CursorLemmas.{place-lt, InRow, InNext, row_facts, next_facts, row_within, behind_row}
use Rattle.idx_pieces.proofs.cursor.Cursor.advanced.Goals as goal

pub overflow_add-result : goal.overflow_add-result
overflow_add-result c =
    let box = c.args.extent.now in
    let region = c.args.region.now in
    let h : IsCursor box region c.args.self = c.requires.cursor in
    let s : StandsAt box region c.args.self = h.at c.requires.some in
    let f : InRow box region c.args.self.done c.args.count = row_facts box region c.args.self.done c.args.count h.part c.requires.some (omega (arith, s.left, c.if-count-self.true)) in
    omega (arith, s.place, f.place, place-lt box region (c.args.self.done + c.args.count) h.part f.within, h.part.valid_box.few)

pub overflow_add-result-then-self-gt0-2 : goal.overflow_add-result-then-self-gt0-2
overflow_add-result-then-self-gt0-2 c =
    let box = c.args.extent.now in
    let region = c.args.region.now in
    let h : IsCursor box region c.args.self = c.requires.cursor in
    let s : StandsAt box region c.args.self = h.at c.requires.some in
    let f : InNext box region c.args.self.done c.args.count c.args.self.gap =
    next_facts box region c.args.self.done c.args.count c.args.self.gap h.part c.requires.some (omega (arith, s.left, c.requires.row, c.if-count-self.false))
    (omega (arith, s.rows, c.if-self-gt0.true)) (omega (arith, h.width, h.gap)) in
    omega (arith, s.place, f.place, place-lt box region (c.args.self.done + c.args.count) h.part f.within, h.part.valid_box.few)

pub overflow_add-result-then-self-gt0 : goal.overflow_add-result-then-self-gt0
overflow_add-result-then-self-gt0 c =
    let box = c.args.extent.now in
    let region = c.args.region.now in
    let h : IsCursor box region c.args.self = c.requires.cursor in
    let s : StandsAt box region c.args.self = h.at c.requires.some in
    let f : InNext box region c.args.self.done c.args.count c.args.self.gap =
    next_facts box region c.args.self.done c.args.count c.args.self.gap h.part c.requires.some (omega (arith, s.left, c.requires.row, c.if-count-self.false))
    (omega (arith, s.rows, c.if-self-gt0.true)) (omega (arith, h.width, h.gap)) in
    omega (arith, s.place, f.place, place-lt box region (c.args.self.done + c.args.count) h.part f.within, h.part.valid_box.few)

pub returns-then-count-self-clause-cursor : goal.returns-then-count-self-clause-cursor
returns-then-count-self-clause-cursor c =
    let box = c.args.extent.now in
    let region = c.args.region.now in
    let h : IsCursor box region c.args.self = c.requires.cursor in
    let s : StandsAt box region c.args.self = h.at c.requires.some in
    let f : InRow box region c.args.self.done c.args.count = row_facts box region c.args.self.done c.args.count h.part c.requires.some (omega (arith, s.left, c.if-count-self.true)) in
    record {
      part = h.part;
      within = omega (arith, f.within);
      width = h.width;
      gap = h.gap;
      at = λ lt. record {
        place = omega (arith, s.place, f.place);
        left = omega (arith, s.left, f.column);
        rows = omega (arith, s.rows, f.row);
      };
    }

pub returns-then-self-gt0-clause-cursor : goal.returns-then-self-gt0-clause-cursor
returns-then-self-gt0-clause-cursor c =
    let box = c.args.extent.now in
    let region = c.args.region.now in
    let h : IsCursor box region c.args.self = c.requires.cursor in
    let s : StandsAt box region c.args.self = h.at c.requires.some in
    let f : InNext box region c.args.self.done c.args.count c.args.self.gap =
    next_facts box region c.args.self.done c.args.count c.args.self.gap h.part c.requires.some (omega (arith, s.left, c.requires.row, c.if-count-self.false))
    (omega (arith, s.rows, c.if-self-gt0.true)) (omega (arith, h.width, h.gap)) in
    record {
      part = h.part;
      within = omega (arith, f.within);
      width = h.width;
      gap = h.gap;
      at = λ lt. record {
        place = omega (arith, s.place, f.place);
        left = omega (arith, h.width, f.column);
        rows = omega (arith, s.rows, f.row);
      };
    }

pub returns-clause-cursor : goal.returns-clause-cursor
returns-clause-cursor c =
    let box = c.args.extent.now in
    let region = c.args.region.now in
    let h : IsCursor box region c.args.self = c.requires.cursor in
    let s : StandsAt box region c.args.self = h.at c.requires.some in
    record {
      part = h.part;
      within = row_within box region c.args.self.done c.args.count h.part c.requires.some (omega (arith, s.left, c.requires.row));
      width = h.width;
      gap = h.gap;
      at = λ lt. absurd (omega (arith, c.if-done-count.false, c.count.ensures.count));
    }

pub returns-clause-rises : goal.returns-clause-rises
returns-clause-rises c = λ lt. absurd (omega (arith, lt, c.if-done-count.false, c.count.ensures.count))

pub returns-then-done-count-clause-rises : goal.returns-then-done-count-clause-rises
returns-then-done-count-clause-rises c =
    let box = c.args.extent.now in
    let region = c.args.region.now in
    let h : IsCursor box region c.args.self = c.requires.cursor in
    let s : StandsAt box region c.args.self = h.at c.requires.some in
    let stands : StandsAt box region c.at.result = c.at.ensures.cursor.at (omega (arith, c.at.ensures.number, c.if-done-count.true, c.count.ensures.count)) in
    let behind = behind_row box region c.args.self.done c.args.count h.part (omega (arith, s.left, c.requires.row, c.if-count-self.false)) c.requires.some
    (omega (arith, c.if-done-count.true, c.count.ensures.count)) in
    λ lt. omega (arith, behind, s.place, stands.place, ap (place_at box region) c.at.ensures.number)
