-- A seat beside another one.
use Rattle.idx_outside.specs.Shape.{Shape}
use Rattle.idx_lock.specs.Seats.{ChairValue}

-- the shape of the steps that a chair's seat has seen
abbrev pub shape_at : ChairValue → Shape
shape_at c = c.seat.seen.shape
