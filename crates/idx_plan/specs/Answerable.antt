-- Questions that a dataset can be asked.
use Rattle.std.specs.Prelude.{◌≤◌, length}
use Rattle.idx_geom.specs.Region.{LiesIn, lower_ends, upper_ends}
use Rattle.idx_header.specs.Header.{HeaderValue}
use Rattle.idx_plan.specs.declared.ask.Ask.{Ask}

-- the region does not leave the box, and the levels are in order and there
pub record IsAnswerable (h : HeaderValue) (ask : Ask) : Type 0 where
  pub lower : LiesIn h.box (lower_ends ask.region)
  pub upper : LiesIn h.box (upper_ends ask.region)
  pub ordered : ask.lo ≤ ask.hi
  pub deepest : ask.hi ≤ length h.mask
