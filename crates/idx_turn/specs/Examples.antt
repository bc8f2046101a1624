-- What the examples speak of.
use Rattle.std.specs.Prelude.{ℕ, [], None}
use Rattle.idx_hall.specs.Posts.{Post}

-- a post of which nothing but the time is known
abbrev pub bare_post : ℕ → Post
bare_post time = record { time = time; has = []; stored = None }
