use Rattle.std.proofs.Common.{◌≡◌, ℕ, List, Option, Some, None, sym, rules}
use Rattle.std.specs.Arc.{arc_value}
use Rattle.idx_hall.specs.Calls.{IsAfter}
use Rattle.idx_hall.specs.Posts.{Post, newest}
use Rattle.idx_hall.proofs.NewestLemmas.{newest-post}
use Rattle.idx_test_reading.proofs.beside.publish.Goals as goal

-- the newest post of a time is of that time
after_newest : (board : List Post) (time : ℕ) (found : Option ℕ) → found ≡ newest board time → IsAfter board time found
after_newest board time None is = tt
after_newest board time (Some number) is =
    let there = newest-post board time number (sym is) in
    (there.0, record { at = there.1.at; time = there.1.time })

pub publish-requires-clause-after : goal.publish-requires-clause-after
publish-requires-clause-after g c =
    after_newest c.get_mut-hall.result.now.board (arc_value c.args.step).time c.newest-after.result (search rules)
