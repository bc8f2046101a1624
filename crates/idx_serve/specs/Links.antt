-- What is answered on a link.
use Rattle.std.specs.Prelude.{ℕ, ◌+◌, ◌≤◌, Bool, List, length, Option}
use Rattle.idx_outside.specs.Input.{Reading}
use Rattle.idx_outside.specs.declared.served.Served.{Served}
use Rattle.idx_session.specs.Entry.{State, mark_of}
use Rattle.idx_session.specs.Session.{Session}
use Rattle.idx_session.specs.declared.link_end.LinkEnd.{LinkEnd}
use Rattle.idx_session.specs.declared.link_end.LinkEnd.TheVariants as E
use Rattle.idx_serve.specs.Replies.{IsLost, IsReply}
use Rattle.idx_serve.specs.declared.site.Site.{Site}

-- how many heads were left without a reply at this end of a link: one, where there was no memory for it
abbrev pub lost_heads : LinkEnd → ℕ
lost_heads E.NoMemory = 1
lost_heads end = 0

-- A link was served: its session begins with no board named, from the state before, and leaves the state afterwards. The reader
-- counted one fault at most for each new entry, and for a head that got no reply for want of memory.
pub record IsServed (tells : Bool) (site : Site) (before after : State) (input written_old written_new : Option (List ℕ)) (readings_old readings_new : Option (List Reading)) (served_old served_new : List Served) (end : LinkEnd) : Type 0 where
  pub seen : ℕ
  pub session : Session (IsReply tells site) (IsLost tells site) (mark_of before 0) (mark_of after seen) input written_old written_new readings_old readings_new served_old served_new end
  pub once : after.faults + length served_old ≤ before.faults + length served_new + lost_heads end
