use Rattle.std.proofs.Common.{IfSome, List, ℕ, Option, Some, None, Ok, Err, ap}
use Rattle.idx_http.specs.declared.head.Head.{Head}
use Rattle.idx_http.specs.declared.head.HeadRead.TheVariants as R
use Rattle.idx_http.specs.Heads.{whole}
use Rattle.idx_http.specs.Read.{IsHeadRead}
use Rattle.idx_session.specs.declared.asked.Asked.TheVariants as A
use Rattle.idx_session.specs.Session.{IsNext}
use Rattle.idx_session.specs.declared.link_end.LinkEnd.TheVariants as E
use Rattle.idx_session.proofs.heads.next_asked.Goals as goal

head_next : (before after : Option (List ℕ)) (head : Head) → IfSome before (λ s. IsHeadRead s after (R.Head head)) → IfSome before (λ s. IsNext s after (Ok (A.Head head)))
head_next None after head read = tt
head_next (Some s) after head (h, next, values, left) = (whole h, next, ap A.Head values, left)

pub returns-in-Head-clause-next : goal.returns-in-Head-clause-next
returns-in-Head-clause-next g c = head_next _ _ c.in-Head.head c.in-Head.ensures.read

memory_next : (before after : Option (List ℕ)) → IfSome before (λ s. IsHeadRead s after R.NoMemory) → IfSome before (λ s. IsNext s after (Err E.NoMemory))
memory_next None after read = tt
memory_next (Some s) after (next, left) = next

pub returns-in-NoMemory-clause-next : goal.returns-in-NoMemory-clause-next
returns-in-NoMemory-clause-next g c = memory_next _ _ c.in-NoMemory.ensures.read
