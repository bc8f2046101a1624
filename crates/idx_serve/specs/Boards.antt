-- What the entries of a link say of the steps that were published.
use Rattle.std.specs.Prelude.{◌≡◌, ℕ, ◌<◌, ◌≤◌, List, length, take, Some, IfSome, slice_get}
use Rattle.idx_hall.specs.Posts.{Lacks, Post, bytes_at, newest}
use Rattle.idx_plan.specs.Answer.{answer_of}
use Rattle.idx_plan.specs.declared.ask.Ask.{Ask}
use Rattle.idx_session.specs.Entry.{Entry}
use Rattle.idx_serve.specs.Questions.{IsQuestion}
use Rattle.idx_serve.specs.Texts.{answer_reply}
use Rattle.idx_serve.specs.declared.site.Site.{Site}

-- The entry answers a question out of one of these posts: the newest of its time on the board that is named. (The length that is
-- named stands still at the end of its type.)
pub record IsOutOf (site : Site) (posts : List Post) (e : Entry) : Type 0 where
  pub ask : Ask
  pub question : IsQuestion site e.asked ask
  pub number : ℕ
  pub post : Post
  pub at : slice_get posts number ≡ Some post
  pub newest_is : number < e.reply.mark.seen → newest (take e.reply.mark.seen posts) ask.time ≡ Some number
  pub samples : List ℕ
  pub text : e.reply.bytes ≡ answer_reply site.header ask number e.reply.closes samples
  pub stored : IfSome post.stored (λ stored. samples ≡ answer_of site.header ask (bytes_at stored))

-- What the entry says is so of these posts: it names a board of so many of the first of them, a question is not published only where
-- these lack its time, and samples are out of one of them.
pub record HoldsOf (site : Site) (posts : List Post) (e : Entry) : Type 0 where
  pub board : e.reply.mark.seen ≤ length posts
  pub lacks : (ask : Ask) → IsQuestion site e.asked ask → e.reply.status ≡ 404 → Lacks ask.time (take e.reply.mark.seen posts)
  pub samples : e.reply.status ≡ 200 → IsOutOf site posts e
