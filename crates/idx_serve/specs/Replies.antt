-- Which replies may follow what is known.
use Rattle.std.specs.Prelude.{◌≡◌, ◌⊎◌, ℕ, Bool, ◌||◌, List, max}
use Rattle.idx_outside.specs.Cause.{counted}
use Rattle.idx_plan.specs.declared.ask.Ask.{Ask}
use Rattle.idx_query.specs.declared.report.Report.{Report}
use Rattle.idx_session.specs.Entry.{Answers, Mark, Reply, State}
use Rattle.idx_session.specs.declared.asked.Asked.{Asked}
use Rattle.idx_serve.specs.Questions.{IsQuestion, closing}
use Rattle.idx_serve.specs.Refusals.{ends, status_of}
use Rattle.idx_serve.specs.States.{IsEased, IsFound, IsRefused}
use Rattle.idx_serve.specs.Texts.{answer_reply, refusal_reply}
use Rattle.idx_serve.specs.declared.refusal.Refusal.{Refusal}
use Rattle.idx_serve.specs.declared.refusal.Refusal.TheVariants as R
use Rattle.idx_serve.specs.declared.site.Site.{Site}

-- the length of the board that the last reply which names one was made from, after a refusal
abbrev pub seen_after : Refusal → ℕ → ℕ
seen_after (R.NotPublished board) seen = board
seen_after refusal seen = seen

-- A refusal is written down as itself, or, where there was no memory for its text, as want of memory.
abbrev pub IsWrittenAs : Refusal → Refusal → Type 0
IsWrittenAs cause refusal = (refusal ≡ cause) ⊎ (refusal ≡ R.NoMemory)

-- A reply that refuses what was asked, for this reason, which is written down. It closes where the reason does.
pub record Refuses (tells : Bool) (site : Site) (before : Mark) (asked : Asked) (last : Bool) (reply : Reply) : Type 0 where
  pub reason : Refusal
  pub left : State
  pub cause : IsRefused tells site asked before.state left reason
  pub refusal : Refusal
  pub written : IsWrittenAs reason refusal
  pub eased : IsEased tells refusal left reply.mark.state
  pub seen : reply.mark.seen ≡ seen_after refusal before.seen
  pub status : reply.status ≡ status_of refusal
  pub closes : reply.closes ≡ (closing last asked || ends reason)
  pub bytes : reply.bytes ≡ refusal_reply refusal reply.closes

-- the bytes are those of a reply with the samples that were asked for, out of the post of this number
pub record IsMade (tells : Bool) (site : Site) (before after : State) (asked : Asked) (closes : Bool) (bytes : List ℕ) (post : ℕ) : Type 0 where
  pub ask : Ask
  pub question : IsQuestion site asked ask
  pub samples : List ℕ
  pub report : Report
  pub found : IsFound tells site.header ask before after samples report
  pub number : report.post ≡ post
  pub text : bytes ≡ answer_reply site.header ask report.post closes samples

-- A reply with the samples that were asked for. It names a board which has at least its post.
pub record Gives (tells : Bool) (site : Site) (before : Mark) (asked : Asked) (last : Bool) (reply : Reply) : Type 0 where
  pub post : ℕ
  pub made : IsMade tells site before.state reply.mark.state asked reply.closes reply.bytes post
  pub seen : reply.mark.seen ≡ max before.seen (counted post)
  pub status : reply.status ≡ 200
  pub closes : reply.closes ≡ closing last asked

-- the replies that a site may give, by whether the turn tells its hall
abbrev pub IsReply : Bool → Site → Answers
IsReply tells site before asked last reply = Refuses tells site before asked last reply ⊎ Gives tells site before asked last reply

-- What a head leaves that gets no reply: it is refused, half of the cached blocks are dropped for want of memory, and not even this
-- could be written down.
pub record IsLost (tells : Bool) (site : Site) (before after : Mark) : Type 0 where
  pub asked : Asked
  pub reason : Refusal
  pub left : State
  pub cause : IsRefused tells site asked before.state left reason
  pub eased : IsEased tells R.NoMemory left after.state
  pub seen : after.seen ≡ before.seen
