-- The post of an answer on the board that its reply names.
use Rattle.std.proofs.Common.{◌≡◌, ℕ, ◌+◌, ◌<◌, ◌≤◌, Bool, List, [], length, take, drop, sym, ap, ◌∙◌, subst, arith, Some}
use Rattle.std.specs.Prelude.{max}
use Rattle.std.proofs.lemmas.List.{length-append, length-take-le, take-append-drop, take-append-le}
use Rattle.std.proofs.lemmas.Option.{slice_get_within}
use Rattle.std.proofs.lemmas.Grind.{common_steps}
use Rattle.idx_outside.specs.Cause.{counted}
use Rattle.idx_header.specs.Header.{HeaderValue}
use Rattle.idx_hall.specs.Posts.{Post, newest}
use Rattle.idx_hall.proofs.NewestLemmas.{newest-before}
use Rattle.idx_plan.specs.declared.ask.Ask.{Ask}
use Rattle.idx_query.specs.Answered.{IsAnswered}
use Rattle.idx_query.specs.declared.report.Report.{Report}
use Rattle.idx_session.specs.Entry.{Mark, Reply}
use Rattle.idx_session.specs.declared.asked.Asked.{Asked}
use Rattle.idx_serve.specs.Replies.{Gives}
use Rattle.idx_serve.specs.declared.site.Site.{Site}

-- so many posts of the board that an answer was made from are there afterwards, and its post is the newest of them
module _ (h : HeaderValue) (ask : Ask) (seen_before seen_after : List Post) (samples : List ℕ) (report : Report) (a : IsAnswered h ask seen_before seen_after [] samples report) (many : ℕ) where
  on_board : report.post < length a.board
  on_board = slice_get_within a.board report.post a.post a.is.at

  few_on_board : many ≤ max (length seen_before) (report.post + 1) → many ≤ length a.board
  few_on_board few = grind (arith, common_steps, few, on_board, ap (λ (l : List Post). length l) a.since.is, length-append seen_before a.since.rest)

  pub few_after : many ≤ max (length seen_before) (report.post + 1) → many ≤ length seen_after
  few_after few = omega (arith, few_on_board few, ap (λ (l : List Post). length l) a.until.is, length-append a.board a.until.rest)

  pub newest_of_front : report.post < many → many ≤ max (length seen_before) (report.post + 1) → newest (take many seen_after) ask.time ≡ Some report.post
  newest_of_front behind few =
      let within = few_on_board few in
      let front : take many seen_after ≡ take many a.board = ap (take many) a.until.is ∙ take-append-le many a.board a.until.rest within in
      subst (λ (l : List Post). newest l ask.time ≡ Some report.post) (sym front)
      (newest-before (take many a.board) (drop many a.board) ask.time report.post
      (subst (λ (l : List Post). newest l ask.time ≡ Some report.post) (sym (take-append-drop many a.board)) a.is.newest_is)
      (omega (arith, behind, length-take-le many a.board within)))

few_seen : (before seen posts post : ℕ) → before ≤ posts → seen ≡ max before (counted post) → seen ≤ max posts (post + 1)
few_seen before seen posts post few is = grind (arith, common_steps, few, is)

module _ (tells : Bool) (site : Site) (before : Mark) (asked : Asked) (last : Bool) (reply : Reply) (g : Gives tells site before asked last reply) (few : before.seen ≤ length before.state.posts) where
  pub gives-few : reply.mark.seen ≤ length reply.mark.state.posts
  gives-few =
      few_after site.header g.made.ask before.state.posts reply.mark.state.posts g.made.samples g.made.report g.made.found.answer reply.mark.seen
      (subst (λ n. reply.mark.seen ≤ max (length before.state.posts) (n + 1)) (sym g.made.number) (few_seen before.seen reply.mark.seen (length before.state.posts) g.post few g.seen))

  pub gives-newest : g.post < reply.mark.seen → newest (take reply.mark.seen reply.mark.state.posts) g.made.ask.time ≡ Some g.post
  gives-newest behind =
      subst (λ n. newest (take reply.mark.seen reply.mark.state.posts) g.made.ask.time ≡ Some n) g.made.number
      (newest_of_front site.header g.made.ask before.state.posts reply.mark.state.posts g.made.samples g.made.report g.made.found.answer reply.mark.seen
      (subst (λ n. n < reply.mark.seen) (sym g.made.number) behind)
      (subst (λ n. reply.mark.seen ≤ max (length before.state.posts) (n + 1)) (sym g.made.number) (few_seen before.seen reply.mark.seen (length before.state.posts) g.post few g.seen)))
