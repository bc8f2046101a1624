-- What the entries of a link say of the steps that were published.
use Rattle.std.proofs.Common.{◌≡◌, ℕ, ◌+◌, ◌<◌, ◌≤◌, Bool, List, [], ◌∷◌, ◌++◌, length, take, Option, Some, None, Ok, Err, All, refl, sym, ap, ◌∙◌, subst, arith, inl, inr, append_assoc, append-nil, length-append}
use Rattle.std.specs.Prelude.{max, slice_get}
use Rattle.std.proofs.lemmas.List.{take_at, take-append-le}
use Rattle.std.proofs.lemmas.List.Elements.{All-nil, All-cons}
use Rattle.std.proofs.lemmas.Grind.{common_steps}
use Rattle.idx_outside.specs.Cause.{counted}
use Rattle.idx_header.specs.Header.{HeaderValue}
use Rattle.idx_hall.specs.Posts.{Lacks, Post, newest}
use Rattle.idx_hall.proofs.NewestLemmas.{at_before}
use Rattle.idx_turn.specs.Stands.{Begins}
use Rattle.idx_plan.specs.declared.ask.Ask.{Ask}
use Rattle.idx_plan.specs.declared.plan_fault.PlanFault.{PlanFault}
use Rattle.idx_plan.specs.declared.plan_fault.PlanFault.TheVariants as P
use Rattle.idx_request.specs.Faults.{IsReadBy, early_fault}
use Rattle.idx_request.specs.Pairs.{Pair, pairs_of}
use Rattle.idx_request.specs.declared.target_fault.TargetFault.{TargetFault}
use Rattle.idx_request.specs.declared.target_fault.TargetFault.TheVariants as T
use Rattle.form_urlencoded.specs.Form.{split_once}
use Rattle.idx_session.specs.Entry.{Entry, Mark, Reply, State, mark_after, SeenRises}
use Rattle.idx_session.specs.Session.{Follows, KnownAs, is_last}
use Rattle.idx_session.specs.declared.asked.Asked.{Asked}
use Rattle.idx_session.specs.declared.asked.Asked.TheVariants as A
use Rattle.idx_session.specs.declared.link_end.LinkEnd.{LinkEnd}
use Rattle.idx_session.specs.declared.link_end.LinkEnd.TheVariants as E
use Rattle.idx_session.proofs.EntryLemmas.{seen_rises}
use Rattle.idx_serve.specs.Boards.{HoldsOf, IsOutOf}
use Rattle.idx_serve.specs.Questions.{IsQuestion}
use Rattle.idx_serve.specs.Refusals.{plan_status, status_of, target_status}
use Rattle.idx_serve.specs.Replies.{Gives, IsLost, IsReply, IsWrittenAs, Refuses, seen_after}
use Rattle.idx_serve.specs.States.{IsAnswerRefused, IsEased, IsRefused}
use Rattle.idx_serve.specs.declared.refusal.Refusal.{Refusal}
use Rattle.idx_serve.specs.declared.refusal.Refusal.TheVariants as R
use Rattle.idx_serve.specs.declared.site.Site.{Site}
use Rattle.idx_serve.proofs.AskLemmas.{asked_of}
use Rattle.idx_serve.proofs.NewestLemmas.{gives-few, gives-newest}

-- ---- posts were only added

begins_same : (a b : State) → b ≡ a → Begins a.posts b.posts
begins_same a b same = record { rest = []; is = ap (λ (s : State). s.posts) same ∙ sym (append-nil a.posts) }

pub begins_on : {a b c : List Post} → Begins a b → Begins b c → Begins a c
begins_on {a} {b} {c} h k = record {
  rest = h.rest ++ k.rest;
  is = k.is ∙ (ap (λ (l : List Post). l ++ k.rest) h.is ∙ append_assoc a h.rest k.rest);
}

begins_few : (a b : List Post) → Begins a b → length a ≤ length b
begins_few a b h = omega (arith, ap (λ (l : List Post). length l) h.is, length-append a h.rest)

begins_take : (a b : List Post) → Begins a b → take (length a) b ≡ a
begins_take a b h = ap (take (length a)) h.is ∙ take_at a h.rest (length a) refl

at_later : (a b : List Post) (post : Post) (number : ℕ) → Begins a b → slice_get a number ≡ Some post → slice_get b number ≡ Some post
at_later a b post number h at =
    subst (λ (l : List Post). slice_get l number ≡ Some post) (sym h.is) (at_before a h.rest number post at)

answer_refused : (tells : Bool) (h : HeaderValue) (before after : State) (reason : Refusal) (ask : Ask) → IsAnswerRefused tells h before after reason ask
    → Begins before.posts after.posts
answer_refused tells h before after R.BadHead ask r = absurd r
answer_refused tells h before after R.HeadTooLarge ask r = absurd r
answer_refused tells h before after R.HasBody ask r = absurd r
answer_refused tells h before after R.NotGet ask r = absurd r
answer_refused tells h before after (R.Target fault) ask r = absurd r
answer_refused tells h before after (R.Plan fault) ask r = begins_same before after r.2
answer_refused tells h before after (R.NotPublished board) ask r = r.grew.begins
answer_refused tells h before after R.StoreFault ask r = r.grew.begins
answer_refused tells h before after R.NoMemory ask r = r.grew.begins

refused_begins : (tells : Bool) (site : Site) (asked : Asked) (before left : State) (reason : Refusal) → IsRefused tells site asked before left reason
    → Begins before.posts left.posts
refused_begins tells site asked before left reason (inl (why, same)) = begins_same before left same
refused_begins tells site asked before left reason (inr (ask, question, why)) = answer_refused tells site.header before left reason ask why

eased_begins : (tells : Bool) (refusal : Refusal) (left after : State) → IsEased tells refusal left after → Begins left.posts after.posts
eased_begins tells R.BadHead left after e = begins_same left after e
eased_begins tells R.HeadTooLarge left after e = begins_same left after e
eased_begins tells R.HasBody left after e = begins_same left after e
eased_begins tells R.NotGet left after e = begins_same left after e
eased_begins tells (R.Target fault) left after e = begins_same left after e
eased_begins tells (R.Plan fault) left after e = begins_same left after e
eased_begins tells (R.NotPublished board) left after e = begins_same left after e
eased_begins tells R.StoreFault left after e = begins_same left after e
eased_begins tells R.NoMemory left after e = e.grew.begins

reply_begins : (tells : Bool) (site : Site) (mark : Mark) (asked : Asked) (last : Bool) (reply : Reply) → IsReply tells site mark asked last reply
    → Begins mark.state.posts reply.mark.state.posts
reply_begins tells site mark asked last reply (inl r) =
    begins_on (refused_begins tells site asked mark.state r.left r.reason r.cause) (eased_begins tells r.refusal r.left reply.mark.state r.eased)
reply_begins tells site mark asked last reply (inr g) = g.made.found.grew.begins

-- ---- what was not published

-- no post that was seen has the time that is asked, and the board has as many
record Unpublished (site : Site) (asked : Asked) (posts : List Post) (board : ℕ) : Type 0 where
  ask : Ask
  question : IsQuestion site asked ask
  lacks : Lacks ask.time posts
  many : board ≡ length posts

unpublished_left : (tells : Bool) (site : Site) (asked : Asked) (before left : State) (board : ℕ) → IsRefused tells site asked before left (R.NotPublished board)
    → Unpublished site asked left.posts board
unpublished_left tells site asked before left board (inl (why, same)) = absurd why
unpublished_left tells site asked before left board (inr (ask, question, why)) = record { ask = ask; question = question; lacks = why.lacks; many = why.board }

written_reason : (reason : Refusal) (board : ℕ) → IsWrittenAs reason (R.NotPublished board) → reason ≡ R.NotPublished board
written_reason reason board (inl same) = sym same
written_reason reason board (inr other) = absurd (cc)

written_target : (reason : Refusal) (fault : TargetFault) → IsWrittenAs reason (R.Target fault) → reason ≡ R.Target fault
written_target reason fault (inl same) = sym same
written_target reason fault (inr other) = absurd (cc)

unpublished : (tells : Bool) (site : Site) (mark : Mark) (asked : Asked) (last : Bool) (reply : Reply) (r : Refuses tells site mark asked last reply) (board : ℕ)
    → r.refusal ≡ R.NotPublished board → Unpublished site asked reply.mark.state.posts board
unpublished tells site mark asked last reply r board is =
    let written : IsWrittenAs r.reason (R.NotPublished board) = subst (IsWrittenAs r.reason) is r.written in
    let cause : IsRefused tells site asked mark.state r.left (R.NotPublished board) =
    subst (IsRefused tells site asked mark.state r.left) (written_reason r.reason board written) r.cause in
    let same : reply.mark.state ≡ r.left = subst (λ f. IsEased tells f r.left reply.mark.state) is r.eased in
    subst (λ (s : State). Unpublished site asked s.posts board) (sym same) (unpublished_left tells site asked mark.state r.left board cause)

-- ---- the board that is named

named : (f : Refusal) (seen before few posts : ℕ) → seen ≡ seen_after f before → before ≤ few → few ≤ posts → ((board : ℕ) → f ≡ R.NotPublished board → board ≡ posts)
    → (before ≤ seen) × (seen ≤ posts)
named R.BadHead seen before few posts is b p board = (omega arith, omega arith)
named R.HeadTooLarge seen before few posts is b p board = (omega arith, omega arith)
named R.HasBody seen before few posts is b p board = (omega arith, omega arith)
named R.NotGet seen before few posts is b p board = (omega arith, omega arith)
named (R.Target fault) seen before few posts is b p board = (omega arith, omega arith)
named (R.Plan fault) seen before few posts is b p board = (omega arith, omega arith)
named (R.NotPublished many) seen before few posts is b p board = (omega (arith, board many refl), omega (arith, board many refl))
named R.StoreFault seen before few posts is b p board = (omega arith, omega arith)
named R.NoMemory seen before few posts is b p board = (omega arith, omega arith)

not_less : (before seen post : ℕ) → seen ≡ max before (counted post) → before ≤ seen
not_less before seen post is = grind (arith, common_steps, is)

pub raises : (tells : Bool) (site : Site) (mark : Mark) (asked : Asked) (last : Bool) (reply : Reply) → IsReply tells site mark asked last reply
    → mark.seen ≤ length mark.state.posts → (mark.seen ≤ reply.mark.seen) × (reply.mark.seen ≤ length reply.mark.state.posts)
raises tells site mark asked last reply (inl r) few =
    named r.refusal reply.mark.seen mark.seen (length mark.state.posts) (length reply.mark.state.posts) r.seen few
    (begins_few mark.state.posts reply.mark.state.posts (reply_begins tells site mark asked last reply (inl r)))
    (λ board is. (unpublished tells site mark asked last reply r board is).many)
raises tells site mark asked last reply (inr g) few =
    (not_less mark.seen reply.mark.seen g.post g.seen, gives-few tells site mark asked last reply g few)

pub rises : (tells : Bool) (site : Site) (mark : Mark) (before : ℕ) (entries : List Entry) → Follows (IsReply tells site) mark before entries
    → mark.seen ≤ length mark.state.posts → SeenRises mark entries
rises tells site mark before entries follows few = seen_rises (IsReply tells site) (raises tells site) mark before entries follows few

-- ---- what was asked

time_same : (site : Site) (asked : Asked) (a b : Ask) → IsQuestion site asked a → IsQuestion site asked b → a.time ≡ b.time
time_same site (A.Head head) a b one two =
    let first = (asked_of site.header site.name head.target a one.read).time in
    let second = (asked_of site.header site.name head.target b two.read).time in
    cc
time_same site A.Bad a b one two = absurd one
time_same site A.TooBig a b one two = absurd one

-- a target that asks something is no other one
read_apart : (h : HeaderValue) (pairs : List Pair) (ask : Ask) (fault : TargetFault) (early : Option TargetFault) → IsReadBy h pairs (Ok ask) early
    → IsReadBy h pairs (Err fault) early → target_status fault ≡ 404 → ⊥
read_apart h pairs ask fault (Some f) (inl same) two is = cc
read_apart h pairs ask fault (Some f) (inr same) two is = cc
read_apart h pairs ask T.OtherPath None one two is = two
read_apart h pairs ask T.BadText None one two is = two
read_apart h pairs ask T.DoubleParameter None one two is = two
read_apart h pairs ask T.NoAction None one two is = two
read_apart h pairs ask T.UnknownAction None one two is = two
read_apart h pairs ask T.NoDataset None one two is = two
read_apart h pairs ask T.OtherDataset None one two is = two
read_apart h pairs ask T.NotRaw None one two is = two
read_apart h pairs ask T.UnknownField None one two is = two
read_apart h pairs ask T.BadTime None one two is = two
read_apart h pairs ask T.BadBox None one two is = omega (arith, is)
read_apart h pairs ask T.BadLevels None one two is = omega (arith, is)
read_apart h pairs ask T.NoMemory None one two is = omega (arith, is)

target_apart : (tells : Bool) (site : Site) (asked : Asked) (before left : State) (ask : Ask) (fault : TargetFault) → IsQuestion site asked ask
    → IsRefused tells site asked before left (R.Target fault) → target_status fault ≡ 404 → ⊥
target_apart tells site (A.Head head) before left ask fault question (inl (why, same)) is =
    read_apart site.header (pairs_of (split_once 63 head.target).1) ask fault (early_fault site.header site.name head.target) question.read why.0.1 is
target_apart tells site A.Bad before left ask fault question (inl why) is = question
target_apart tells site A.TooBig before left ask fault question (inl why) is = question
target_apart tells site asked before left ask fault question (inr why) is = why.2

plan_apart : (fault : PlanFault) → plan_status fault ≡ 404 → ⊥
plan_apart (P.OutsideVolume axis) is = omega (arith, is)
plan_apart (P.BadLevels lo hi most) is = omega (arith, is)
plan_apart (P.TooLarge bytes) is = omega (arith, is)
plan_apart P.NoMemory is = omega (arith, is)

-- a question that is answered by 404 was not published
missing : (f : Refusal) → status_of f ≡ 404 → ((fault : TargetFault) → f ≡ R.Target fault → target_status fault ≡ 404 → ⊥) → (board : ℕ) × (f ≡ R.NotPublished board)
missing R.BadHead is target = absurd (omega (arith, is))
missing R.HeadTooLarge is target = absurd (omega (arith, is))
missing R.HasBody is target = absurd (omega (arith, is))
missing R.NotGet is target = absurd (omega (arith, is))
missing (R.Target fault) is target = absurd (target fault refl is)
missing (R.Plan fault) is target = absurd (plan_apart fault is)
missing (R.NotPublished board) is target = (board, refl)
missing R.StoreFault is target = absurd (omega (arith, is))
missing R.NoMemory is target = absurd (omega (arith, is))

-- no refusal has the status of samples
target_refuses : (fault : TargetFault) → target_status fault ≡ 200 → ⊥
target_refuses T.OtherPath is = omega (arith, is)
target_refuses T.BadText is = omega (arith, is)
target_refuses T.DoubleParameter is = omega (arith, is)
target_refuses T.NoAction is = omega (arith, is)
target_refuses T.UnknownAction is = omega (arith, is)
target_refuses T.NoDataset is = omega (arith, is)
target_refuses T.OtherDataset is = omega (arith, is)
target_refuses T.NotRaw is = omega (arith, is)
target_refuses T.UnknownField is = omega (arith, is)
target_refuses T.BadTime is = omega (arith, is)
target_refuses T.BadBox is = omega (arith, is)
target_refuses T.BadLevels is = omega (arith, is)
target_refuses T.NoMemory is = omega (arith, is)

plan_refuses : (fault : PlanFault) → plan_status fault ≡ 200 → ⊥
plan_refuses (P.OutsideVolume axis) is = omega (arith, is)
plan_refuses (P.BadLevels lo hi most) is = omega (arith, is)
plan_refuses (P.TooLarge bytes) is = omega (arith, is)
plan_refuses P.NoMemory is = omega (arith, is)

refuses : (f : Refusal) → status_of f ≡ 200 → ⊥
refuses R.BadHead is = omega (arith, is)
refuses R.HeadTooLarge is = omega (arith, is)
refuses R.HasBody is = omega (arith, is)
refuses R.NotGet is = omega (arith, is)
refuses (R.Target fault) is = target_refuses fault is
refuses (R.Plan fault) is = plan_refuses fault is
refuses (R.NotPublished board) is = omega (arith, is)
refuses R.StoreFault is = omega (arith, is)
refuses R.NoMemory is = omega (arith, is)

-- ---- each entry

module _ (tells : Bool) (site : Site) (mark : Mark) (e : Entry) (last : Bool) (few : mark.seen ≤ length mark.state.posts) (posts : List Post) (more : Begins e.reply.mark.state.posts posts) where
  front : (n : ℕ) → n ≤ length e.reply.mark.state.posts → take n posts ≡ take n e.reply.mark.state.posts
  front n within = ap (take n) more.is ∙ take-append-le n e.reply.mark.state.posts more.rest within

  refused_lacks : (r : Refuses tells site mark e.asked last e.reply) (ask : Ask) → IsQuestion site e.asked ask → e.reply.status ≡ 404 → Lacks ask.time (take e.reply.mark.seen posts)
  refused_lacks r ask question is =
      let gone = missing r.refusal (sym r.status ∙ is)
      (λ fault same. target_apart tells site e.asked mark.state r.left ask fault question
      (subst (IsRefused tells site e.asked mark.state r.left) (written_target r.reason fault (subst (IsWrittenAs r.reason) same r.written)) r.cause)) in
      let u = unpublished tells site mark e.asked last e.reply r gone.0 gone.1 in
      let many : e.reply.mark.seen ≡ length e.reply.mark.state.posts = r.seen ∙ ap (λ f. seen_after f mark.seen) gone.1 ∙ u.many in
      let whole : take e.reply.mark.seen posts ≡ e.reply.mark.state.posts = ap (λ n. take n posts) many ∙ begins_take e.reply.mark.state.posts posts more in
      subst (λ (l : List Post). Lacks ask.time l) (sym whole)
      (subst (λ n. Lacks n e.reply.mark.state.posts) (time_same site e.asked u.ask ask u.question question) u.lacks)

  given : (g : Gives tells site mark e.asked last e.reply) → IsOutOf site posts e
  given g =
      let a = g.made.found.answer in
      record {
        ask = g.made.ask;
        question = g.made.question;
        number = g.made.report.post;
        post = a.post;
        at = at_later a.board posts a.post g.made.report.post (begins_on a.until more) a.is.at;
        newest_is = λ behind. ap (λ (l : List Post). newest l g.made.ask.time) (front e.reply.mark.seen (gives-few tells site mark e.asked last e.reply g few))
            ∙ gives-newest tells site mark e.asked last e.reply g few (subst (λ n. n < e.reply.mark.seen) g.made.number behind) ∙ ap Some (sym g.made.number);
        samples = g.made.samples;
        text = g.made.text;
        stored = a.answer;
      }

  holds : IsReply tells site mark e.asked last e.reply → HoldsOf site posts e
  holds (inl r) = record {
    board = omega (arith, (raises tells site mark e.asked last e.reply (inl r) few).1, begins_few e.reply.mark.state.posts posts more);
    lacks = refused_lacks r;
    samples = λ is. absurd (refuses r.refusal (sym r.status ∙ is));
  }
  holds (inr g) = record {
    board = omega (arith, (raises tells site mark e.asked last e.reply (inr g) few).1, begins_few e.reply.mark.state.posts posts more);
    lacks = λ ask question is. absurd (omega (arith, g.status, is));
    samples = λ is. given g;
  }

-- ---- all entries

follow_begins : (tells : Bool) (site : Site) (mark : Mark) (before : ℕ) (entries : List Entry) → Follows (IsReply tells site) mark before entries
    → Begins mark.state.posts (mark_after mark entries).state.posts
follow_begins tells site mark before [] follows = begins_same mark.state mark.state refl
follow_begins tells site mark before (e ∷ entries) follows =
    begins_on (reply_begins tells site mark e.asked (is_last before) e.reply follows.0) (follow_begins tells site e.reply.mark (before + 1) entries follows.3)

pub all_hold : (tells : Bool) (site : Site) (mark : Mark) (before : ℕ) (entries : List Entry) → Follows (IsReply tells site) mark before entries
    → mark.seen ≤ length mark.state.posts → (posts : List Post) → Begins (mark_after mark entries).state.posts posts → All (HoldsOf site posts) entries
all_hold tells site mark before [] follows few posts more = All-nil (HoldsOf site posts)
all_hold tells site mark before (e ∷ entries) follows few posts more =
    let here = begins_on (follow_begins tells site e.reply.mark (before + 1) entries follows.3) more in
    All-cons (HoldsOf site posts) e entries (holds tells site mark e (is_last before) few posts here follows.0)
    (all_hold tells site e.reply.mark (before + 1) entries follows.3 (raises tells site mark e.asked (is_last before) e.reply follows.0 few).1 posts more)

known_same : (last known : Mark) → known ≡ last → Begins last.state.posts known.state.posts
known_same last known same = begins_same last.state known.state (ap (λ (m : Mark). m.state) same)

pub known_begins : (tells : Bool) (site : Site) (last known : Mark) (end : LinkEnd) → KnownAs (IsLost tells site) last known end → Begins last.state.posts known.state.posts
known_begins tells site last known E.Closed same = known_same last known same
known_begins tells site last known (E.CutOff kept) same = known_same last known same
known_begins tells site last known (E.LinkFault faults) same = known_same last known same
known_begins tells site last known E.NoMemory (inl same) = known_same last known same
known_begins tells site last known E.NoMemory (inr lost) =
    begins_on (refused_begins tells site lost.asked last.state lost.left lost.reason lost.cause) (eased_begins tells R.NoMemory lost.left known.state lost.eased)
