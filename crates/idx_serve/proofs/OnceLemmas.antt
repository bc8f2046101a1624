-- The reader counts one fault at most for each head.
use Rattle.std.proofs.Common.{◌≡◌, ℕ, ◌+◌, ◌≤◌, Bool, List, [], ◌∷◌, length, map, Option, ap, sym, subst, arith, inl, inr, length-append}
use Rattle.std.proofs.lemmas.List.{length-map}
use Rattle.idx_outside.specs.Cause.{MeetsOnce}
use Rattle.idx_outside.specs.Input.{Reading}
use Rattle.idx_outside.specs.declared.served.Served.{Served}
use Rattle.idx_header.specs.Header.{HeaderValue}
use Rattle.idx_plan.specs.declared.ask.Ask.{Ask}
use Rattle.idx_session.specs.Entry.{Entry, Mark, Reply, State, mark_after, mark_of, served_of}
use Rattle.idx_session.specs.Session.{Follows, KnownAs, Session}
use Rattle.idx_session.specs.declared.asked.Asked.{Asked}
use Rattle.idx_session.specs.declared.link_end.LinkEnd.{LinkEnd}
use Rattle.idx_session.specs.declared.link_end.LinkEnd.TheVariants as E
use Rattle.idx_serve.specs.Links.{IsServed, lost_heads}
use Rattle.idx_serve.specs.Replies.{IsLost, IsReply}
use Rattle.idx_serve.specs.States.{IsAnswerRefused, IsEased, IsRefused}
use Rattle.idx_serve.specs.declared.refusal.Refusal.{Refusal}
use Rattle.idx_serve.specs.declared.refusal.Refusal.TheVariants as R
use Rattle.idx_serve.specs.declared.site.Site.{Site}

once_same : (a b : State) → b ≡ a → MeetsOnce a.faults b.faults
once_same a b same = omega (arith, ap (λ (s : State). s.faults) same)

answer_once : (tells : Bool) (h : HeaderValue) (before after : State) (reason : Refusal) (ask : Ask) → IsAnswerRefused tells h before after reason ask
    → MeetsOnce before.faults after.faults
answer_once tells h before after R.BadHead ask r = absurd r
answer_once tells h before after R.HeadTooLarge ask r = absurd r
answer_once tells h before after R.HasBody ask r = absurd r
answer_once tells h before after R.NotGet ask r = absurd r
answer_once tells h before after (R.Target fault) ask r = absurd r
answer_once tells h before after (R.Plan fault) ask r = once_same before after r.2
answer_once tells h before after (R.NotPublished board) ask r = omega (arith, r.faults)
answer_once tells h before after R.StoreFault ask r = r.once
answer_once tells h before after R.NoMemory ask r = omega (arith, r.faults)

refused_once : (tells : Bool) (site : Site) (asked : Asked) (before left : State) (reason : Refusal) → IsRefused tells site asked before left reason
    → MeetsOnce before.faults left.faults
refused_once tells site asked before left reason (inl (why, same)) = once_same before left same
refused_once tells site asked before left reason (inr (ask, question, why)) = answer_once tells site.header before left reason ask why

same_faults : (a b : State) → b ≡ a → b.faults ≡ a.faults
same_faults a b same = ap (λ (s : State). s.faults) same

eased_quiet : (tells : Bool) (refusal : Refusal) (left after : State) → IsEased tells refusal left after → after.faults ≡ left.faults
eased_quiet tells R.BadHead left after e = same_faults left after e
eased_quiet tells R.HeadTooLarge left after e = same_faults left after e
eased_quiet tells R.HasBody left after e = same_faults left after e
eased_quiet tells R.NotGet left after e = same_faults left after e
eased_quiet tells (R.Target fault) left after e = same_faults left after e
eased_quiet tells (R.Plan fault) left after e = same_faults left after e
eased_quiet tells (R.NotPublished board) left after e = same_faults left after e
eased_quiet tells R.StoreFault left after e = same_faults left after e
eased_quiet tells R.NoMemory left after e = e.faults

pub reply_once : (tells : Bool) (site : Site) (mark : Mark) (asked : Asked) (last : Bool) (reply : Reply) → IsReply tells site mark asked last reply
    → MeetsOnce mark.state.faults reply.mark.state.faults
reply_once tells site mark asked last reply (inl r) =
    omega (arith, refused_once tells site asked mark.state r.left r.reason r.cause, eased_quiet tells r.refusal r.left reply.mark.state r.eased)
reply_once tells site mark asked last reply (inr g) = omega (arith, g.made.found.faults)

pub lost_once : (tells : Bool) (site : Site) (mark known : Mark) → IsLost tells site mark known → MeetsOnce mark.state.faults known.state.faults
lost_once tells site mark known lost =
    omega (arith, refused_once tells site lost.asked mark.state lost.left lost.reason lost.cause, eased_quiet tells R.NoMemory lost.left known.state lost.eased)

-- one at most for each reply
follows_once : (tells : Bool) (site : Site) (mark : Mark) (before : ℕ) (entries : List Entry) → Follows (IsReply tells site) mark before entries
    → (mark_after mark entries).state.faults ≤ mark.state.faults + length entries
follows_once tells site mark before [] follows = omega arith
follows_once tells site mark before (e ∷ entries) (gave, ends, last, follows) =
    omega (arith, reply_once tells site mark e.asked _ e.reply gave, follows_once tells site e.reply.mark (before + 1) entries follows)

known_still : (last known : Mark) → known ≡ last → known.state.faults ≤ last.state.faults + 0
known_still last known same = omega (arith, ap (λ (m : Mark). m.state.faults) same)

-- and one at most for a head without a reply
known_once : (tells : Bool) (site : Site) (last known : Mark) (end : LinkEnd) → KnownAs (IsLost tells site) last known end
    → known.state.faults ≤ last.state.faults + lost_heads end
known_once tells site last known E.Closed same = known_still last known same
known_once tells site last known (E.CutOff kept) same = known_still last known same
known_once tells site last known (E.LinkFault faults) same = known_still last known same
known_once tells site last known E.NoMemory (inl same) = omega (arith, ap (λ (m : Mark). m.state.faults) same)
known_once tells site last known E.NoMemory (inr lost) = lost_once tells site last known lost

-- a link was served by its session
pub is_served : {tells : Bool} {site : Site} {before after : State} {input wo wn : Option (List ℕ)} {ro rn : Option (List Reading)} {so sn : List Served} {end : LinkEnd}
    → (none seen : ℕ) → none ≡ 0
    → Session (IsReply tells site) (IsLost tells site) (mark_of before none) (mark_of after seen) input wo wn ro rn so sn end
    → IsServed tells site before after input wo wn ro rn so sn end
is_served {tells} {site} {before} {after} {input} {wo} {wn} {ro} {rn} {so} {sn} {end} none seen first session = record {
  seen = seen;
  session = subst (λ n. Session (IsReply tells site) (IsLost tells site) (mark_of before n) (mark_of after seen) input wo wn ro rn so sn end) first session;
  once = omega (
    arith,
    follows_once tells site (mark_of before none) 0 session.entries session.follows,
    known_once tells site (mark_after (mark_of before none) session.entries) (mark_of after seen) end session.marked,
    ap (λ (l : List Served). length l) session.noted,
    length-append so (map served_of session.entries),
    length-map session.entries served_of,
  );
}
