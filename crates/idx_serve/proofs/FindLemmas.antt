-- What an answer out of a hall, or its refusal, says of the turn and the reader.
use Rattle.std.specs.Prelude.{Result, Ok, Err}
use Rattle.std.proofs.Common.{inl, inr, ◌≡◌, ℕ, ◌+◌, ◌*◌, ◌%◌, ◌^◌, ◌≤◌, Bool, List, [], ◌∷◌, ◌++◌, length, drop, refl, sym, ap, ◌∙◌, arith, append-nil, Some, None, Option, IfSome}
use Rattle.std.specs.Prelude.{sum_by}
use Rattle.std.proofs.lemmas.List.{length-drop}
use Rattle.idx_outside.specs.Cause.{MeetsOnce}
use Rattle.idx_header.specs.Header.{HeaderValue}
use Rattle.idx_hall.specs.Hall.{HallValue}
use Rattle.idx_hall.specs.Posts.{Post, bytes_at}
use Rattle.idx_turn.specs.Stands.{MadeHolds}
use Rattle.idx_plan.specs.Answer.{answer_of}
use Rattle.idx_plan.specs.Needed.{needed, plan_fault}
use Rattle.idx_plan.specs.Rounds.{rounds}
use Rattle.idx_plan.specs.declared.ask.Ask.{Ask}
use Rattle.idx_plan.specs.declared.plan_fault.PlanFault.{PlanFault}
use Rattle.idx_query.specs.Answered.{IsAnswered, IsDone, IsHeld, IsHeldAtFault, IsLeft}
use Rattle.idx_query.specs.Fault.{IsCaused, IsUnread}
use Rattle.idx_query.specs.Reads.{ReadsAtMost}
use Rattle.idx_query.specs.Rounds.{holds_by}
use Rattle.idx_query.specs.declared.query_fault.QueryFault.{QueryFault}
use Rattle.idx_query.specs.declared.query_fault.QueryFault.TheVariants as Q
use Rattle.idx_query.specs.declared.report.Report.{Report}
use Rattle.idx_query.proofs.AnsweredLemmas.{few-held}
use Rattle.idx_session.specs.Entry.{State}
use Rattle.idx_serve.specs.Refusals.{refusal_of}
use Rattle.idx_serve.specs.Later.{Grew}
use Rattle.idx_serve.specs.States.{HeldAtMost, OnHall, IsAnswerRefused, IsFound, IsMemoryless, MayLeave}

drop_front : (front rest : List ℕ) → drop (length front) (front ++ rest) ≡ rest
drop_front [] rest = refl
drop_front (x ∷ front) rest = drop_front front rest

-- what stands behind room is the answer alone
pub answered_behind : (h : HeaderValue) (ask : Ask) (seen_before seen_after : List Post) (front after : List ℕ) (room : ℕ) (report : Report) → length front ≡ room
    → IsAnswered h ask seen_before seen_after front after report → IsAnswered h ask seen_before seen_after [] (drop room after) report
answered_behind h ask seen_before seen_after front after room report long a = record {
  board = a.board;
  since = a.since;
  until = a.until;
  post = a.post;
  is = a.is;
  answer = by_stored a.post.stored a.answer;
  front = refl;
  many = omega (arith, length-drop room after, a.many, long);
  all = a.all;
}
  where
    by_stored : (o : Option (List (List (List ℕ)))) → IfSome o (λ stored. after ≡ front ++ answer_of h ask (bytes_at stored)) → IfSome o (λ stored. drop room after ≡ answer_of h ask (bytes_at stored))
    by_stored None known = tt
    by_stored (Some stored) known = ap (drop room) known ∙ ap (λ n. drop n (front ++ answer_of h ask (bytes_at stored))) (sym long) ∙ drop_front front (answer_of h ask (bytes_at stored))

-- what is known of a question without an answer
pub record Known (tells : Bool) (h : HeaderValue) (ask : Ask) (before after : State) (fault : QueryFault) : Type 0 where
  pub caused : IsCaused h ask after.posts before.faults after.faults fault
  pub once : MeetsOnce before.faults after.faults
  pub grew : Grew before after
  pub few : ReadsAtMost before.reads after.reads (length (needed h ask))
  pub unread : IsUnread fault → after.reads ≡ before.reads
  pub still : (f : PlanFault) → plan_fault h ask ≡ Some f → after ≡ before
  pub held : IsHeldAtFault h ask before.holds after.holds fault
  pub left : OnHall tells before (λ hall. IsLeft h ask hall after.hall before.holds after.holds fault)

left_memory : (h : HeaderValue) (ask : Ask) (hall after : Option HallValue) (held_before held_after : ℕ) → IfSome hall (λ b. IsLeft h ask b after held_before held_after Q.NoMemory)
    → IfSome hall (λ b. MayLeave h ask b after held_before held_after)
left_memory h ask None after held_before held_after left = tt
left_memory h ask (Some b) after held_before held_after left = inl left

left_unpublished : (h : HeaderValue) (ask : Ask) (board : ℕ) (hall after : Option HallValue) (held_before held_after : ℕ)
    → IfSome hall (λ b. IsLeft h ask b after held_before held_after (Q.NotPublished board)) → IfSome hall (λ b. after ≡ Some b)
left_unpublished h ask board None after held_before held_after left = tt
left_unpublished h ask board (Some b) after held_before held_after left = left.0

few_holds : (h : HeaderValue) (ask : Ask) (before after : ℕ) → (n : ℕ) × (n ≤ 2 * length (rounds h ask)) × MadeHolds before after n → HeldAtMost h ask before after
few_holds h ask before after held = record { holds = held.0; few = held.1; made = held.2 }

error_or : {T : Type 0} → QueryFault → Result T QueryFault → QueryFault
error_or other (Ok x) = other
error_or other (Err e) = e

-- one answer has one error
pub same_error : {T : Type 0} (r : Result T QueryFault) (a b : QueryFault) → r ≡ Err a → r ≡ Err b → a ≡ b
unfolding error_or
same_error r a b one other = sym (ap (error_or a) one) ∙ ap (error_or a) other

-- it is refused for its cause
pub refused_by : (tells : Bool) (h : HeaderValue) (ask : Ask) (before after : State) (fault : QueryFault) → Known tells h ask before after fault
    → IsAnswerRefused tells h before after (refusal_of fault) ask
refused_by tells h ask before after (Q.Plan f) k = (k.caused.0, k.caused.1, k.still f k.caused.0)
refused_by tells h ask before after (Q.NotPublished board) k = record {
  plan = k.caused.0;
  grew = k.grew;
  lacks = k.caused.1;
  board = k.caused.2;
  faults = k.caused.3;
  reads = k.unread tt;
  held = k.held;
  hall = λ told. left_unpublished h ask board before.hall after.hall before.holds after.holds (k.left told);
}
refused_by tells h ask before after (Q.StoreFault faults) k = record {
  plan = k.caused.0;
  grew = k.grew;
  post = k.caused.1;
  faults = k.caused.3;
  once = k.once;
  reads = k.few;
  held = few_holds h ask before.holds after.holds k.held;
  hall = k.left;
}
refused_by tells h ask before after Q.NoMemory k = record {
  grew = k.grew;
  faults = k.caused;
  reads = k.few;
  held = few_holds h ask before.holds after.holds k.held;
  hall = λ told. left_memory h ask before.hall after.hall before.holds after.holds (k.left told);
}

left_done : (h : HeaderValue) (ask : Ask) (report : Report) (hall after : Option HallValue) (held_before held_after : ℕ) → IfSome hall (λ b. IsDone h ask b after held_before held_after report)
    → IfSome hall (λ b. MayLeave h ask b after held_before held_after)
left_done h ask report None after held_before held_after done = tt
left_done h ask report (Some b) after held_before held_after done = inr (report, done)

held_done : (h : HeaderValue) (ask : Ask) (report : Report) (before after : ℕ) → IsHeld h ask before after report → HeldAtMost h ask before after
held_done h ask report before after held = record {
  holds = sum_by holds_by held.fetched;
  few = omega (arith, few-held held.fetched, held.each);
  made = held.held;
}

-- an answer that could not be written down
pub unwritten : (tells : Bool) (h : HeaderValue) (ask : Ask) (before after : State) (samples : List ℕ) (report : Report) → IsFound tells h ask before after samples report
    → IsMemoryless tells h before after ask
unwritten tells h ask before after samples report found = record {
  grew = found.grew;
  faults = found.faults;
  reads = record { reads = report.reads; few = omega (arith, found.answer.all); made = found.reads };
  held = held_done h ask report before.holds after.holds found.held;
  hall = λ told. left_done h ask report before.hall after.hall before.holds after.holds (found.hall told);
}

left_same : (h : HeaderValue) (ask : Ask) (hall : Option HallValue) (held : ℕ) → MadeHolds held held 0 → IfSome hall (λ b. MayLeave h ask b hall held held)
left_same h ask None held none = tt
left_same h ask (Some b) held none = inl (inl (refl, inl none))

-- there was no memory before anything was done
pub memoryless_same : (tells : Bool) (h : HeaderValue) (ask : Ask) (s : State) → IsMemoryless tells h s s ask
memoryless_same tells h ask s = record {
  grew = record { may_add = refl; begins = record { rest = []; is = sym (append-nil s.posts) }; same = λ _. refl };
  faults = refl;
  reads = record { reads = 0; few = omega arith; made = none s.reads };
  held = record { holds = 0; few = omega arith; made = none s.holds };
  hall = λ told. left_same h ask s.hall s.holds (none s.holds);
}
  where
    none : (n : ℕ) → MadeHolds n n 0
    none n = ap (λ m. m % 2 ^ 64) {x = n} {y = n + 0} (omega arith)
