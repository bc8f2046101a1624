use Rattle.std.proofs.Common.{◌≡◌, false, ◌∷◌, [], ◌++◌, Option, Some, refl, ap, subst, sym, ◌∙◌, arith}
use Rattle.std.specs.Option.{option_to_list, IsSome}
use Rattle.std.proofs.lemmas.Grind.{common_steps}
use Rattle.std.proofs.lemmas.List.Elements.{All-pop}
use Rattle.idx_lock.specs.Seats.{SeatValue}
use Rattle.idx_workers.specs.Jobs.{IsReady, seat_in}
use Rattle.idx_workers.specs.declared.job.Job.{Job}
use Rattle.idx_workers.proofs.MovingLemmas.{given_next, given_none}
use Rattle.idx_workers.proofs.moving.give_back.Goals as goal

pub loop-taken-init : goal.loop-taken-init
loop-taken-init g c = record {
  back = given_none c.args.seat.now c.args.jobs.items c.args.doors.now.items c.args.readers.now.items c.no_works-total.result c.requires.reader c.no_works-total.ensures;
  ready = c.requires.ready;
  left = grind (arith, common_steps);
  doors_room = c.requires.doors_room;
  readers_room = c.requires.readers_room;
}

pub unwrap-requires-in-loop-taken-2 : goal.unwrap-requires-in-loop-taken-2
unwrap-requires-in-loop-taken-2 g c =
    let ready = (All-pop (IsReady c.args.lock.now c.args.seat.now.seen.shape) c.loop-taken.jobs.items c.pop.new.self.items (Some c.unwrap-door.result) (c.pop.ensures.items ∙ ap (λ o. c.pop.new.self.items ++ option_to_list o) c.unwrap-door.ensures) c.loop-taken.invariant.ready).1 in
    subst IsSome (sym ready.is) refl

pub join-requires-clause-other : goal.join-requires-clause-other
join-requires-clause-other g c =
    let ready = (All-pop (IsReady c.args.lock.now c.args.seat.now.seen.shape) c.loop-taken.jobs.items c.pop.new.self.items (Some c.unwrap-door.result) (c.pop.ensures.items ∙ ap (λ o. c.pop.new.self.items ++ option_to_list o) c.unwrap-door.ensures) c.loop-taken.invariant.ready).1 in
    ap (λ (o : Option SeatValue). (seat_in o).lock) (sym c.unwrap-in-loop-taken-2.ensures) ∙ ready.of

pub loop-taken-preserved : goal.loop-taken-preserved
loop-taken-preserved g c =
    let l = c.loop-taken in
    let job : Job g.row.S.Denot g.row.D.Denot g.row.R.Denot = c.unwrap-door.result in
    let popped : l.jobs.items ≡ c.pop.new.self.items ++ job ∷ [] = c.pop.ensures.items ∙ ap (λ o. c.pop.new.self.items ++ option_to_list o) c.unwrap-door.ensures in
    let both = All-pop (IsReady c.args.lock.now c.args.seat.now.seen.shape) l.jobs.items c.pop.new.self.items (Some job) popped l.invariant.ready in
    let doors : c.insert.new.self.items ≡ job.door ∷ l.doors.items = grind (arith, common_steps) in
    let readers : c.insert-in-loop-taken.new.self.items ≡ job.reader ∷ l.readers.items = grind (arith, common_steps) in
    let reader : c.unwrap-in-loop-taken-2.result.writer ≡ false = ap (λ (o : Option SeatValue). (seat_in o).writer) (sym c.unwrap-in-loop-taken-2.ensures) ∙ both.1.reader in
    let next = given_next l.invariant.back job c.unwrap-in-loop-taken-2.result popped c.unwrap-in-loop-taken-2.ensures reader c.join.ensures c.with_first-total.ensures in
    record {
      back = rw (doors, readers) next;
      ready = both.0;
      left = grind (arith, common_steps);
      doors_room = grind (arith, common_steps);
      readers_room = grind (arith, common_steps);
    }
