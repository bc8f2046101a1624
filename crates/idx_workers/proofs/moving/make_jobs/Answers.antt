use Rattle.std.proofs.Common.{◌≡◌, ◌<◌, false, List, ◌∷◌, [], ◌++◌, Some, length, ap, ◌∙◌, arith}
use Rattle.std.proofs.lemmas.Grind.{common_steps}
use Rattle.std.proofs.lemmas.List.Elements.{All-push, All-same}
use Rattle.idx_workers.specs.Jobs.{IsBegun, doors_of, readers_of}
use Rattle.idx_workers.specs.declared.job.Job.{Job}
use Rattle.idx_workers.proofs.MovingLemmas.{first_out, moved, same_seat}
use Rattle.idx_workers.proofs.moving.make_jobs.Goals as goal

pub loop-taken-preserved : goal.loop-taken-preserved
loop-taken-preserved g c =
    let l = c.loop-taken in
    let job : Job g.row.S.Denot g.row.D.Denot g.row.R.Denot = record { door = c.remove.result; reader = c.remove-in-loop-taken.result; place = Some c.split.result; summary = c.nothing_served.result } in
    let items : c.push.new.self.items ≡ l.jobs.items ++ job ∷ [] = grind (arith, common_steps) in
    let seat : c.split.result ≡ c.args.seat.now = c.split.ensures.new ∙ ap (λ s. record { lock = c.args.lock.now; seen = s.seen; writer = false }) l.invariant.seat ∙ same_seat c.args.seat.now c.args.lock.now c.requires.lock c.requires.reader in
    let some_doors : 0 < length l.doors.items = grind (arith, common_steps) in
    let some_readers : 0 < length l.readers.items = grind (arith, common_steps) in
    record {
      seat = c.split.ensures.old ∙ l.invariant.seat;
      number = grind (arith, common_steps);
      begun = All-same (IsBegun c.args.seat.now) _ _ items (All-push (IsBegun c.args.seat.now) l.jobs.items job l.invariant.begun (ap Some seat));
      doors = ap (λ (jobs : List (Job g.row.S.Denot g.row.D.Denot g.row.R.Denot)). doors_of jobs ++ c.remove.new.self.items) items
          ∙ moved (λ (j : Job g.row.S.Denot g.row.D.Denot g.row.R.Denot). j.door) l.jobs.items job l.doors.items c.remove.new.self.items _
          (first_out l.doors.items c.remove.new.self.items c.remove.result some_doors c.remove.ensures.value c.remove.ensures.items) l.invariant.doors;
      readers = ap (λ (jobs : List (Job g.row.S.Denot g.row.D.Denot g.row.R.Denot)). readers_of jobs ++ c.remove-in-loop-taken.new.self.items) items
          ∙ moved (λ (j : Job g.row.S.Denot g.row.D.Denot g.row.R.Denot). j.reader) l.jobs.items job l.readers.items c.remove-in-loop-taken.new.self.items _
          (first_out l.readers.items c.remove-in-loop-taken.new.self.items c.remove-in-loop-taken.result some_readers c.remove-in-loop-taken.ensures.value c.remove-in-loop-taken.ensures.items) l.invariant.readers;
      doors_left = grind (arith, common_steps);
      readers_left = grind (arith, common_steps);
      doors_room = grind (arith, common_steps);
      readers_room = grind (arith, common_steps);
      room = grind (arith, common_steps);
    }
