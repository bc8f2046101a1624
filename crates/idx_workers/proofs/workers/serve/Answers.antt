use Rattle.std.proofs.Common.{◌≡◌, length, inl, subst, arith}
use Rattle.std.proofs.lemmas.Grind.{common_steps}
use Rattle.idx_lock.specs.Seats.{SeatValue}
use Rattle.idx_serve.specs.Visits.{link_tells}
use Rattle.idx_workers.specs.Jobs.{works_of}
use Rattle.idx_workers.specs.Workers.{IsBack, tells}
use Rattle.idx_workers.proofs.WorkLemmas.{are_works}
use Rattle.idx_workers.proofs.workers.serve.Goals as goal

pub returns-in-Ok : goal.returns-in-Ok
returns-in-Ok g c =
    let number : length c.in-Ok.jobs.items ≡ c.args.workers = grind (arith, common_steps) in
    let made = are_works (tells (link_tells g.D.Link.Link.incoming g.D.Link.Link.written g.D.Link.Link.readings g.D.Link.Link.faults) g.D.Door.told g.D.Door.faults g.R.Reader.faults g.R.Reader.reads)
    c.args.site.now c.args.workers c.args.seat c.in-Ok.jobs.items c.run_all.new.jobs.items c.make_jobs.new.doors.items c.make_jobs.new.readers.items number c.in-Ok.ensures.begun c.run_all.ensures in
    record {
      served = inl (record {
        works = works_of c.run_all.new.jobs.items;
        made = rw (c.give_back-total.ensures.doors, c.give_back-total.ensures.readers, ← c.in-Ok.ensures.doors, ← c.in-Ok.ensures.readers) made;
        sums = c.give_back-total.ensures.total;
        returns = subst (λ (s : SeatValue). IsBack s (works_of c.run_all.new.jobs.items) c.give_back-total.new.seat) c.in-Ok.ensures.seat c.give_back-total.ensures.seat;
      });
    }
