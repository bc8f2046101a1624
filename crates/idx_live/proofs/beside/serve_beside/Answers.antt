use Rattle.std.proofs.Common.{ℕ, ap, subst, sym, ◌∙◌}
use Rattle.idx_serve.specs.Visits.{link_tells}
use Rattle.idx_workers.specs.Jobs.{seat_in}
use Rattle.idx_workers.specs.Workers.{tells}
use Rattle.idx_host.specs.Host.{AreServedOut}
use Rattle.idx_live.proofs.SideLemmas.{served_out}
use Rattle.idx_live.proofs.beside.serve_beside.Goals as goal

pub returns-clause-served : goal.returns-clause-served
returns-clause-served g c =
    let tell = tells (link_tells g.D.Link.Link.incoming g.D.Link.Link.written g.D.Link.Link.readings g.D.Link.Link.faults) g.D.Door.told g.D.Door.faults g.R.Reader.faults g.R.Reader.reads in
    let made = c.new-serving.result in
    let served = served_out tell c.args.site.now made.workers c.args.doors.now.items c.give_back.new.doors.items c.args.readers.now.items c.run_sides-seat.new.readers.items c.run_sides-seat.result.0.1
    c.args.lock.now c.args.writer.seen (seat_in made.place) c.run_sides-seat.result.0.0 c.join.new.seat.seen.posts made.doors.items c.run_sides-seat.new.serving.doors.items
    (ap seat_in c.new-serving.ensures.place ∙ c.split-seat.ensures.new) (λ i. (c.new-serving.ensures.doors i).items) (sym c.give_back.ensures) c.requires.shape c.run_sides-seat.ensures.servers.served
    c.join.ensures.other_begins in
    subst (λ (n : ℕ). AreServedOut tell c.args.site.now c.args.writer.seen.capacity n c.args.doors.now.items c.give_back.new.doors.items c.args.readers.now.items c.run_sides-seat.new.readers.items
    c.args.writer.seen.posts c.join.new.seat.seen.posts c.run_sides-seat.result.0.1) c.new-serving.ensures.workers served
