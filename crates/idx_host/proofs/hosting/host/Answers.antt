use Rattle.idx_serve.specs.Visits.{link_tells}
use Rattle.idx_workers.specs.Workers.{tells}
use Rattle.idx_host.proofs.HostLemmas.{hosted_of}
use Rattle.idx_host.proofs.hosting.host.Goals as goal

pub returns-clause-hosted : goal.returns-clause-hosted
returns-clause-hosted g c =
    let said = c.in-Ok.ensures in
    let tell = tells (link_tells g.D.Link.Link.incoming g.D.Link.Link.written g.D.Link.Link.readings g.D.Link.Link.faults) g.D.Door.told g.D.Door.faults g.R.Reader.faults g.R.Reader.reads in
    hosted_of tell c.args.cache c.args.workers c.args.doors.now.items c.serve_hall.new.doors.items c.args.readers.now.items c.serve_hall.new.readers.items
    c.in-Ok.opened.0 c.args.name.now (g.B.Bay.header c.args.bay.now) (g.B.Bay.files c.args.bay.now) c.open_site.new.readers.items c.in-Ok.opened.1.cache.cap c.in-Ok.opened.1.board
    c.serve_hall.result said.name said.text said.sound said.board said.loaded said.capacity c.serve_hall.ensures.served
