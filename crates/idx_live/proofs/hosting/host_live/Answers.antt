use Rattle.std.proofs.Common.{arith, length, List, map, subst, ℕ}
use Rattle.idx_gather.specs.Gather.{NoneFalls}
use Rattle.idx_gather.proofs.BatchLemmas.{some_rank}
use Rattle.idx_serve.specs.Visits.{link_tells}
use Rattle.idx_workers.specs.Workers.{tells}
use Rattle.idx_live.proofs.LiveLemmas.{live_of}
use Rattle.idx_live.proofs.hosting.host_live.Goals as goal

pub returns-clause-live : goal.returns-clause-live
returns-clause-live g c =
    let bay = g.B.Bay in
    let raw = g.V.Source in
    let tell = tells (link_tells g.D.Link.Link.incoming g.D.Link.Link.written g.D.Link.Link.readings g.D.Link.Link.faults) g.D.Door.told g.D.Door.faults g.R.Reader.faults g.R.Reader.reads in
    live_of tell raw.contents raw.asked raw.faults bay.header bay.files bay.begun bay.changes bay.failed bay.faults c.args.name.now c.args.time c.args.cache c.args.workers
    c.args.raws.now.items c.open.new.raws.items c.serve_beside-writer.new.raws.items c.args.bay.now c.open.new.bay c.serve_beside-writer.new.bay
    c.args.doors.now.items c.serve_beside-writer.new.doors.items c.args.readers.now.items c.open.new.readers.items c.serve_beside-writer.new.readers.items
    c.in_ok-site.field-0.site c.in_ok-site.field-0.revision c.in_ok-site.field-0.lock c.in_ok-site.field-0.writer c.serve_beside-writer.result.0 _ c.serve_beside-writer.result.1
    c.in_ok-site.ensures.opened c.in_ok-site.ensures.measures c.in_ok-site.ensures.files c.in_ok-site.ensures.failed c.in_ok-site.ensures.quiet
    (some_rank c.in_ok-site.field-0.site.header (length c.args.raws.now.items) c.axes-axes.ensures.valid (let some = c.requires.some_raws in omega (arith, some, c.args.raws.now.ok)))
    c.serve_beside-writer.ensures.served c.serve_beside-writer.ensures.written

pub returns-clause-raw_count : goal.returns-clause-raw_count
returns-clause-raw_count g c =
    subst (λ (counts : List ℕ). NoneFalls counts (map g.V.Source.faults c.serve_beside-writer.new.raws.items)) (c.in_ok-site.ensures.measures.quiet (λ e. cc))
    c.serve_beside-writer.ensures.written.raw_count
