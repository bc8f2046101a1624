use Rattle.std.proofs.Common.{◌≡◌, ◌∙◌, ap, length, min, rules, subst}
use Rattle.idx_words.specs.ServeValue.{ServeValue}
use Rattle.idx_host.specs.Host.{Hosted}
use Rattle.idx_commands.specs.SiteName.{site_name}
use Rattle.idx_commands.specs.Seen.{bay_seen, doors_seen, readers_seen, sink_seen}
use Rattle.idx_commands.specs.ServeRun.{tells_of}
use Rattle.idx_commands.proofs.ServeLemmas.{means_of_end}
use Rattle.idx_commands.proofs.serve.serve.Goals as goal

pub returns-in-Ok-clause-means : goal.returns-in-Ok-clause-means
returns-in-Ok-clause-means g c =
    let bay = bay_seen g.B.Bay.header g.B.Bay.files g.B.Bay.begun g.B.Bay.changes g.B.Bay.failed g.B.Bay.faults c.args.bay.now c.host.new.bay in
    let readers = readers_seen g.R.Reader.faults g.R.Reader.reads g.R.Reader.asked c.args.readers.now.items c.host.new.readers.items in
    let sink = sink_seen g.K.Sink.contents g.K.Sink.faults c.args.out.now c.conclude.new.out in
    let doors = doors_seen g.D.Door.told g.D.Door.faults g.D.Link.Link.incoming g.D.Link.Link.written g.D.Link.Link.readings g.D.Link.Link.faults c.args.doors.now.items c.host.new.doors.items in
    let d : c.len.result ≡ length c.args.doors.now.items = search rules in
    let r : c.len-2.result ≡ length c.args.readers.now.items = search rules in
    let many : c.workers_for-workers.result ≡ min c.args.words.now.workers (min (length c.args.doors.now.items) (length c.args.readers.now.items)) =
    c.workers_for-workers.ensures.number ∙ (λ j. min c.args.words.now.workers (min (d j) (r j))) in
    let kept = subst (λ cache. Hosted (tells_of readers doors) c.site_name.result.now (g.B.Bay.header c.args.bay.now) (g.B.Bay.files c.args.bay.now) cache c.workers_for-workers.result c.args.doors.now.items c.host.new.doors.items c.args.readers.now.items c.host.new.readers.items c.in-Ok.summary)
    (ap (λ (w : ServeValue). w.cache) c.words.view_is) c.in-Ok.ensures.hosted in
    let named = subst (λ name. Hosted (tells_of readers doors) name (g.B.Bay.header c.args.bay.now) (g.B.Bay.files c.args.bay.now) c.args.words.now.cache c.workers_for-workers.result c.args.doors.now.items c.host.new.doors.items c.args.readers.now.items c.host.new.readers.items c.in-Ok.summary)
    (c.site_name.ensures ∙ ap (λ (w : ServeValue). site_name w.dataset) c.words.view_is) kept in
    means_of_end c.args.words.now bay readers sink doors c.in-Ok.summary
    (subst (λ n. Hosted (tells_of readers doors) (site_name c.args.words.now.dataset) (g.B.Bay.header c.args.bay.now) (g.B.Bay.files c.args.bay.now) c.args.words.now.cache n c.args.doors.now.items c.host.new.doors.items c.args.readers.now.items c.host.new.readers.items c.in-Ok.summary)
    many named)
    c.conclude.result c.conclude.ensures.done c.conclude.ensures.sink_fault c.conclude.ensures.door_fault c.conclude.ensures.no_memory c.conclude.ensures.only
