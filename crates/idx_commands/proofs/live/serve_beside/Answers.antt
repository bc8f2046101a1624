use Rattle.std.proofs.Common.{◌≡◌, ◌∙◌, Err, ap, inl, inr, length, min, refl, rules, subst}
use Rattle.idx_words.specs.ServeValue.{IngestValue, ServeValue}
use Rattle.idx_extract.specs.Extract.{Under}
use Rattle.idx_live.specs.Live.{IsCause, IsLive}
use Rattle.idx_commands.specs.Known.{known}
use Rattle.idx_commands.specs.SiteName.{site_name}
use Rattle.idx_commands.specs.Seen.{bay_seen, doors_seen, raws_seen, reader_after, reader_before, readers_seen, sink_seen}
use Rattle.idx_commands.specs.ServeRun.{tells_of}
use Rattle.idx_commands.specs.LiveRun.{cause_of_live}
use Rattle.idx_commands.proofs.LiveLemmas.{no_starved_refusal, stops_of}
use Rattle.idx_commands.proofs.OnceLemmas.{more_workers}
use Rattle.idx_commands.proofs.live.serve_beside.Goals as goal

pub conclude-requires : goal.conclude-requires
conclude-requires g c = no_starved_refusal c.in-Ok.ensures.live.1.1

pub returns-in-Ok-clause-means : goal.returns-in-Ok-clause-means
returns-in-Ok-clause-means g c =
    let raws = raws_seen g.V.Source.contents g.V.Source.faults g.V.Source.asked c.args.raws.now.items c.host_live.new.raws.items in
    let bay = bay_seen g.B.Bay.header g.B.Bay.files g.B.Bay.begun g.B.Bay.changes g.B.Bay.failed g.B.Bay.faults c.args.bay.now c.host_live.new.bay in
    let readers = readers_seen g.R.Reader.faults g.R.Reader.reads g.R.Reader.asked c.args.readers.now.items c.host_live.new.readers.items in
    let sink = sink_seen g.K.Sink.contents g.K.Sink.faults c.args.out.now c.conclude.new.out in
    let doors = doors_seen g.D.Door.told g.D.Door.faults g.D.Link.Link.incoming g.D.Link.Link.written g.D.Link.Link.readings g.D.Link.Link.faults c.args.doors.now.items c.host_live.new.doors.items in
    let d : c.len.result ≡ length c.args.doors.now.items = search rules in
    let r : c.len-2.result ≡ length c.args.readers.now.items = search rules in
    let many : c.workers_for-workers.result ≡ min c.args.words.now.workers (min (length c.args.doors.now.items) (length c.args.readers.now.items)) =
    c.workers_for-workers.ensures.number ∙ (λ j. min c.args.words.now.workers (min (d j) (r j))) in
    let kept = subst (λ cache. Under (g.B.Bay.header c.args.bay.now) (λ h. IsLive (tells_of readers doors) h c.site_name.result.now c.ingest.inside.step (known raws bay) cache c.workers_for-workers.result
    c.args.raws.now.items c.host_live.new.raws.items c.args.doors.now.items c.host_live.new.doors.items c.args.readers.now.items c.host_live.new.readers.items c.in-Ok.live))
    (ap (λ (w : ServeValue). w.cache) c.words.view_is) c.in-Ok.ensures.live in
    let named = subst (λ name. Under (g.B.Bay.header c.args.bay.now) (λ h. IsLive (tells_of readers doors) h name c.ingest.inside.step (known raws bay) c.args.words.now.cache c.workers_for-workers.result
    c.args.raws.now.items c.host_live.new.raws.items c.args.doors.now.items c.host_live.new.doors.items c.args.readers.now.items c.host_live.new.readers.items c.in-Ok.live))
    (c.site_name.ensures ∙ ap (λ (w : ServeValue). site_name w.dataset) c.words.view_is) kept in
    let timed = subst (λ step. Under (g.B.Bay.header c.args.bay.now) (λ h. IsLive (tells_of readers doors) h (site_name c.args.words.now.dataset) step (known raws bay) c.args.words.now.cache c.workers_for-workers.result
    c.args.raws.now.items c.host_live.new.raws.items c.args.doors.now.items c.host_live.new.doors.items c.args.readers.now.items c.host_live.new.readers.items c.in-Ok.live))
    (ap (λ (i : IngestValue). i.step) c.ingest.view_is) named in
    inr (
      c.in-Ok.live,
      subst (λ n. Under (g.B.Bay.header c.args.bay.now) (λ h. IsLive (tells_of readers doors) h (site_name c.args.words.now.dataset) c.args.ingest.now.step (known raws bay) c.args.words.now.cache n
          c.args.raws.now.items c.host_live.new.raws.items c.args.doors.now.items c.host_live.new.doors.items c.args.readers.now.items c.host_live.new.readers.items c.in-Ok.live))
          many timed,
      c.conclude.ensures.says,
    )

pub returns-in-Ok-clause-bay_once : goal.returns-in-Ok-clause-bay_once
returns-in-Ok-clause-bay_once g c = more_workers _ _ 256 _ _ c.requires.few c.host_live.ensures.bay_once

pub returns-in-Err-clause-bay_once : goal.returns-in-Err-clause-bay_once
returns-in-Err-clause-bay_once g c = more_workers _ _ 256 _ _ c.requires.few c.host_live.ensures.bay_once

pub returns-in-Err-clause-means : goal.returns-in-Err-clause-means
returns-in-Err-clause-means g c =
    let raws = raws_seen g.V.Source.contents g.V.Source.faults g.V.Source.asked c.args.raws.now.items c.host_live.new.raws.items in
    let bay = bay_seen g.B.Bay.header g.B.Bay.files g.B.Bay.begun g.B.Bay.changes g.B.Bay.failed g.B.Bay.faults c.args.bay.now c.host_live.new.bay in
    let readers = readers_seen g.R.Reader.faults g.R.Reader.reads g.R.Reader.asked c.args.readers.now.items c.host_live.new.readers.items in
    let sink = sink_seen g.K.Sink.contents g.K.Sink.faults c.args.out.now c.args.out.now in
    let doors = doors_seen g.D.Door.told g.D.Door.faults g.D.Link.Link.incoming g.D.Link.Link.written g.D.Link.Link.readings g.D.Link.Link.faults c.args.doors.now.items c.host_live.new.doors.items in
    let said = c.in-Err.ensures in
    let caused = subst (λ step. IsCause step (known raws bay) (reader_before readers) (reader_after readers) c.in-Err.fault) (ap (λ (i : IngestValue). i.step) c.ingest.view_is) said.cause in
    inl (
      c.in-Err.fault,
      (
        c.cause_of.ensures ∙ ap (λ (i : IngestValue). cause_of_live i.step c.in-Err.fault) c.ingest.view_is,
        stops_of c.args.words.now c.args.ingest.now raws bay readers sink doors g.B.Bay.admits (Err c.in-Err.fault) c.in-Err.fault refl caused said.doors said.readers said.raws said.bay refl,
      ),
    )
