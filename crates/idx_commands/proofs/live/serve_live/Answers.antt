use Rattle.std.proofs.Common.{◌≡◌, ◌<◌, ◌++◌, arith, length, min, refl, rules}
use Rattle.std.proofs.lemmas.Grind.{common_steps}
use Rattle.idx_convert.proofs.FirstLemmas.{as_many, first_alike}
use Rattle.idx_commands.specs.LiveRun.{Uses}
use Rattle.idx_commands.specs.Seen.{bay_seen, doors_seen, raws_seen, readers_seen, sink_seen}
use Rattle.idx_commands.proofs.LiveLemmas.{live_ends, none_began}
use Rattle.idx_commands.proofs.live.serve_live.Goals as goal

pub returns-in_default : goal.returns-in_default
returns-in_default g c =
    let raws = raws_seen g.V.Source.contents g.V.Source.faults g.V.Source.asked c.args.raws.now.items c.args.raws.now.items in
    let bay = bay_seen g.B.Bay.header g.B.Bay.files g.B.Bay.begun g.B.Bay.changes g.B.Bay.failed g.B.Bay.faults c.args.bay.now c.args.bay.now in
    let readers = readers_seen g.R.Reader.faults g.R.Reader.reads g.R.Reader.asked c.args.readers.now.items c.args.readers.now.items in
    let sink = sink_seen g.K.Sink.contents g.K.Sink.faults c.args.out.now c.args.out.now in
    let doors = doors_seen g.D.Door.told g.D.Door.faults g.D.Link.Link.incoming g.D.Link.Link.written g.D.Link.Link.readings g.D.Link.Link.faults c.args.doors.now.items c.args.doors.now.items in
    let a_raw : 0 < length c.args.raws.now.items = search rules in
    let a_reader : 0 < length c.args.readers.now.items = search rules in
    let a_door : 0 < length c.args.doors.now.items = search rules in
    none_began c.args.words.now c.args.ingest.now raws bay readers sink doors a_raw a_reader a_door c.requires.sound.some_workers refl refl refl refl refl

pub serve_beside-cause-requires-clause-alike : goal.serve_beside-cause-requires-clause-alike
serve_beside-cause-requires-clause-alike g c κs within =
    let was : c.args.raws.now.items ≡ c.move_last.new.from.items ++ c.move_last.new.to.items = grind (arith, common_steps) in
    let some : 0 < length c.move_last.new.from.items = grind (arith, common_steps) in
    first_alike g.V.Source.contents c.args.raws.now.items c.move_last.new.from.items c.move_last.new.to.items was some c.requires.alike

pub returns : goal.returns
returns g c =
    let first = c.move_last.new.from.items in
    let after = c.serve_beside-cause.new.raws.items in
    let rest = c.move_last.new.to.items in
    let was : c.args.raws.now.items ≡ c.move_last.new.from.items ++ c.move_last.new.to.items = grind (arith, common_steps) in
    let is : c.replace.new.dest.items ≡ c.serve_beside-cause.new.raws.items ++ c.move_last.new.to.items = grind (arith, common_steps) in
    let some : 0 < length c.move_last.new.from.items = grind (arith, common_steps) in
    let many : length c.move_last.new.from.items ≡ min 256 (length c.args.raws.now.items) = grind (arith, common_steps) in
    let a_reader : 0 < length c.args.readers.now.items = search rules in
    let a_door : 0 < length c.args.doors.now.items = search rules in
    let said = c.serve_beside-cause.ensures in
    let raws = raws_seen g.V.Source.contents g.V.Source.faults g.V.Source.asked c.args.raws.now.items c.replace.new.dest.items in
    let bay = bay_seen g.B.Bay.header g.B.Bay.files g.B.Bay.begun g.B.Bay.changes g.B.Bay.failed g.B.Bay.faults c.args.bay.now c.serve_beside-cause.new.bay in
    let readers = readers_seen g.R.Reader.faults g.R.Reader.reads g.R.Reader.asked c.args.readers.now.items c.serve_beside-cause.new.readers.items in
    let sink = sink_seen g.K.Sink.contents g.K.Sink.faults c.args.out.now c.serve_beside-cause.new.out in
    let doors = doors_seen g.D.Door.told g.D.Door.faults g.D.Link.Link.incoming g.D.Link.Link.written g.D.Link.Link.readings g.D.Link.Link.faults c.args.doors.now.items c.serve_beside-cause.new.doors.items in
    let uses : Uses raws first after rest = record { was = was; is = is; number = as_many g.V.Source.contents first after said.same; many = many } in
    live_ends c.args.words.now c.args.ingest.now raws bay readers sink doors first after rest uses some a_reader a_door c.requires.sound.some_workers
    c.serve_beside-cause.result said.means said.sink_answered said.same said.raw_count said.raws_once said.header said.bay_count said.bay_once said.sink_count said.sink_once
