use Rattle.std.proofs.Common.{◌<◌, length, rules}
use Rattle.idx_commands.specs.Seen.{bay_seen, doors_seen, readers_seen, sink_seen}
use Rattle.idx_commands.proofs.ServeLemmas.{serve_ends}
use Rattle.idx_commands.proofs.serve.serve_words.Goals as goal

pub returns : goal.returns
returns g c =
    let bay = bay_seen g.B.Bay.header g.B.Bay.files g.B.Bay.begun g.B.Bay.changes g.B.Bay.failed g.B.Bay.faults c.args.bay.now c.serve.new.bay in
    let readers = readers_seen g.R.Reader.faults g.R.Reader.reads g.R.Reader.asked c.args.readers.now.items c.serve.new.readers.items in
    let sink = sink_seen g.K.Sink.contents g.K.Sink.faults c.args.out.now c.serve.new.out in
    let doors = doors_seen g.D.Door.told g.D.Door.faults g.D.Link.Link.incoming g.D.Link.Link.written g.D.Link.Link.readings g.D.Link.Link.faults c.args.doors.now.items c.serve.new.doors.items in
    let a_reader : 0 < length c.args.readers.now.items = search rules in
    let a_door : 0 < length c.args.doors.now.items = search rules in
    let said = c.serve.ensures in
    serve_ends c.args.words.now bay readers sink doors a_reader a_door c.requires.sound.some_workers c.serve.result said.means
    said.bay_answered said.sink_answered said.unfailed said.header said.files said.begun said.changes said.bay_count said.bay_once said.sink_count said.sink_once
