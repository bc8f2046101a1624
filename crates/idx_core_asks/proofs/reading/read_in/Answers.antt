use Rattle.std.proofs.Common.{◌≡◌, ◌<◌, length, refl, sym, arith}
use Rattle.idx_events.specs.Queries.{can_read}
use Rattle.idx_core_asks.proofs.LookLemmas.{put-back}
use Rattle.idx_core_asks.proofs.reading.read_in.Goals as goal

pub returns-in-Err-load : goal.returns-in-Err-load
returns-in-Err-load g c =
    let within : c.args.query < length c.args.asked.now.items = (let o = c.args.asked.now.ok.0 in let l = c.len.ensures in omega arith) in
    let back = put-back (can_read c.args.block) c.args.query c.args.asked.now.items c.index.result.now c.index_mut.result.now c.load.new.self within c.index.ensures (sym c.if-not-can_read.ensures)
    c.index_mut.ensures.value c.in-Err-load.ensures.refused in
    (back.0, back.1, refl)
