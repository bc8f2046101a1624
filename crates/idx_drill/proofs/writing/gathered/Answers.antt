use Rattle.std.proofs.Common.{◌<◌, length, ap, Some, ◌∙◌, arith}
use Rattle.idx_drill.proofs.WritingLemmas.{alike, edition-is, no-raw-fault, no-wrong-size, told-at, written-are}
use Rattle.idx_drill.proofs.writing.gathered.Goals as goal

pub gather-requires-clause-alike : goal.gather-requires-clause-alike
gather-requires-clause-alike g c κs within = alike c.args.volume.now c.in_ok-raws.raws.items c.in_ok-raws.ensures.bytes

pub returns-in-Ok-clause-files : goal.returns-in-Ok-clause-files
returns-in-Ok-clause-files g c =
    let some : 0 < length c.in_ok-raws.raws.items = omega (arith, c.in_ok-raws.ensures.number, c.in_ok-raws.raws.ok.0) in
    written-are c.args.number c.args.header.now _ c.args.bay.now.files c.gather.new.bay.files c.requires.header
    (told-at c.args.volume.now c.in_ok-raws.raws.items c.in_ok-raws.ensures.bytes 0 some ∙ ap Some c.requires.volume) c.requires.files c.in-Ok.ensures.added

pub returns-in-Ok-clause-post : goal.returns-in-Ok-clause-post
returns-in-Ok-clause-post g c =
    let some : 0 < length c.in_ok-raws.raws.items = omega (arith, c.in_ok-raws.ensures.number, c.in_ok-raws.raws.ok.0) in
    edition-is c.args.number c.args.header.now c.args.bay.now.files c.gather.new.bay.files _ _ _ _ c.requires.some c.requires.few c.requires.header c.requires.files
    (written-are c.args.number c.args.header.now _ c.args.bay.now.files c.gather.new.bay.files c.requires.header
    (told-at c.args.volume.now c.in_ok-raws.raws.items c.in_ok-raws.ensures.bytes 0 some ∙ ap Some c.requires.volume) c.requires.files c.in-Ok.ensures.added)
    c.in-Ok.ensures.shape c.in-Ok.ensures.has c.in-Ok.ensures.holds

pub unreachable-requires : goal.unreachable-requires
unreachable-requires g c =
    let some : 0 < length c.in_ok-raws.raws.items = omega (arith, c.in_ok-raws.ensures.number, c.in_ok-raws.raws.ok.0) in
    no-wrong-size c.args.number c.in-Err-RawWrongSize.field-0-0 c.in-Err-RawWrongSize.field-0-1 c.args.header.now _ _ _ _ _ c.in-Err-RawWrongSize.field-0 c.requires.header
    (told-at c.args.volume.now c.in_ok-raws.raws.items c.in_ok-raws.ensures.bytes 0 some ∙ ap Some c.requires.volume) c.in-Err-RawWrongSize.field-0-is c.in-Err-RawWrongSize.ensures.cause

pub unreachable-requires-in-Err-RawFault : goal.unreachable-requires-in-Err-RawFault
unreachable-requires-in-Err-RawFault g c =
    no-raw-fault c.args.header.now _ c.in_ok-raws.raws.items c.gather.new.raws.items _ _ c.in-Err-RawFault.field-0-0 c.in-Err-RawFault.field-0-1 c.in-Err-RawFault.field-0 c.in-Err-RawFault.field-0-is c.in-Err-RawFault.ensures.cause
