use Rattle.std.proofs.Common.{sym, subst, ap, ◌∙◌, arith}
use Rattle.idx_header.specs.Header.{HeaderValue, IsHeader}
use Rattle.idx_pieces.specs.Digits.{piece_digits}
use Rattle.idx_dock.proofs.DockLemmas.{pieces_have_addresses}
use Rattle.idx_drill_model.proofs.HeaderLemmas.{header-is}
use Rattle.idx_drill.proofs.EventLemmas.{events-are}
use Rattle.idx_drill.proofs.events.drill_events.Goals as goal

pub ship_all-requires : goal.ship_all-requires
ship_all-requires c =
    let is : IsHeader c.args.header.now = subst (λ (h : HeaderValue). IsHeader h) (sym c.requires.header) (header-is c.args.number c.requires.some c.requires.few) in
    pieces_have_addresses c.args.header.now c.in_ok-pieces.pieces.items is
    (record { e = c.piece_digits.result; ranks = 4; within = c.piece_digits.ensures.within; some = omega arith; is = c.in_ok-pieces.ensures })

pub returns : goal.returns
returns c =
    events-are c.args.number c.piece_digits.result c.args.header.now c.in_ok-pieces.pieces.items c.new-events.result.items c.give_all.new.events.items
    c.ship_all.new.events.items c.write_all.new.events.items c.push.new.self.items c.ask_all.new.events.items c.requires.header
    (c.piece_digits.ensures.digits ∙ ap (λ room. piece_digits c.args.header.now room) c.gather_room.ensures) c.in_ok-pieces.ensures c.new-events.ensures.items c.in_ok-give_all.ensures
    c.in_ok-ship_all.ensures c.in_ok-write_all.ensures c.in_ok-push.ensures.items c.in_ok-ask_all.ensures
