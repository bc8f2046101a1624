use Rattle.std.proofs.Common.{◌≡◌, ℕ, ◌^◌, ◌≤◌, subst, arith, min}
use Rattle.std.proofs.lemmas.List.Elements.{All-more}
use Rattle.idx_gather.specs.Streams.{open_bytes}
use Rattle.idx_gather.proofs.begun.opens_few.Goals as goal

few : (result bytes : ℕ) → result ≡ min 18446744073709551615 bytes → result ≤ 1073741824 → bytes ≤ 1073741824
few result bytes is most = omega (arith, is, most)

pub loop-piece-preserved : goal.loop-piece-preserved
loop-piece-preserved c =
    let h = c.args.header.now in
    let docks = c.args.docks.now in
    All-more (λ piece. open_bytes h docks piece.id ≤ 2 ^ 30) c.args.pieces.now c.loop-piece.piece-index c.piece-item.result (omega (arith, c.loop-piece-test.true)) c.loop-piece.invariant
    (subst (λ piece. open_bytes h docks piece.id ≤ 2 ^ 30) c.piece-item.is
    (few c.open_bytes.result (open_bytes h docks c.piece-item.result.id) c.open_bytes.ensures c.if-open_bytes-gt-MOST_OPEN.false))
