use Rattle.std.proofs.Common.{◌≡◌, ℕ, ◌+◌, ◌-◌, length, take, drop, ◌∙◌, arith}
use Rattle.std.proofs.lemmas.List.{length-drop, length-take}
use Rattle.idx_check.proofs.PadLemmas.{front_length, padded_none, padded_read}
use Rattle.idx_check.proofs.PiecesLemmas.{reads_one}
use Rattle.idx_check.proofs.piece.fill_padded.Goals as goal

pub returns-then-standing-eq0-clause-bytes : goal.returns-then-standing-eq0-clause-bytes
returns-then-standing-eq0-clause-bytes g c =
    let n : ℕ = length (take (length c.args.into.now - c.min-standing.result) (drop c.min-standing.result c.args.into.now)) in
    padded_none (g.L.Leaf.contents c.args.leaf.now) c.args.into.now c.fill.new.self c.args.at c.args.there c.min-standing.result n c.requires.length
    (c.min-standing.ensures ∙ omega (arith, c.saturating_sub.ensures)) c.if-standing-eq0.true (c.fill.ensures.after (λ y e. e))
    (length-take (length c.args.into.now - c.min-standing.result) (drop c.min-standing.result c.args.into.now) ∙ omega (arith, length-drop c.min-standing.result c.args.into.now))

pub returns-in-Ok-clause-bytes : goal.returns-in-Ok-clause-bytes
returns-in-Ok-clause-bytes g c =
    let front = front_length c.args.into.now c.fill.new.self c.min-standing.result (omega (arith, c.min-standing.ensures)) in
    let front_read : length c.read_at.new.into ≡ c.min-standing.result = c.read_at.auto.into ∙ front in
    let n : ℕ = length (take (length c.args.into.now - c.min-standing.result) (drop c.min-standing.result c.args.into.now)) in
    padded_read (g.L.Leaf.contents c.args.leaf.now) c.args.into.now c.fill.new.self c.read_at.new.into c.args.at c.args.there c.min-standing.result n _ c.requires.length
    (c.min-standing.ensures ∙ omega (arith, c.saturating_sub.ensures)) (c.fill.ensures.after (λ y e. e))
    (length-take (length c.args.into.now - c.min-standing.result) (drop c.min-standing.result c.args.into.now) ∙ omega (arith, length-drop c.min-standing.result c.args.into.now))
    front front_read c.in-Ok.ensures.read

pub returns-in-Ok-clause-pieces : goal.returns-in-Ok-clause-pieces
returns-in-Ok-clause-pieces g c =
    let reads = g.R.Reader.reads in
    let asked = g.R.Reader.asked in
    let front = front_length c.args.into.now c.fill.new.self c.min-standing.result (omega (arith, c.min-standing.ensures)) in
    reads_one (reads c.args.reader.now) (reads c.read_at.new.self) (asked c.args.reader.now) (asked c.read_at.new.self) c.args.at (c.args.at + length c.args.into.now) _ c.read_at.ensures.reads c.read_at.ensures.asked
    (omega (arith, front, c.if-standing-eq0.false)) (omega (arith, front, c.min-standing.ensures, c.requires.few)) (omega (arith, front, c.min-standing.ensures))
