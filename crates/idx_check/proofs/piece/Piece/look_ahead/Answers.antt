use Rattle.std.proofs.Common.{◌-◌}
use Rattle.std.specs.Prelude.{Err, Ok, OnOk, Result}
use Rattle.idx_check.proofs.PieceLemmas.{way_read}
use Rattle.idx_check.proofs.piece.Piece.look_ahead.Goals as goal

pub returns-clause-way : goal.returns-clause-way
returns-clause-way g c =
    on_ok (λ size same.
    way_read (g.L.Leaf.contents c.args.leaf.now) c.read_padded.new.into.items c.args.stretch.unit c.args.at (c.args.stretch.end - c.args.at) 65536 c.min-count.result
    c.requires.way.rest c.min-count.ensures size same) c.read_padded.result c.read_padded.ensures.length c.read_padded.ensures.bytes
  where
    on_ok : {T E P Q S : Type 0} → (P → Q → S) → (r : Result T E) → OnOk r P → OnOk r Q → OnOk r S
    on_ok f (Ok x) p q = f p q
    on_ok f (Err e) p q = tt
