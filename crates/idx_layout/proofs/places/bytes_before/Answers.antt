use Rattle.std.proofs.Common.{◌≡◌, sym, ◌∙◌, arith}
use Rattle.idx_layout.specs.Placing.{block_bytes}
use Rattle.idx_layout.specs.OfHeader.{placing_of}
use Rattle.idx_layout.proofs.HeaderLemmas.{same_bytes, sum-more}
use Rattle.idx_layout.proofs.places.bytes_before.Goals as goal

pub loop-i-preserved : goal.loop-i-preserved
loop-i-preserved c =
    let h = c.args.header.now in
    let i = c.loop-i.i in
    let one : c.block_bytes-bytes.result ≡ block_bytes (placing_of h) i =
    c.block_bytes-bytes.ensures.value ∙ sym (same_bytes h i (omega (arith, c.loop-i-test.true, c.requires.field))) in
    record {
      sum = omega (arith, c.loop-i.invariant.sum, one, sum-more (block_bytes (placing_of h)) i);
      few = omega (arith, c.loop-i.invariant.few, c.block_bytes-bytes.ensures.few);
    }
