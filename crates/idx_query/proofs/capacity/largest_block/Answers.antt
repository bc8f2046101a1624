use Rattle.std.proofs.Common.{◌≡◌, ℕ, ◌+◌, List, [], ◌∷◌, map, sym, ap, ◌∙◌, arith}
use Rattle.std.specs.Prelude.{max}
use Rattle.std.specs.List.{fold, range_with_len}
use Rattle.std.proofs.lemmas.List.FromFn.{map-range_with_len_more}
use Rattle.std.proofs.lemmas.List.Sums.{fold-append}
use Rattle.idx_header.specs.Header.{block_bytes}
use Rattle.idx_query.proofs.capacity.largest_block.Goals as goal

pub loop-field-preserved : goal.loop-field-preserved
loop-field-preserved c =
    let bytes : ℕ → ℕ = block_bytes c.args.header.now in
    let k = c.loop-field.field in
    let before : List ℕ = map bytes (range_with_len 0 k) in
    let more : fold max 1 (map bytes (range_with_len 0 (k + 1))) ≡ max (fold max 1 before) (bytes k) =
    ap (fold max 1) (map-range_with_len_more bytes 0 k k (omega arith)) ∙ fold-append max 1 before (bytes k ∷ []) in
    let next : c.max-largest.result ≡ max c.loop-field.largest c.block_bytes.result = grind (arith, c.max-largest.ensures) in
    record {
      same = next ∙ (λ i. max (c.loop-field.invariant.same i) (c.block_bytes.ensures.value i)) ∙ sym more;
      some = grind (arith, next, c.loop-field.invariant.some);
      few = grind (arith, next, c.loop-field.invariant.few, c.block_bytes.ensures.few);
    }
