use Rattle.std.proofs.Common.{◌≡◌, ℕ, length, take, Some}
use Rattle.idx_query.specs.Blocks.{blocks_of}
use Rattle.idx_query.proofs.CopyLemmas.{KnownCopiedTo}
use Rattle.idx_core_model.specs.Layers.{held_block}
use Rattle.idx_core_asks.proofs.asked.copy_all.Given as goal

-- the blocks of the keys so far were copied
abbrev pub invariant-loop-i : goal.invariant-loop-i
invariant-loop-i l = record {
  room : length l.out ≡ l.plan.bytes;
  copied : KnownCopiedTo (Some (λ (f : ℕ). held_block l.held)) l.plan 0 (blocks_of (take l.i l.plan.keys)) l.fn.out l.out;
}
