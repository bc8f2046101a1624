use Rattle.std.proofs.Common.{◌≡◌, ℕ, List, [], ◌∷◌}
use Rattle.idx_block.specs.Spread.{part_after}
use Rattle.idx_block.specs.Copies.{EachCopy, IsWanted}
use Rattle.idx_block.proofs.CopyLemmas.{AreSoFar}
use Rattle.idx_block.proofs.rows.band_rows.Given as goal

-- the copies so far are made
abbrev pub invariant-loop-k : goal.invariant-loop-k
invariant-loop-k g l = record {
  part : l.part ≡ part_after l.line.bits l.line.first l.k;
  made : (want : ℕ → List ℕ) → EachCopy (IsWanted want (g.S.Sample.bytes l.sample) l.samples) (l.line ∷ l.band ∷ []) l.from l.place →
      AreSoFar want (g.S.Sample.bytes l.sample) l.line (l.band ∷ []) l.from l.place l.k l.initial.into l.into;
}
