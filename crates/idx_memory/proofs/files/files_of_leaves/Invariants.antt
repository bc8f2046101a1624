use Rattle.std.proofs.Common.{◌≡◌, take, Some}
use Rattle.idx_outside.specs.Files.{leaf_files}
use Rattle.idx_memory.specs.Memory.{LeafState}
use Rattle.idx_memory.proofs.files.files_of_leaves.Given as goal

abbrev pub invariant-loop-path : goal.invariant-loop-path
invariant-loop-path l = l.files.items ≡ leaf_files (λ (leaf : LeafState). Some leaf.bytes) l.folder (take l.path-index l.leaves.items)
