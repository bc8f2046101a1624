use Rattle.std.proofs.Common.{◌≡◌, ◌+◌, ◌≤◌, ◌++◌, List, Option, All, true}
use Rattle.std.specs.Prelude.{map, vec_capacity, vec_len}
use Rattle.std.specs.List.{AllByRecursion}
use Rattle.std.specs.Vec.Iter.{into_iter_items, into_iter_len}
use Rattle.idx_outside.specs.Files.{shown}
use Rattle.idx_outside.specs.declared.mem_file.MemFile.{MemFile}
use Rattle.idx_seal.specs.Jobs.{Finishes, IsFinished, is_sealed, job_shown}
use Rattle.idx_seal.proofs.leaves.take_leaves.Given as goal

-- the leaves so far, and those of the jobs that are left behind them, are all
abbrev pub invariant-jobs : goal.invariant-jobs
invariant-jobs g l =
    let contents = g.L.Leaf.contents in
    record {
      all : shown contents l.leaves.items ++ map (job_shown contents) (into_iter_items l.left) ≡ shown contents l.fn.leaves.items ++ map (job_shown contents) l.fn.jobs.items;
      sealed : AllByRecursion (λ job. is_sealed job.file ≡ true) (into_iter_items l.left);
      finished : (known : Option (List MemFile)) → AllByRecursion (Finishes g.L.Leaf.path g.L.Leaf.faults known) l.fn.jobs.items → All (IsFinished g.L.Leaf.path g.L.Leaf.faults known) l.fn.leaves.items →
          AllByRecursion (Finishes g.L.Leaf.path g.L.Leaf.faults known) (into_iter_items l.left) × All (IsFinished g.L.Leaf.path g.L.Leaf.faults known) l.leaves.items;
      number : vec_len l.leaves + into_iter_len l.left ≡ vec_len l.fn.leaves + vec_len l.fn.jobs;
      room : vec_len l.leaves + into_iter_len l.left ≤ vec_capacity l.leaves;
      grows : vec_capacity l.fn.leaves ≤ vec_capacity l.leaves;
    }

abbrev pub decreases-jobs : goal.decreases-jobs
decreases-jobs g l = into_iter_len l.left
