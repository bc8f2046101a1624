use Rattle.idx_layout.specs.Files.{length_of_file}
use Rattle.idx_layout.specs.OfHeader.{placing_of}
use Rattle.idx_gather.proofs.RunLemmas.{IsRunSoFar}
use Rattle.idx_gather.proofs.window.window_count.Given as goal

-- the files so far are the first ones of the run
abbrev pub invariant-loop-count : goal.invariant-loop-count
invariant-loop-count l = IsRunSoFar (length_of_file (placing_of l.header)) l.room l.files l.count l.used
