use Rattle.std.proofs.Math.Logic.{∥∥₁_map}
use Rattle.idx_gather.proofs.ToldLemmas.{step_told}
use Rattle.idx_gather.proofs.laws.sealed_files_are_a_step.Goals as goal

pub returns : goal.returns
returns c = λ layout h step known sealed whole tell. ∥∥₁_map whole (λ are. step_told layout h step known sealed are tell)
