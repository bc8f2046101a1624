use Rattle.idx_table.proofs.FaultLemmas.{first_fault-none, none-first_fault, first_fault-some, some-first_fault}
use Rattle.idx_table.proofs.laws.first_faults_are_first.Goals as goal

pub returns-clause-none : goal.returns-clause-none
returns-clause-none c =
    λ front blocks rows len. (none-first_fault front rows blocks len, first_fault-none front rows blocks len)

pub returns-clause-some : goal.returns-clause-some
returns-clause-some c =
    λ front blocks rows len fault. (some-first_fault front rows blocks len fault, first_fault-some front rows blocks len fault)
