-- The faults of gathering that come of the phases below.
use Rattle.std.specs.Prelude.{ℕ}
use Rattle.idx_outside.specs.declared.bay_fault.BayFault.{BayFault}
use Rattle.idx_outside.specs.declared.bay_fault.BayFault.TheVariants as bay
use Rattle.idx_ranks.specs.declared.ranks_fault.RanksFault.{RanksFault}
use Rattle.idx_ranks.specs.declared.ranks_fault.RanksFault.TheVariants as ranks
use Rattle.idx_gather.specs.declared.gather_fault.GatherFault.{GatherFault}
use Rattle.idx_gather.specs.declared.gather_fault.GatherFault.TheVariants as faults

-- the fault that is answered where the ranks did not read their parts
abbrev pub fault_of_ranks : RanksFault → GatherFault
fault_of_ranks (ranks.RawFault rank count) = faults.RawFault rank count
fault_of_ranks ranks.NoMemory = faults.NoMemory

-- the fault that is answered where the bay's count is this, and a call on it answered that
abbrev pub fault_of_bay : ℕ → BayFault → GatherFault
fault_of_bay count bay.Outage = faults.StoreFault count
fault_of_bay count bay.NoMemory = faults.NoMemory
