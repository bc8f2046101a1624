-- What is answered where a stage of a check is refused.
use Rattle.idx_header.specs.declared.header_refusal.HeaderRefusal.{HeaderRefusal}
use Rattle.idx_header.specs.declared.header_refusal.HeaderRefusal.TheVariants as headers
use Rattle.idx_check.specs.declared.check_fault.CheckFault.{CheckFault}
use Rattle.idx_check.specs.declared.check_fault.CheckFault.TheVariants as checks
use Rattle.idx_check.specs.declared.refused_check.RefusedCheck.{RefusedCheck}
use Rattle.idx_check.specs.declared.refused_check.RefusedCheck.TheVariants.{Header, StoreFault, NoMemory}

-- what is answered where a header is refused
abbrev pub refused_of_header : HeaderRefusal → RefusedCheck
refused_of_header (headers.Fault line kind) = Header line kind
refused_of_header headers.Outage = StoreFault
refused_of_header headers.NoMemory = NoMemory

-- what is answered where the files of a step are not compared
abbrev pub refused_of_check : CheckFault → RefusedCheck
refused_of_check (checks.StoreFault faults) = StoreFault
refused_of_check checks.NoMemory = NoMemory
