-- The fault that is answered where a stage of an answer is refused.
use Rattle.idx_header.specs.declared.header_refusal.HeaderRefusal.{HeaderRefusal}
use Rattle.idx_header.specs.declared.header_refusal.HeaderRefusal.TheVariants as headers
use Rattle.idx_plan.specs.declared.plan_fault.PlanFault.{PlanFault}
use Rattle.idx_plan.specs.declared.plan_fault.PlanFault.TheVariants as plans
use Rattle.idx_edition.specs.declared.load_fault.LoadFault.{LoadFault}
use Rattle.idx_edition.specs.declared.load_fault.LoadFault.TheVariants as loads
use Rattle.idx_query.specs.declared.query_fault.QueryFault.{QueryFault}
use Rattle.idx_query.specs.declared.query_fault.QueryFault.TheVariants as queries
use Rattle.idx_extract.specs.declared.extract_fault.ExtractFault.{ExtractFault}
use Rattle.idx_extract.specs.declared.extract_fault.ExtractFault.TheVariants as faults

-- the fault that is answered where a header is refused
abbrev pub fault_of_header : HeaderRefusal → ExtractFault
fault_of_header (headers.Fault line kind) = faults.Header line kind
fault_of_header headers.Outage = faults.StoreFault
fault_of_header headers.NoMemory = faults.NoMemory

-- the fault that is answered where a question has no plan
abbrev pub fault_of_plan : PlanFault → ExtractFault
fault_of_plan plans.NoMemory = faults.NoMemory
fault_of_plan fault = faults.Plan fault

-- the fault that is answered where a step is not opened
abbrev pub fault_of_load : LoadFault → ExtractFault
fault_of_load (loads.BadTable file row kind) = faults.BadTable file row kind
fault_of_load (loads.StoreFault count) = faults.StoreFault
fault_of_load loads.NoMemory = faults.NoMemory

-- the fault that is answered where the blocks of a step are not copied
abbrev pub fault_of_query : QueryFault → ExtractFault
fault_of_query (queries.Plan fault) = fault_of_plan fault
fault_of_query (queries.NotPublished board) = faults.NotPublished
fault_of_query (queries.StoreFault count) = faults.StoreFault
fault_of_query queries.NoMemory = faults.NoMemory
