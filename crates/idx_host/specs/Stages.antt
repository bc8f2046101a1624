-- The fault that is answered where a stage before the first link is refused.
use Rattle.idx_header.specs.declared.header_refusal.HeaderRefusal.{HeaderRefusal}
use Rattle.idx_header.specs.declared.header_refusal.HeaderRefusal.TheVariants as headers
use Rattle.idx_edition.specs.declared.load_fault.LoadFault.{LoadFault}
use Rattle.idx_edition.specs.declared.load_fault.LoadFault.TheVariants as loads
use Rattle.idx_host.specs.declared.host_fault.HostFault.{HostFault}
use Rattle.idx_host.specs.declared.host_fault.HostFault.TheVariants as faults

-- where a header is refused
abbrev pub fault_of_header : HeaderRefusal → HostFault
fault_of_header (headers.Fault line kind) = faults.Header line kind
fault_of_header headers.Outage = faults.StoreFault
fault_of_header headers.NoMemory = faults.NoMemory

-- where a step is not loaded
abbrev pub fault_of_load : LoadFault → HostFault
fault_of_load (loads.BadTable file row kind) = faults.BadTable file row kind
fault_of_load (loads.StoreFault count) = faults.StoreFault
fault_of_load loads.NoMemory = faults.NoMemory
