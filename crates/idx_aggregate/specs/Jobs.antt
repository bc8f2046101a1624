-- What workers make of loads.
use Rattle.std.specs.Prelude.{◌≡◌, List, ◌++◌, All, IfOk}
use Rattle.std.specs.List.{AllZip, flat_map}
use Rattle.std.specs.List.Sorted.{IsPermutation}
use Rattle.idx_header.specs.Header.{HeaderValue}
use Rattle.idx_pieces.specs.declared.shipment.Shipment.{Shipment}
use Rattle.idx_dock.specs.Dock.{DockValue}
use Rattle.idx_ranks.specs.Loads.{IsLoad}
use Rattle.idx_ranks.specs.declared.load.Load.{Load}
use Rattle.idx_aggregate.specs.Shipping.{AreAllMade, AreShipping}
use Rattle.idx_aggregate.specs.declared.job.Job.{Job}

-- the loads of all workers, worker after worker
abbrev pub loads_of : List Job → List Load
loads_of jobs = flat_map (λ job. job.loads.items) jobs

-- a worker may put its loads in order
abbrev pub MayRun : HeaderValue → Job → Type 0
MayRun h job = All (IsLoad h) job.loads.items

-- what a worker made of loads, if there was memory, are their shipments
abbrev pub IsDone : HeaderValue → List Load → Job → Type 0
IsDone h loads job = IfOk job.made (λ made. AreAllMade h loads made.items)

-- what a worker makes of a job
abbrev pub Does : HeaderValue → Job → Job → Type 0
Does h old new = IsDone h old.loads.items new

-- the shipments of some loads are made, and the others are still to be
pub record AreMaking (h : HeaderValue) (loads left : List Load) (made : List Shipment) : Type 0 where
  pub done : List Load
  pub is : done ++ left ≡ loads
  pub valid : All (IsLoad h) left
  pub shipments : AreAllMade h done made

-- the loads of workers, all of which are among some loads, and the rest of them
pub record AreDealt (loads left : List Load) (jobs : List Job) : Type 0 where
  pub done : List Load
  pub is : done ++ left ≡ loads
  pub dealt : IsPermutation done (loads_of jobs)

-- the shipments that workers made are still to be delivered, each worker's those of some loads; docks have gained the
-- others of the same loads in another order
pub record AreDelivering (h : HeaderValue) (loads : List Load) (jobs : List Job) (old docks : List DockValue)
    : Type 0 where
  pub order : List Load
  pub moved : IsPermutation loads order
  pub hands : List (List Load)
  pub done : AllZip (IsDone h) hands jobs
  pub shipping : AreShipping h order (flat_map (λ hand. hand) hands) old docks
