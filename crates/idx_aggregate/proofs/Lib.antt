pub mod FileLemmas
pub mod AwaitedLemmas
pub mod GainLemmas
pub mod ShipLemmas
pub mod DeliveryLemmas
pub mod WorkerLemmas
pub mod ReadyLemmas
pub mod HeldLemmas
