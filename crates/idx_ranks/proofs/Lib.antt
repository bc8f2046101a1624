pub mod ListLemmas
pub mod LegalLemmas
pub mod QueueLemmas
pub mod JobLemmas
pub mod FaultLemmas
pub mod LoadLemmas
