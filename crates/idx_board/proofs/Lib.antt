pub mod StepLemmas
pub mod RangeLemmas
pub mod BoardLemmas
