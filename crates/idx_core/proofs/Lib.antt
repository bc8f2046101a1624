pub mod StepLemmas
pub mod MayLemmas
pub mod PublishLemmas
pub mod ReplayLemmas
pub mod NewLemmas
