mod SpanLemmas
mod NumberLemmas
mod PartLemmas
mod RootLemmas
mod DescentLemmas
mod LevelsLemmas
mod CountingLemmas
mod OutsideLemmas
mod ListLemmas
mod BlockLemmas
mod NeededLemmas
pub mod PlanLemmas
pub mod AnswerLemmas
pub mod RoundLemmas
