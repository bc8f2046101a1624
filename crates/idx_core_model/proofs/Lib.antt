pub mod FileLemmas
pub mod PieceLemmas
pub mod AnswerLemmas
pub mod SettingLemmas
pub mod HeadlineLemmas
