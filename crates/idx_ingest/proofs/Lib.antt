pub mod PublishLemmas
