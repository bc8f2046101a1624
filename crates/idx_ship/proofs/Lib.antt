pub mod CutLemmas
pub mod PrefixLemmas
pub mod InFileLemmas
pub mod MadeLemmas
pub mod SampleLemmas
pub mod ShipmentLemmas
