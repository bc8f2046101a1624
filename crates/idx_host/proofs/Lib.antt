pub mod HostLemmas
