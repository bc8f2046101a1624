pub mod LockRule
pub mod Seats
