pub mod AsRead
pub mod Heads
pub mod Read
pub mod Reply
pub mod Values
pub mod Worked
