pub mod TotalLemmas
pub mod MovingLemmas
pub mod WorkLemmas
pub mod CountLemmas
