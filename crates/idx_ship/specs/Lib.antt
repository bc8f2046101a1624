pub mod Spans
pub mod Made
pub mod Shipments
