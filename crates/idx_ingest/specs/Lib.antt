pub mod Ingested
