pub mod Lists
pub mod Leads
pub mod Written
pub mod Asked
pub mod Drill
pub mod Worked
