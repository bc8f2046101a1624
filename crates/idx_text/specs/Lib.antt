pub mod Number
pub mod Numbers
pub mod Trim
pub mod BoxText
pub mod Lines
pub mod Sections
pub mod Growing
pub mod Entries
