pub mod Base
pub mod FieldType
pub mod Field
pub mod Fields
pub mod Worked
