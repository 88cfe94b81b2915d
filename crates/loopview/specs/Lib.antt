pub mod Columns
pub mod Fields
pub mod Flags
pub mod Readings
