pub mod Bytes
pub mod Digits
pub mod Overwrite
pub mod Shifts
pub mod VlqLaws
