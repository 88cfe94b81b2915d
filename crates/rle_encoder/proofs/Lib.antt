pub mod Added
pub mod Closed
pub mod Keeping
pub mod Lengths
pub mod Steps
