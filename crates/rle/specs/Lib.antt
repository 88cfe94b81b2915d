pub mod Found
pub mod Hybrid
pub mod Lenient
pub mod Reading
pub mod Runs
pub mod Theorems
pub mod Writing
