pub mod Bytes
pub mod Digits
pub mod Faults
pub mod Patterns
pub mod Vlq
pub mod Zigzag
