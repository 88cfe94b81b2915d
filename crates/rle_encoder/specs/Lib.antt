pub mod Encoder
pub mod Encoding
pub mod Extending
pub mod Finishing
pub mod Keeping
