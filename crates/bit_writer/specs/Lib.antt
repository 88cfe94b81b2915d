pub mod Sizes
pub mod Writer
