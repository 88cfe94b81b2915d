pub mod Decoder
pub mod Pages
pub mod Run
pub mod Small
