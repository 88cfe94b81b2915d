pub mod Opening
pub mod Parts
pub mod Puts
pub mod Trip
pub mod Worked
