pub mod Epoch
pub mod Message
pub mod Runs
pub mod Seal
