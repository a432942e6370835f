pub mod Updates
pub mod Heads
pub mod States
pub mod Written
