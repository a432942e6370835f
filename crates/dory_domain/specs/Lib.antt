pub mod Answered
pub mod Config
pub mod Held
pub mod Setup
pub mod Versions
