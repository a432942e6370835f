pub mod Counts
pub mod Marks
pub mod Parts
pub mod Places
pub mod Target
pub mod Versions
