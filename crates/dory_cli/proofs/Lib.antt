pub mod Walks
pub mod Levels
pub mod InitReads
pub mod Places
pub mod Barring
pub mod WordReads
