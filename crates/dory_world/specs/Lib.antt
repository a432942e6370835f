pub mod Places
pub mod Notes
pub mod Steps
pub mod Plays
