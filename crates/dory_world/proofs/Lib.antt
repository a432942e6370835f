pub mod Sets
pub mod Masks
pub mod Runs
pub mod Rounds
pub mod Domains
pub mod Members
pub mod Begun
