pub mod Asks
pub mod Keeping
pub mod Turns
pub mod Finishing
pub mod Growth
pub mod Receiving
pub mod Pairs
