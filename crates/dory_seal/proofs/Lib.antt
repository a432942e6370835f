pub mod Blocks
pub mod Masks
pub mod SealFacts
pub mod Sealing
pub mod Tagged
pub mod Written
