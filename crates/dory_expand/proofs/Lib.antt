pub mod Blocks
pub mod Walked
pub mod LeafWords
pub mod Filled
