pub mod Prefixes
pub mod Growing
pub mod Counting
pub mod Adding
pub mod SlotLaws
pub mod Shelving
