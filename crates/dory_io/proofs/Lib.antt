pub mod WriteLemmas
mod Numerals
pub mod Coming
