pub mod Own
pub mod Numbered
pub mod Spared
