pub mod PlainRow
pub mod Positions
pub mod Recent
