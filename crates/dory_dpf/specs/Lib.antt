pub mod Block
pub mod Sixteen
pub mod Tree
pub mod PointKey
pub mod KeyBytes
