pub mod Ops
pub mod Made
pub mod Bytes
pub mod Runs
pub mod Writing
pub mod Recording
pub mod Reading
