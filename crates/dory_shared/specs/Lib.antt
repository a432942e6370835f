pub mod Seen
pub mod Answering
pub mod Reading
pub mod Opening
