pub mod Coming
pub mod Answering
pub mod Underway
pub mod Complete
