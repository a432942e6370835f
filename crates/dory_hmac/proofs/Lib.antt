pub mod EachTag
pub mod LaneLemmas
pub mod ShortMessage
pub mod Tag
pub mod Vectors
