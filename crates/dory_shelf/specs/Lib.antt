pub mod Published
pub mod Versions
pub mod BookRule
pub mod ShelfRule
pub mod Slots
pub mod Ops
pub mod Views
pub mod Writing
