pub mod Fields
pub mod Many
pub mod Unpacking
pub mod Packing
pub mod Words
