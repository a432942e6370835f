pub mod Bytes
pub mod Packing
pub mod Left
pub mod Reading
