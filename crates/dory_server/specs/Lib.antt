pub mod Folder
pub mod Line
pub mod End
pub mod Opening
pub mod Served
pub mod Faulty
