pub mod Told
pub mod Folders
pub mod InMemory
