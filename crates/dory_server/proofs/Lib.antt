pub mod FolderWords
pub mod Written
pub mod Served
pub mod Unopened
