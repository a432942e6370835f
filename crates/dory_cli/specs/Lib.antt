pub mod Words
pub mod Barred
pub mod Texts
pub mod Commands
pub mod Values
pub mod Line
pub mod Rules
