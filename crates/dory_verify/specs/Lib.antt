pub mod Answer
pub mod Checks
pub mod Forgery
pub mod Honest
pub mod Listing
pub mod SideBySide
pub mod Tags
pub mod Texts
