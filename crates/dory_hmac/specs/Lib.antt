pub mod FolderKeys
pub mod Hmac
pub mod Holds
pub mod Lanes
pub mod Midstate
