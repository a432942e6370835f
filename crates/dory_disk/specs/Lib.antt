pub mod Disk
pub mod Remembered
pub mod RememberedLaws
pub mod Untold
