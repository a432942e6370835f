pub mod Digits
pub mod WordLaws
pub mod LineLaws
