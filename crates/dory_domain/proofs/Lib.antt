pub mod Lists
pub mod HeldLaws
pub mod FoundLaws
pub mod ConfigLaws
pub mod RangeLaws
pub mod StepHeld
pub mod VersionLaws
