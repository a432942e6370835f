pub mod RowBlock
pub mod MarkLaws
pub mod PartLaws
pub mod ColumnLaws
pub mod TargetLaws
pub mod VersionLaws
pub mod Seeking
