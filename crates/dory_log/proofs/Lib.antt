pub mod OwnLaws
pub mod NumberLaws
pub mod RoomLaws
pub mod JoinLaws
pub mod CommitLaws
