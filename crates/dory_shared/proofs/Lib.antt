pub mod Folding
pub mod Holding
pub mod Making
pub mod SeatLists
pub mod Setting
