pub mod Asked
pub mod Spelling
pub mod Frame
pub mod Reading
pub mod Read
pub mod StepReply
pub mod Cut
