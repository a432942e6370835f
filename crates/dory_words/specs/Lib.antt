pub mod Division
pub mod WordsIn
