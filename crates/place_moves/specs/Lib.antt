pub mod Moves
pub mod Journals
pub mod Logs
pub mod Inner
