pub mod Runs
pub mod Histories
pub mod FirstMoves
pub mod Inner
