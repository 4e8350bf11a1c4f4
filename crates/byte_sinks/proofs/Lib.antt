pub mod Writing
pub mod Passing
