pub mod Reads
pub mod Shown
pub mod Inner
