pub mod Groups
pub mod Rows
pub mod Inner
