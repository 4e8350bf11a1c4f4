pub mod Histories
pub mod Stories
pub mod Shown
pub mod Inner
