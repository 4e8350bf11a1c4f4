pub mod Appending
pub mod Ordering
pub mod Showing
pub mod Writing
pub mod Agreeing
