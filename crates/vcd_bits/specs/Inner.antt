pub mod Paths
pub mod Held
