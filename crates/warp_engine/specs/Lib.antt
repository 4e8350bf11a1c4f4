pub mod Runs
pub mod Logs
pub mod Opening
pub mod States
pub mod Nexts
