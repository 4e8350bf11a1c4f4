pub mod Settling
pub mod Simulating
pub mod Alone
pub mod Replaying
pub mod Telling
