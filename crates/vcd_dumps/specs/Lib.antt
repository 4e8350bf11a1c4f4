pub mod Codes
pub mod Dump
pub mod Walk
pub mod Inner
pub mod Shown
