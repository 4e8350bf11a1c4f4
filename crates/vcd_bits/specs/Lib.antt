pub mod Scopes
pub mod Names
pub mod Bits
pub mod Inner
pub mod Shown
