pub mod Bits
pub mod Agreement
pub mod Inner
pub mod Shown
