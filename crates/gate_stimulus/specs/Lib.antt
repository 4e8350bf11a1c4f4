pub mod Timescales
pub mod Given
pub mod Inner
pub mod Shown
