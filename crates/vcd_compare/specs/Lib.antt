pub mod Times
pub mod Pairs
pub mod Map
pub mod Dumps
pub mod Comparison
pub mod Answer
pub mod FaultLines
pub mod Inner
