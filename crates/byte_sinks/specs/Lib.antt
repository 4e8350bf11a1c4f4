pub mod Sink
pub mod Lots
pub mod Shown
