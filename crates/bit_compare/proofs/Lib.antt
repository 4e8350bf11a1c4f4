pub mod Steps
pub mod Moments
pub mod Stretches
pub mod Agreeing
pub mod Alike
