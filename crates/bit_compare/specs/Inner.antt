pub mod Moments
pub mod Cursors
pub mod Steps
pub mod Until
