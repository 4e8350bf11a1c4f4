pub mod Listing
pub mod Lines
pub mod Answer
