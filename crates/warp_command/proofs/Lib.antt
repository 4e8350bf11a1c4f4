pub mod Commands
pub mod Lines
pub mod Parting
pub mod Refused
