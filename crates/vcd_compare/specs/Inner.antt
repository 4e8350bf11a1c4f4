pub mod Held
pub mod Sights
pub mod Found
pub mod Reported
pub mod Mapping
pub mod Answer
