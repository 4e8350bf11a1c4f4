pub mod Letters
pub mod Marking
pub mod Naming
