-- Places that stand for nets do what these do (`Naming`).
pub mod Naming
