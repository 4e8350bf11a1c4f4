-- What only proofs need: no contract of a public call speaks of it.
pub mod Advance
pub mod Rows
pub mod Told
pub mod Entries
pub mod Heard
pub mod Logs
pub mod Step
pub mod View
