-- What only the proofs of this crate need: no contract of a public call speaks of it.
pub mod Pending
pub mod Parts
pub mod Begins
pub mod Untold
