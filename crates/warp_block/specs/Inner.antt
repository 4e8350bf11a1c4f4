-- What only the proofs of this crate need: no contract of a public call speaks of it.
pub mod Ending
pub mod Give
pub mod Held
pub mod HeldBlock
