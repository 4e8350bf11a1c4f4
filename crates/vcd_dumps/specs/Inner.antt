-- What only the proofs of this crate need: no contract of a public call speaks of it.
pub mod Merged
pub mod Pieces
pub mod Walk
