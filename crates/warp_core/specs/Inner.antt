-- What only the proofs of this crate need: no contract of a public call speaks of it.
pub mod Drive
pub mod Findings
pub mod Gather
pub mod HeldWorld
pub mod Kept
pub mod Opened
pub mod Order
pub mod Turns
pub mod Waiting
