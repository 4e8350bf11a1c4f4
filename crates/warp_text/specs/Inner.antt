-- What only the proofs of this crate need: no contract of a public call speaks of it.
pub mod Answer
pub mod Cuts
pub mod FaultLines
pub mod Replay
pub mod Only
pub mod Firsts
