-- What only the proofs of this crate need: no contract of a public call speaks of it.
pub mod Crew
pub mod Inside
pub mod Rule
pub mod Turn
pub mod Work
