-- What only the proofs of this crate need: no contract of a public call speaks of it.
pub mod Bundles
pub mod Commands
pub mod Headers
pub mod Items
pub mod Known
pub mod Reading
pub mod Runs
pub mod Scalars
pub mod Scopes
pub mod Settled
pub mod Sought
pub mod Table
pub mod Words
