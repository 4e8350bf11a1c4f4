-- What only the proofs of this crate need: no contract of a public call speaks of it.
pub mod Buckets
pub mod HeldWaves
pub mod Keys
pub mod Lists
pub mod Merging
pub mod Packed
pub mod Pairs
pub mod Placing
pub mod Stops
pub mod Timeline
