-- What only the proofs of this crate need: no contract of a public call speaks of it.
pub mod Clocked
pub mod Faults
pub mod FirstLine
pub mod Hashing
pub mod Keys
pub mod Kinds
pub mod Meaning
pub mod Meant
pub mod Members
pub mod Netlist
pub mod Owned
pub mod Passes
pub mod Readers
pub mod Splits
pub mod Stored
pub mod Tokens
