-- What only proofs need: no contract of a public call speaks of it.
pub mod Queues
pub mod Firsts
pub mod Soonest
pub mod Bringing
