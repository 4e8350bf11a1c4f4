-- What contracts see of the types of this crate: the value that each shows of its fields.
pub mod Block
pub mod Look
