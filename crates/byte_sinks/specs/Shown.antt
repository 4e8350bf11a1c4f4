-- What the views of this crate speak of: what its types show of what they hold.
pub mod Grown
