-- What contracts and views of this crate speak of: what its types show of what they hold, and what its calls do with that.
pub mod Commands
pub mod Headers
pub mod Known
pub mod Scalars
pub mod Scopes
pub mod Words
