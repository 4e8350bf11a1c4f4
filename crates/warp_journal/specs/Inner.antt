pub mod Parts
pub mod Playing
