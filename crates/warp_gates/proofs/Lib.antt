-- Laws of values in a byte (`Bits`), of what sets places (`Wirings`), of values shown to who reads them (`Showing`).
pub mod Bits
pub mod Wirings
pub mod Showing
pub mod Moving
pub mod Folding
pub mod Padding
pub mod Stale
pub mod Telling
pub mod Evaluating
pub mod Reached
pub mod Loading
pub mod Passing
pub mod Steps
pub mod Undoing
pub mod Listing
pub mod Starting
pub mod Lawful
