pub mod Portion
pub mod PartOf
pub mod SamePart
pub mod Placing
pub mod Shown
pub mod Inner
