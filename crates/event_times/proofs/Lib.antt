-- How marks are spaced (`Spacing`), and how times are put behind others and taken off (`Cutting`).
pub mod Spacing
mod Cutting
