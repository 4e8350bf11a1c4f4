-- What an engine plays that is told nothing but the stimulus (`Stepping`), what it tells in the end (`Telling`), and that this is
-- what the circuit's nets do (`Whole`).
pub mod Stepping
pub mod Telling
pub mod Whole
