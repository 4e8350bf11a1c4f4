-- What is told so far (`Pending`), what is read of a history (`Reading`), where parts of time begin (`Begins`), and what is told of
-- them (`Parting`).
pub mod Pending
pub mod Reading
pub mod Begins
pub mod Parting
