pub mod StopBits
pub mod Stops
pub mod Least
pub mod Marks
pub mod Order
pub mod Lists
pub mod Spans
pub mod Reading
