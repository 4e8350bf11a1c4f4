pub mod Words
pub mod Dated
pub mod Least
pub mod Delays
pub mod Order
pub mod Lists
pub mod Inner
pub mod Shown
