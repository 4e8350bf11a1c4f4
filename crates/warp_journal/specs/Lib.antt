pub mod Books
pub mod Inner
