pub mod Circuits
pub mod Looks
pub mod Names
pub mod Sentences
pub mod Words
