pub mod EmptyMap
pub mod Places
