pub mod ChangesOf
pub mod Laid
pub mod Latest
pub mod WaveValues
