pub mod SightLaws
pub mod PairLaws
pub mod MapLaws
pub mod SourceLaws
pub mod FoundLaws
pub mod CountLaws
pub mod AloneLaws
pub mod Answering
