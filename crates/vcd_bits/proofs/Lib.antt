pub mod PathLaws
pub mod ScopedLaws
pub mod NameLaws
pub mod TableLaws
pub mod CodeLaws
pub mod FirstScope
