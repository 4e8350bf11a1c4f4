pub mod Rows
pub mod Induction
pub mod Behaving
pub mod ChangeLists
pub mod Larger
pub mod Beginning
